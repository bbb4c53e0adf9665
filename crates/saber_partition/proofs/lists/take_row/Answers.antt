use Rattle.std.proofs.Common.{◌≡◌, ◌+◌, ◌<◌, List, ℤ, length, set, sym, ◌∙◌, ap, rules, arith}
use Rattle.std.proofs.lemmas.Result.{on_ok_weaker}
use Rattle.std.specs.FinMap.{insert}
use Rattle.saber_plan.specs.Trees.{tree_of}
use Rattle.saber_plan.specs.Windows.{closed_count, begun_count}
use Rattle.saber_places.proofs.Numbering.{number_below}
use Rattle.saber_partition.specs.Pieces.{mark_with}
use Rattle.saber_partition.specs.Stores.{own_of, kept_lists, own_lists, made_of}
use Rattle.saber_partition.proofs.Coming.{us, place_small, row_comes, keeps_found, row_came}
use Rattle.saber_partition.proofs.Kept.{kept_at, kept_set}
use Rattle.saber_partition.proofs.lists.take_row.Goals as goal

pub numbers_behind-low-requires : goal.numbers_behind-low-requires
numbers_behind-low-requires g c =
    let (xs, r, comes) = c.requires.comes in
    place_small (tree_of c.args.plan.now) xs r (made_of c.args.parts.now c.args.row) (kept_lists c.args.store.now) comes

pub index_mut-own-requires : goal.index_mut-own-requires
index_mut-own-requires g c =
    let below = number_below c.args.row.list.items c.args.store.now.known c.in-Some.number (sym c.find.ensures.number ∙ c.in-Some.is) in
    let less : c.in-Some.number < length c.args.store.now.lists.items = omega (arith, below, c.requires.long) in
    search rules

pub take_row-requires : goal.take_row-requires
take_row-requires g c =
    let q = tree_of c.args.plan.now in
    let p = made_of c.args.parts.now c.args.row in
    let k = c.args.row.list.items in
    let ls = c.args.store.now.known in
    let ks = c.args.store.now.lists.items in
    let m = kept_lists c.args.store.now in
    let (xs, r, comes) = c.requires.comes in
    let n = c.numbers_behind-low in
    let after = mark_with (c.args.row.place + 1) in
    let number = sym c.find.ensures.number ∙ c.in-Some.is in
    let below = number_below k ls c.in-Some.number number in
    let less : c.in-Some.number < length ks = omega (arith, below, c.requires.long) in
    let own = c.index_mut-own.result.now in
    let here = kept_at k ls ks c.in-Some.number own number less (sym c.index_mut-own.ensures.value) in (
      us q xs r p m comes,
      r,
      row_comes q xs r p m comes n.result.0 n.result.1 (n.ensures.low ∙ ap (λ f. closed_count f after) c.requires.windows) (n.ensures.past ∙ ap (λ f. begun_count f after) c.requires.windows),
      keeps_found q xs r p m comes (own_of own) here,
    )

pub returns-in-Some-clause-came : goal.returns-in-Some-clause-came
returns-in-Some-clause-came g c =
    let q = tree_of c.args.plan.now in
    let p = made_of c.args.parts.now c.args.row in
    let k = c.args.row.list.items in
    let ls = c.args.store.now.known in
    let ks = c.args.store.now.lists.items in
    let m = kept_lists c.args.store.now in
    let n = c.numbers_behind-low in
    let after = mark_with (c.args.row.place + 1) in
    let number = sym c.find.ensures.number ∙ c.in-Some.is in
    let below = number_below k ls c.in-Some.number number in
    let less : c.in-Some.number < length ks = omega (arith, below, c.requires.long) in
    let own = c.index_mut-own.result.now in
    let here = kept_at k ls ks c.in-Some.number own number less (sym c.index_mut-own.ensures.value) in
    let owned = c.take_row.new.self in
    let new : own_lists c.find.new.self (set ks c.in-Some.number owned) ≡ insert m k (own_of owned) =
    ap (λ (l : List (List ℤ)). own_lists l (set ks c.in-Some.number owned)) c.find.ensures.same ∙ kept_set k ls ks c.in-Some.number owned number less in
    on_ok_weaker c.take_row.result (λ came xs r comes.
    row_came q xs r p m comes (own_of owned) (own_lists c.find.new.self (set ks c.in-Some.number owned)) c.args.out.now.items c.take_row.new.out.items new
    (came (us q xs r p m comes) r
    (row_comes q xs r p m comes n.result.0 n.result.1 (n.ensures.low ∙ ap (λ f. closed_count f after) c.requires.windows) (n.ensures.past ∙ ap (λ f. begun_count f after) c.requires.windows))
    (keeps_found q xs r p m comes (own_of own) here)))
    c.take_row.ensures.came
