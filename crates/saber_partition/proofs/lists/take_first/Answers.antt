use Rattle.std.proofs.Common.{◌+◌, ◌∙◌, ap}
use Rattle.std.proofs.lemmas.Result.{on_ok_weaker}
use Rattle.saber_plan.specs.Trees.{tree_of}
use Rattle.saber_plan.specs.Windows.{closed_count, begun_count}
use Rattle.saber_partition.specs.Pieces.{mark_with}
use Rattle.saber_partition.specs.Stores.{own_of, kept_lists, made_of}
use Rattle.saber_partition.proofs.Coming.{us, place_small, row_comes, keeps_first, row_came}
use Rattle.saber_partition.proofs.Kept.{kept_none}
use Rattle.saber_partition.proofs.lists.take_first.Goals as goal

pub numbers_behind-low-requires : goal.numbers_behind-low-requires
numbers_behind-low-requires g c =
    let (xs, r, comes) = c.requires.comes in
    place_small (tree_of c.args.plan.now) xs r (made_of c.args.parts.now c.args.row) (kept_lists c.args.store.now) comes

pub take_row-requires : goal.take_row-requires
take_row-requires g c =
    let q = tree_of c.args.plan.now in
    let p = made_of c.args.parts.now c.args.row in
    let m = kept_lists c.args.store.now in
    let (xs, r, comes) = c.requires.comes in
    let n = c.numbers_behind-low in
    let after = mark_with (c.args.row.place + 1) in
    let own = c.of_none-own.result in (
      us q xs r p m comes,
      r,
      row_comes q xs r p m comes n.result.0 n.result.1 (n.ensures.low ∙ ap (λ f. closed_count f after) c.requires.windows) (n.ensures.past ∙ ap (λ f. begun_count f after) c.requires.windows),
      keeps_first q xs r p m comes own.windows.next own.begun own.windows.slices.entries c.of_none-own.ensures.next c.of_none-own.ensures.begun c.of_none-own.ensures.parts (kept_none c.args.row.list.items c.args.store.now.known c.args.store.now.lists.items c.requires.missing),
    )

pub returns-clause-came : goal.returns-clause-came
returns-clause-came g c =
    let q = tree_of c.args.plan.now in
    let p = made_of c.args.parts.now c.args.row in
    let m = kept_lists c.args.store.now in
    let n = c.numbers_behind-low in
    let after = mark_with (c.args.row.place + 1) in
    let first = c.of_none-own in
    on_ok_weaker c.put_new.result (λ new xs r comes.
    row_came q xs r p m comes (own_of c.take_row.new.self) (kept_lists c.put_new.new.store) c.args.out.now.items c.take_row.new.out.items new
    (c.in-Ok.ensures.came (us q xs r p m comes) r
    (row_comes q xs r p m comes n.result.0 n.result.1 (n.ensures.low ∙ ap (λ f. closed_count f after) c.requires.windows) (n.ensures.past ∙ ap (λ f. begun_count f after) c.requires.windows))
    (keeps_first q xs r p m comes first.result.windows.next first.result.begun first.result.windows.slices.entries first.ensures.next first.ensures.begun first.ensures.parts
    (kept_none c.args.row.list.items c.args.store.now.known c.args.store.now.lists.items c.requires.missing))))
    c.put_new.ensures.put
