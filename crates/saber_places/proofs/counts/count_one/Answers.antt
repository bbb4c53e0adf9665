use Rattle.std.proofs.Common.{◌≡◌, ◌+◌, ◌<◌, ◌∙◌, ◌++◌, ◌∷◌, [], ℕ, ℤ, List, length, set, sym, ap, ap₂, rules, arith}
use Rattle.std.specs.FinMap.{insert}
use Rattle.saber_places.specs.Counts.{count_of}
use Rattle.saber_places.specs.Numbering.{by_list}
use Rattle.saber_places.proofs.Numbering.{number_below, set_at, pushed_at}
use Rattle.saber_places.proofs.Tallied.{count_at, count_none}
use Rattle.saber_places.proofs.counts.count_one.Goals as goal

pub index-before-requires : goal.index-before-requires
index-before-requires c =
    let below = number_below c.args.list.items c.args.known.now c.in-Some.number (sym c.find.ensures.number ∙ c.in-Some.is) in
    let less : c.in-Some.number < length c.args.counts.now.items = omega (arith, below, c.requires.long) in
    search rules

pub overflow_add-before : goal.overflow_add-before
overflow_add-before c =
    let number = sym c.find.ensures.number ∙ c.in-Some.is in
    let below = number_below c.args.list.items c.args.known.now c.in-Some.number number in
    let less : c.in-Some.number < length c.args.counts.now.items = omega (arith, below, c.requires.long) in
    let here = count_at c.args.list.items c.args.known.now c.args.counts.now.items c.in-Some.number c.index-before.result.now number less (sym c.index-before.ensures) in
    omega (arith, here, c.requires.small)

pub index_mut-requires : goal.index_mut-requires
index_mut-requires c =
    let below = number_below c.args.list.items c.args.known.now c.in-Some.number (sym c.find.ensures.number ∙ c.in-Some.is) in
    let less : c.in-Some.number < length c.args.counts.now.items = omega (arith, below, c.requires.long) in
    search rules

pub returns-in-Some-clause-was : goal.returns-in-Some-clause-was
returns-in-Some-clause-was c =
    let number = sym c.find.ensures.number ∙ c.in-Some.is in
    let below = number_below c.args.list.items c.args.known.now c.in-Some.number number in
    let less : c.in-Some.number < length c.args.counts.now.items = omega (arith, below, c.requires.long) in
    sym (count_at c.args.list.items c.args.known.now c.args.counts.now.items c.in-Some.number c.index-before.result.now number less (sym c.index-before.ensures))

pub returns-in-Some-clause-counted : goal.returns-in-Some-clause-counted
returns-in-Some-clause-counted c =
    let k = c.args.list.items in
    let ls = c.args.known.now in
    let ns = c.args.counts.now.items in
    let i = c.in-Some.number in
    let n = c.index-before.result.now in
    let number = sym c.find.ensures.number ∙ c.in-Some.is in
    let below = number_below k ls i number in
    let less : i < length ns = omega (arith, below, c.requires.long) in
    let here : count_of (by_list ls ns) k ≡ n = count_at k ls ns i n number less (sym c.index-before.ensures) in
    ap (λ (l : List (List ℤ)). by_list l (set ns i (n + 1))) c.find.ensures.same
    ∙ set_at k ls ns i (n + 1) number less
    ∙ ap (λ (x : ℕ). insert (by_list ls ns) k (x + 1)) (sym here)

pub returns-in_ok-push-in-None-clause-was : goal.returns-in_ok-push-in-None-clause-was
returns-in_ok-push-in-None-clause-was c =
    sym (count_none c.args.list.items c.args.known.now c.args.counts.now.items (sym c.find.ensures.number ∙ c.in-None.is))

pub returns-in_ok-push-in-None-clause-counted : goal.returns-in_ok-push-in-None-clause-counted
returns-in_ok-push-in-None-clause-counted c =
    let k = c.args.list.items in
    let ls = c.args.known.now in
    let ns = c.args.counts.now.items in
    let none = sym c.find.ensures.number ∙ c.in-None.is in
    ap₂ (λ (l : List (List ℤ)) (m : List ℕ). by_list l m) (c.in_ok-add-in-None.ensures ∙ ap (λ (l : List (List ℤ)). l ++ k ∷ []) c.find.ensures.same) c.in_ok-push-in-None.ensures.items
    ∙ pushed_at k ls ns 1 none c.requires.long
    ∙ ap (λ (x : ℕ). insert (by_list ls ns) k (x + 1)) (sym (count_none k ls ns none))
