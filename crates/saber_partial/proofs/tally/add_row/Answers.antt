use Rattle.std.proofs.Common.{◌+◌, List, length, drop, take, get_or, nat_abs, ℤ, pos, refl, sym, ◌∙◌, ap, ap₂, subst, subst₂, arith}
use Rattle.std.specs.List.{AllByRecursion}
use Rattle.saber_plan.specs.declared.plans.Aggregate.{Aggregate}
use Rattle.saber_plan.specs.Trees.{tree_of}
use Rattle.saber_plan.specs.Parts.{Numbers, join_numbers}
use Rattle.saber_partial.specs.Flat.{entry_in, with_folds}
use Rattle.saber_partial.specs.Gathering.{plan_folds, stepped_numbers, values_over, HasRoom, IsSmall}
use Rattle.saber_partial.specs.Tallies.{CanJoin}
use Rattle.saber_partial.proofs.Folded.{length-over, sums_have_room}
use Rattle.saber_partial.proofs.RowNumbers.{behind_many, behind_write, entry_after, folds_are, plan_numbers, plan_room, plan_stepped, plan_tally, row_after, sum_held}
use Rattle.saber_partial.proofs.tally.add_row.Goals as goal

pub add_values-requires-clause-long : goal.add_values-requires-clause-long
add_values-requires-clause-long c =
    let l = c.args.layout.now in
    let xs = c.args.xs.now in
    let gs = (tree_of c.args.aggregates.now).aggregates in
    ap length (behind_write xs l.keys _) ∙ behind_many l xs gs c.args.row.now.values c.requires.layout c.requires.mine c.requires.can ∙ sym (ap length c.list.ensures)

pub add_values-requires-clause-room : goal.add_values-requires-clause-room
add_values-requires-clause-room c =
    let l = c.args.layout.now in
    let xs = c.args.xs.now in
    let gs = (tree_of c.args.aggregates.now).aggregates in
    subst₂ (λ (a : List Aggregate) (b : List ℤ). AllByRecursion HasRoom (with_folds (plan_folds a) b)) (sym c.list.ensures) (sym (behind_write xs l.keys _))
    (plan_room l xs gs c.args.row.now.values c.requires.layout c.requires.mine c.requires.can
    (sums_have_room (nat_abs (get_or xs l.keys (pos 0))) _ c.requires.mine.tally.few c.requires.mine.tally.small))

pub returns-clause-row : goal.returns-clause-row
returns-clause-row c =
    let l = c.args.layout.now in
    let xs = c.args.xs.now in
    let gs = (tree_of c.args.aggregates.now).aggregates in
    let zs = c.args.row.now.values in
    let rest = drop (l.keys + 1) xs in
    let many = behind_many l xs gs zs c.requires.layout c.requires.mine c.requires.can in
    let folds = folds_are l xs gs zs c.requires.layout c.requires.mine c.requires.can in
    let small = subst (λ (a : List Aggregate). AllByRecursion IsSmall (with_folds (plan_folds a) (values_over zs a))) c.list.ensures c.add_values.ensures.small in
    let new = c.add_values.ensures.all ∙ ap₂ (λ (a : List Aggregate) (b : List ℤ). stepped_numbers (plan_folds a) b (values_over zs a)) c.list.ensures (behind_write xs l.keys _)
    ∙ plan_stepped l gs zs folds rest (omega (arith, many)) in
    row_after l xs (values_over zs gs) 1 c.requires.layout c.requires.mine (many ∙ sym (length-over zs gs)) (plan_tally l gs zs folds small)
    (subst (CanJoin (entry_in l xs).1) (plan_numbers l gs zs folds) c.requires.can) _ c.add_values.new.xs
    (sum_held (get_or xs l.keys (pos 0)) (pos 1) c.requires.mine.count refl c.requires.can.counts) new

pub returns-clause-joined : goal.returns-clause-joined
returns-clause-joined c =
    let l = c.args.layout.now in
    let xs = c.args.xs.now in
    let gs = (tree_of c.args.aggregates.now).aggregates in
    let zs = c.args.row.now.values in
    let rest = drop (l.keys + 1) xs in
    let many = behind_many l xs gs zs c.requires.layout c.requires.mine c.requires.can in
    let folds = folds_are l xs gs zs c.requires.layout c.requires.mine c.requires.can in
    let small = subst (λ (a : List Aggregate). AllByRecursion IsSmall (with_folds (plan_folds a) (values_over zs a))) c.list.ensures c.add_values.ensures.small in
    let new = c.add_values.ensures.all ∙ ap₂ (λ (a : List Aggregate) (b : List ℤ). stepped_numbers (plan_folds a) b (values_over zs a)) c.list.ensures (behind_write xs l.keys _)
    ∙ plan_stepped l gs zs folds rest (omega (arith, many)) in
    entry_after l xs (values_over zs gs) 1 c.requires.layout c.requires.mine (many ∙ sym (length-over zs gs)) (plan_tally l gs zs folds small)
    (subst (CanJoin (entry_in l xs).1) (plan_numbers l gs zs folds) c.requires.can) _ c.add_values.new.xs
    (sum_held (get_or xs l.keys (pos 0)) (pos 1) c.requires.mine.count refl c.requires.can.counts) new
    ∙ ap (λ (n : Numbers). (take l.keys xs, join_numbers (entry_in l xs).1 n)) (sym (plan_numbers l gs zs folds))
