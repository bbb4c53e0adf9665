use Rattle.std.proofs.Common.{List, sym, ◌∙◌, ap, subst, arith}
use Rattle.std.specs.List.{AllByRecursion}
use Rattle.saber_plan.specs.declared.plans.Aggregate.{Aggregate}
use Rattle.saber_plan.specs.Trees.{tree_of}
use Rattle.saber_partial.specs.Gathering.{plan_folds, values_over, IsSmall}
use Rattle.saber_partial.specs.Flat.{entry_in, with_folds, IsRow}
use Rattle.saber_partial.proofs.RowNumbers.{first_entry, first_is_row, first_written}
use Rattle.saber_partial.proofs.tally.write_first.Goals as goal

pub returns-clause-row : goal.returns-clause-row
returns-clause-row c =
    let l = c.args.layout.now in
    let key = c.args.key.now in
    let gs = (tree_of c.args.aggregates.now).aggregates in
    let zs = c.args.row.now.values in
    let s = c.requires.suits in
    let keys = s.keys in
    let width = s.width in
    let long = c.requires.long in
    let back = c.split_at_mut-front.ensures.back_len in
    let all = first_written l key gs zs s c.copy_from_slice.new.self c.split_at_mut-front.result.1.now c.write_values.new.xs (omega (arith, keys, width, long, back))
    c.copy_from_slice.ensures.after (c.write_values.ensures.all ∙ ap (values_over zs) c.list.ensures) in
    subst (IsRow l) (sym all) (first_is_row l key gs zs s (subst (λ (a : List Aggregate). AllByRecursion IsSmall (with_folds (plan_folds a) (values_over zs a))) c.list.ensures c.write_values.ensures.small))

pub returns-clause-first : goal.returns-clause-first
returns-clause-first c =
    let l = c.args.layout.now in
    let key = c.args.key.now in
    let gs = (tree_of c.args.aggregates.now).aggregates in
    let zs = c.args.row.now.values in
    let s = c.requires.suits in
    let keys = s.keys in
    let width = s.width in
    let long = c.requires.long in
    let back = c.split_at_mut-front.ensures.back_len in
    let all = first_written l key gs zs s c.copy_from_slice.new.self c.split_at_mut-front.result.1.now c.write_values.new.xs (omega (arith, keys, width, long, back))
    c.copy_from_slice.ensures.after (c.write_values.ensures.all ∙ ap (values_over zs) c.list.ensures) in
    ap (entry_in l) all ∙ first_entry l key gs zs s
