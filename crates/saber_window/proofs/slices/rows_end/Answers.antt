use Rattle.std.proofs.Common.{◌+◌, ◌-◌, drop, arith}
use Rattle.std.proofs.lemmas.List.{length-drop}
use Rattle.saber_plan.specs.declared.windows.Measure.TheVariants as measures
use Rattle.saber_plan.specs.Windows.{one}
use Rattle.saber_window.proofs.SliceFacts.{rows_together, in_all}
use Rattle.saber_window.proofs.slices.rows_end.Goals as goal

pub returns-clause-together : goal.returns-clause-together
returns-clause-together c =
    let a = c.args in
    let zs = drop a.from a.rows.now in
    let long = length-drop a.from a.rows.now in
    let all = c.len.ensures in
    let later = c.next_other.ensures.later in
    in_all (one measures.Rows a.slide a.size) a.before.now a.rows.now a.from (a.from + c.min.result) (omega arith)
    (rows_together a.slide a.size a.before.now zs (a.from + c.min.result - a.from) c.next_other.result c.requires.left (omega arith) (omega arith) c.next_other.ensures.first c.next_other.ensures.past)
