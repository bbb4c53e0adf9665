use Rattle.std.proofs.Common.{◌&&◌, not, sym, ◌∙◌, arith}
use Rattle.saber_query.specs.declared.fault.Cause.TheVariants.{NotGrouped}
use Rattle.saber_query.specs.Trees.{query_of}
use Rattle.saber_check.specs.Faults.{is_key}
use Rattle.saber_check.proofs.SettledLaws as settled
use Rattle.saber_check.proofs.walk.Walk.report_ungrouped.Goals as goal

pub returns-else-not-is_settled : goal.returns-else-not-is_settled
returns-else-not-is_settled c = settled.stands c.args.self.now _ (sym c.is_settled.ensures ∙ c.if-not-is_settled.false) (settled.at_row c.args.self.now.index c.args.self.now.index (c.args.grouped && not (is_key (query_of c.args.query.now) c.args.expr.now)) NotGrouped (omega arith))
