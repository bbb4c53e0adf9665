use Rattle.std.proofs.Common.{arith}
use Rattle.std.proofs.lemmas.Grind.{common_steps}
use Rattle.saber_check.proofs.PlanLemmas.{names_span}
use Rattle.saber_check.proofs.plans.count.Goals as goal

pub overflow_cast-result : goal.overflow_cast-result
overflow_cast-result c = grind (arith, common_steps, names_span c.args.decl.now.more)

pub overflow_add-result : goal.overflow_add-result
overflow_add-result c = grind (arith, common_steps, names_span c.args.decl.now.more)
