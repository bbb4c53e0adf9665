use Rattle.saber_check.proofs.PlanOrFault.{plan_or_fault}
use Rattle.saber_check.proofs.laws.a_text_has_a_plan_or_a_fault.Goals as goal

pub returns : goal.returns
returns c = plan_or_fault
