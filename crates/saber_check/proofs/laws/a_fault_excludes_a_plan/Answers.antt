use Rattle.saber_check.proofs.TextLaws.{fault_or_plan}
use Rattle.saber_check.proofs.laws.a_fault_excludes_a_plan.Goals as goal

pub returns : goal.returns
returns c = fault_or_plan
