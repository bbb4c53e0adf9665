use Rattle.saber_check.proofs.TextLaws.{one_plan}
use Rattle.saber_check.proofs.laws.a_text_has_one_plan.Goals as goal

pub returns : goal.returns
returns c = one_plan
