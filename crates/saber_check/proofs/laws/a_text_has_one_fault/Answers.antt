use Rattle.saber_check.proofs.FaultLaws.{one_fault}
use Rattle.saber_check.proofs.laws.a_text_has_one_fault.Goals as goal

pub returns : goal.returns
returns c = one_fault
