use Rattle.std.proofs.Common.{refl}
use Rattle.saber_query.specs.Machine.{a_number}
use Rattle.saber_query.proofs.ParseLemmas.{read_one, refuse, no_number}
use Rattle.saber_query.proofs.expression.number.Goals as goal

pub returns-in-Some : goal.returns-in-Some
returns-in-Some c = read_one a_number _ _ _ refl c.in-Some.ensures.took

pub returns-in-None : goal.returns-in-None
returns-in-None c = refuse a_number _ _ refl (no_number _ c.in-None.ensures.took.1) c.in-None.ensures.took.0
