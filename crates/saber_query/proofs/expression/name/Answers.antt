use Rattle.std.proofs.Common.{refl}
use Rattle.saber_query.specs.Machine.{a_name}
use Rattle.saber_query.proofs.ParseLemmas.{read_one, refuse, no_name}
use Rattle.saber_query.proofs.expression.name.Goals as goal

pub returns-in-Some : goal.returns-in-Some
returns-in-Some c = read_one a_name _ _ _ refl c.in-Some.ensures.took

pub returns-in-None : goal.returns-in-None
returns-in-None c = refuse a_name _ _ refl (no_name _ c.in-None.ensures.took.1) c.in-None.ensures.took.0
