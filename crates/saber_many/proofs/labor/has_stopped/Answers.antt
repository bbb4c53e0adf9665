use Rattle.std.proofs.Common.{sym, subst}
use Rattle.saber_many.specs.Labors.{FirstIs}
use Rattle.saber_many.proofs.labor.has_stopped.Goals as goal

pub returns-in-Some : goal.returns-in-Some
returns-in-Some g c e = subst (FirstIs g.A.StopFlag.was_set) (sym c.in-Some.ensures.cases.0) (c.is_set.ensures e)
