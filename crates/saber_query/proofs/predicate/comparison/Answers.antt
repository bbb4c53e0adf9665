use Rattle.std.proofs.Common.{refl}
use Rattle.saber_query.specs.Machine.{comparison}
use Rattle.saber_query.proofs.ParseLemmas.{read_one, refuse, cmp_takes, no_cmp}
use Rattle.saber_query.proofs.predicate.comparison.Goals as goal

pub returns-in-Some : goal.returns-in-Some
returns-in-Some c = read_one comparison _ _ _ (cmp_takes _) c.in-Some.ensures.took

pub returns-in-None : goal.returns-in-None
returns-in-None c = let t = c.in-None.ensures.took in let n = t.1 in refuse comparison _ _ refl (no_cmp _ n.0 n.1 n.2 n.3 n.4 n.5) t.0
