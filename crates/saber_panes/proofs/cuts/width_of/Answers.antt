use Rattle.std.proofs.Common.{sym, subst, ◌≤◌}
use Rattle.saber_panes.proofs.Divisors.{divisor_some}
use Rattle.saber_panes.proofs.cuts.width_of.Goals as goal

pub returns-clause-some : goal.returns-clause-some
returns-clause-some c = subst (λ n. 1 ≤ n) (sym c.divisor.ensures) (divisor_some c.args.window.now.size c.args.window.now.slide c.requires.size.0)
