use Rattle.std.proofs.Common.{rules}
use Rattle.saber_window.proofs.Alike.{counts_alike}
use Rattle.saber_window.proofs.steps.next_step.Goals as goal

pub returns-clause-alike : goal.returns-clause-alike
returns-clause-alike c = λ p far below. counts_alike c.args.slide c.args.first c.args.far c.saturating_add.result p (search rules) (search rules) (search rules) far below
