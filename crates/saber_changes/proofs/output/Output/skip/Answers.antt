use Rattle.std.proofs.Common.{sym, subst}
use Rattle.saber_changes.specs.declared.output.Output.{Output}
use Rattle.saber_changes.specs.Outputs.{Passed}
use Rattle.saber_changes.specs.OutputFacts.{passed_none}
use Rattle.saber_changes.proofs.output.Output.skip.Goals as goal

pub returns-in-Each-clause-passed : goal.returns-in-Each-clause-passed
returns-in-Each-clause-passed c = λ at n none here stands.
    subst (λ (o : Output). Passed at o o n c.args.low c.args.out.now.items c.args.out.now.items) (sym c.in-Each.is) (passed_none at n c.args.low c.args.out.now.items none)
