use Rattle.std.proofs.Common.{subst, arith}
use Rattle.saber_cli.specs.Puts.{PutsText}
use Rattle.saber_cli.proofs.ShowLemmas.{put_showed}
use Rattle.saber_cli.specs.Planned.{IsTextFault}
use Rattle.saber_cli.proofs.WriteLemmas.{no_text_written}
use Rattle.saber_cli.proofs.shows.put_text.Goals as goal

pub returns-clause-written : goal.returns-clause-written
returns-clause-written g c =
    let o = c.put.result.outcome in
    let w = c.put.ensures.written in
    (w.0, w.1, put_showed c.args.text.now c.in-Ok.out.items o w.0 c.in-Ok.ensures.ok c.put.ensures.kinds (subst (λ t. PutsText t o w.0) c.deref.ensures.value w.2))

pub returns-in-Err-clause-writes : goal.returns-in-Err-clause-writes
returns-in-Err-clause-writes g c = no_text_written c.in-Err.outcome _ (λ e. subst (IsTextFault _) e c.in-Err.ensures.err) (λ e. subst (IsTextFault _) e c.in-Err.ensures.err)

pub returns-clause-tasks : goal.returns-clause-tasks
returns-clause-tasks g c = omega (arith, c.put.ensures.few)
