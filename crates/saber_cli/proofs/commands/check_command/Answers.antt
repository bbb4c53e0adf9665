use Rattle.std.proofs.Common.{[], sym, subst}
use Rattle.saber_io.specs.Outside.{FilesView}
use Rattle.saber_plan.specs.Outputs.{appended-none}
use Rattle.saber_words.specs.declared.commands.Command.TheVariants.{Check}
use Rattle.saber_words.specs.Commands.{AskedCheck, check, asked_command}
use Rattle.saber_cli.specs.Outcomes.{IsOfShow}
use Rattle.saber_cli.specs.Texts.{BeginsFile}
use Rattle.saber_cli.specs.Shown.{Showed}
use Rattle.saber_cli.specs.Gives.{Gives}
use Rattle.saber_cli.proofs.AnsweredLemmas.{for_any}
use Rattle.saber_cli.proofs.LeavesLemmas.{query_leaves, show_leaves}
use Rattle.saber_cli.proofs.RunLemmas.{gives_no_text, some_map}
use Rattle.saber_cli.proofs.ShowLemmas.{gives_show, show_early, show_reads}
use Rattle.saber_cli.proofs.PlanLemmas.{query_alone, show_alone}
use Rattle.saber_cli.specs.Uses.{IsOfQuery}
use Rattle.saber_cli.proofs.WriteLemmas.{no_text_written}
use Rattle.saber_cli.proofs.commands.check_command.Goals as goal

pub returns-in-Ok-clause-written : goal.returns-in-Ok-clause-written
returns-in-Ok-clause-written g c =
    let r : AskedCheck = record { query = c.args.command.now.query.now } in
    let o = c.put_text.result.outcome in
    let w = c.put_text.ensures.written in
    let show : Showed c.in-Ok.text.items o w.0 = subst (λ t. Showed t o w.0) c.deref.ensures.value w.2 in (
      w.0,
      w.1,
      some_map (λ (t : FilesView). BeginsFile t.contents r.query c.in-Ok.text.items) (λ t. Gives t.contents (check r) o c.put_text.result.tasks w.0) _
          (λ t b. subst (λ n. Gives t.contents (check r) o n w.0) (sym c.put_text.ensures.tasks) (gives_show t.contents r c.in-Ok.text.items o w.0 b show)) c.in-Ok.ensures.front,
    )

pub returns-in-Ok-clause-early : goal.returns-in-Ok-clause-early
returns-in-Ok-clause-early g c b = (c.put_text.ensures.tasks, c.put_text.ensures.early (show_early c.put_text.result.outcome c.put_text.ensures.kinds b))

pub returns-in-Ok-clause-kinds : goal.returns-in-Ok-clause-kinds
returns-in-Ok-clause-kinds g c e = subst IsOfShow e c.put_text.ensures.kinds

pub returns-in-Ok-clause-leaves : goal.returns-in-Ok-clause-leaves
returns-in-Ok-clause-leaves g c = show_leaves _ (λ t. ⊥) c.put_text.result.outcome _ _ c.put_text.ensures.kinds c.in-Ok.ensures.uses

pub returns-in-Ok-clause-cause : goal.returns-in-Ok-clause-cause
returns-in-Ok-clause-cause g c f = absurd (show_reads c.put_text.result.outcome c.put_text.ensures.kinds f)

pub returns-in-Err-clause-written : goal.returns-in-Err-clause-written
returns-in-Err-clause-written g c =
    ([], appended-none _, for_any (λ (t : FilesView). Gives t.contents (asked_command (Check c.args.command.now)) c.in-Err.outcome 0 []) _ (λ t. gives_no_text t.contents (asked_command (Check c.args.command.now)) tt c.in-Err.outcome c.in-Err.ensures.kinds))

pub returns-in-Err-clause-leaves : goal.returns-in-Err-clause-leaves
returns-in-Err-clause-leaves g c = query_leaves _ [] (λ t. ⊥) c.in-Err.outcome _ _ c.in-Err.ensures.kinds c.in-Err.ensures.uses

pub returns-in-Ok-clause-alone : goal.returns-in-Ok-clause-alone
returns-in-Ok-clause-alone g c k = show_alone c.put_text.result.outcome c.put_text.ensures.kinds k

pub returns-in-Err-clause-alone : goal.returns-in-Err-clause-alone
returns-in-Err-clause-alone g c k = query_alone c.in-Err.outcome c.in-Err.ensures.kinds k

pub returns-in-Err-clause-writes : goal.returns-in-Err-clause-writes
returns-in-Err-clause-writes g c = no_text_written c.in-Err.outcome _ (λ e. subst IsOfQuery e c.in-Err.ensures.kinds) (λ e. subst IsOfQuery e c.in-Err.ensures.kinds)
