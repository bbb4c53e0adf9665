use Rattle.std.proofs.Common.{[], subst}
use Rattle.saber_io.specs.Outside.{FilesView}
use Rattle.saber_plan.specs.Outputs.{appended-none}
use Rattle.saber_plan.specs.Trees.{tree_of}
use Rattle.saber_plan.specs.Sizes.{limits_of}
use Rattle.saber_cli.specs.Due.{contents_of, rows_named}
use Rattle.saber_cli.specs.Answered.{AnsweredIn}
use Rattle.saber_cli.proofs.AnsweredLemmas.{for_any, no_answer}
use Rattle.saber_cli.proofs.RowLemmas.{run_uses, run_takes, run_answers, run_cause}
use Rattle.saber_cli.specs.Outcomes.{IsUnopened}
use Rattle.saber_cli.proofs.WriteLemmas.{rows_unwritten, rows_writes}
use Rattle.saber_cli.proofs.runs.run_rows.Goals as goal

pub returns-in-Ok-clause-written : goal.returns-in-Ok-clause-written
returns-in-Ok-clause-written g c =
    let q = tree_of c.args.plan.now in
    let s = c.args.sizes.now in
    let w = c.answer-ran.ensures.written in
    (w.0, w.1, run_answers g.F.Src.Source.left g.F.Src.Source.faults q s.task s.ring (limits_of s) s.flush (rows_named c.args.rows.now) c.answer-ran.result.outcome c.answer-ran.result.tasks w.0 _ _ c.in-Ok.ensures.opens w.2)

pub returns-in-Ok-clause-uses : goal.returns-in-Ok-clause-uses
returns-in-Ok-clause-uses g c =
    run_uses g.F.Src.Source.left g.F.Src.Source.faults (rows_named c.args.rows.now) c.answer-ran.result.outcome _ _ _ _ _ c.in-Ok.ensures.number c.in-Ok.ensures.opens c.in-Ok.ensures.fresh c.in-Ok.ensures.asked c.close_rows.ensures.closed
    c.answer-ran.ensures.kinds c.answer-ran.ensures.opened c.answer-ran.ensures.takes c.answer-ran.ensures.read_good c.answer-ran.ensures.read

pub returns-in-Ok-clause-taken : goal.returns-in-Ok-clause-taken
returns-in-Ok-clause-taken g c side e =
    run_takes g.F.Src.Source.left g.F.Src.Source.faults (tree_of c.args.plan.now) c.args.sizes.now.task (limits_of c.args.sizes.now) c.answer-ran.result.tasks (rows_named c.args.rows.now) _ _ _ _ _ c.in-Ok.ensures.opens c.in-Ok.ensures.asked
    c.close_rows.ensures.closed (c.answer-ran.ensures.taken side e)

pub returns-in-Ok-clause-cause : goal.returns-in-Ok-clause-cause
returns-in-Ok-clause-cause g c k =
    run_cause g.F.Src.Source.left g.F.Src.Source.faults c.answer-ran.result.outcome _ _ _ _ _ c.in-Ok.ensures.fresh c.in-Ok.ensures.good c.close_rows.ensures.count c.answer-ran.ensures.kinds c.answer-ran.ensures.opened c.answer-ran.ensures.read k

pub returns-in-Err-clause-written : goal.returns-in-Err-clause-written
returns-in-Err-clause-written g c =
    let q = tree_of c.args.plan.now in
    let s = c.args.sizes.now in
    ([], appended-none _, for_any (λ (t : FilesView). AnsweredIn q s.task s.ring (limits_of s) s.flush (contents_of t.contents (rows_named c.args.rows.now)) c.in-Err.outcome 0 []) _ (λ t. no_answer q s.task s.ring (limits_of s) s.flush _ c.in-Err.outcome c.requires.checked c.in-Err.ensures.kinds))

pub returns-in-Ok-clause-writes : goal.returns-in-Ok-clause-writes
returns-in-Ok-clause-writes g c =
    rows_writes g.F.Src.Source.left g.F.Src.Source.faults (tree_of c.args.plan.now) c.args.sizes.now (rows_named c.args.rows.now) c.answer-ran.result.outcome c.answer-ran.result.tasks _ _ _ _ c.in-Ok.ensures.opens c.answer-ran.ensures.writes

pub returns-in-Err-clause-writes : goal.returns-in-Err-clause-writes
returns-in-Err-clause-writes g c =
    rows_unwritten (tree_of c.args.plan.now) c.args.sizes.now (rows_named c.args.rows.now) _ c.in-Err.outcome _ (λ e. subst IsUnopened e c.in-Err.ensures.kinds)
