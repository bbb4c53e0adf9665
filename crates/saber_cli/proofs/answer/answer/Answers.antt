use Rattle.std.proofs.Common.{◌∙◌, sym, ap, subst}
use Rattle.saber_plan.specs.Trees.{tree_of}
use Rattle.saber_plan.specs.Sizes.{limits_of}
use Rattle.saber_cli.specs.Outcomes.{IsClean, IsOfRun}
use Rattle.saber_cli.specs.Uses.{IsOpened}
use Rattle.saber_cli.specs.Endings.{ended_as}
use Rattle.saber_cli.proofs.AnsweredLemmas.{told_answered, write_by, read_by, clean_by, run_kinds, run_opened}
use Rattle.saber_cli.proofs.WriteLemmas.{told_writes}
use Rattle.saber_cli.proofs.answer.answer.Goals as goal

pub returns-clause-written : goal.returns-clause-written
returns-clause-written g c =
    let w = c.engine-end.ensures.gives in
    let s = c.args.sizes.now in
    (w.0, w.1, told_answered (tree_of c.args.plan.now) s.task s.ring (limits_of s) s.flush _ c.engine-end.result.end c.outcome_of.result c.engine-end.result.tasks w.0 c.outcome_of.ensures w.2)

pub returns-clause-kinds : goal.returns-clause-kinds
returns-clause-kinds g c = subst IsOfRun (sym c.outcome_of.ensures) (run_kinds c.args.sizes.now.ring c.engine-end.result.end)

pub returns-clause-opened : goal.returns-clause-opened
returns-clause-opened g c = subst IsOpened (sym c.outcome_of.ensures) (run_opened c.args.sizes.now.ring c.engine-end.result.end)

pub returns-clause-taken : goal.returns-clause-taken
returns-clause-taken g c side e = c.engine-end.ensures.whole side (read_by c.args.sizes.now.ring c.engine-end.result.end side (sym c.outcome_of.ensures ∙ e))

pub returns-clause-read : goal.returns-clause-read
returns-clause-read g c side e = c.engine-end.ensures.read side (read_by c.args.sizes.now.ring c.engine-end.result.end side (sym c.outcome_of.ensures ∙ e))

pub returns-clause-read_good : goal.returns-clause-read_good
returns-clause-read_good g c k = c.engine-end.ensures.read_good (clean_by c.args.sizes.now.ring c.engine-end.result.end (subst IsClean c.outcome_of.ensures k))

pub returns-clause-write : goal.returns-clause-write
returns-clause-write g c e = c.engine-end.ensures.write (write_by c.args.sizes.now.ring c.engine-end.result.end (sym c.outcome_of.ensures ∙ e))

pub returns-clause-write_good : goal.returns-clause-write_good
returns-clause-write_good g c w = c.engine-end.ensures.write_good (λ e. w (c.outcome_of.ensures ∙ ap (ended_as c.args.sizes.now.ring) e))

pub returns-clause-writes : goal.returns-clause-writes
returns-clause-writes g c =
    told_writes (tree_of c.args.plan.now) c.args.sizes.now _ c.engine-end.result.end c.outcome_of.result c.engine-end.result.tasks _ _ c.outcome_of.ensures c.engine-end.ensures.one_write
