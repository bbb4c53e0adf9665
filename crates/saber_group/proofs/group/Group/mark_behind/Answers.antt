use Rattle.std.proofs.Common.{◌∙◌, arith}
use Rattle.saber_plan.specs.Trees.{tree_of}
use Rattle.saber_plan.specs.Facts.Rows.{left_small, few_rows}
use Rattle.saber_group.proofs.RowsTogether.{left_behind, mark_up_to}
use Rattle.saber_group.proofs.GroupPlans.{has_window}
use Rattle.saber_group.proofs.group.Group.mark_behind.Goals as goal

pub mark_behind-requires-clause-small : goal.mark_behind-requires-clause-small
mark_behind-requires-clause-small c =
    let q = tree_of c.args.self.now in
    let b = c.args.batch.now in
    let w = (has_window c.args.self.now c.self.view_is c.self.invariant.0 c.self.invariant.1).window in
    let before = left_small q b.before c.args.mark.now b.rows.now c.args.from c.requires.fits c.requires.mark in
    let few = few_rows q w.stream w.streams b.before b.rows.now c.requires.fits in
    let within = c.requires.within in
    omega (arith, before, few, within)

pub mark_behind-requires-clause-left : goal.mark_behind-requires-clause-left
mark_behind-requires-clause-left c =
    let b = c.args.batch.now in
    left_behind (tree_of c.args.self.now) (has_window c.args.self.now c.self.view_is c.self.invariant.0 c.self.invariant.1).window b.before b.rows.now c.args.from c.requires.fits

pub returns : goal.returns
returns c =
    let b = c.args.batch.now in
    let more = c.requires.more in
    c.mark_behind.ensures ∙ mark_up_to b.before c.args.mark.now b.rows.now c.args.from c.args.end (omega (arith, more)) c.requires.mark
