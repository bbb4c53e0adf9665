use Rattle.std.proofs.Common.{◌≡◌, ◌≤◌, [], length, append-nil, subst, ◌∙◌, ap, arith}
use Rattle.std.proofs.lemmas.List.{take_all}
use Rattle.saber_plan.specs.Trees.{tree_of}
use Rattle.saber_plan.specs.Windows.{mark_after}
use Rattle.saber_group.specs.SlicePieces.{SlicesFrom}
use Rattle.saber_group.proofs.group.Group.groups_of.Goals as goal

pub returns-clause-slices : goal.returns-clause-slices
returns-clause-slices c =
    let b = c.args.batch.now in
    let within = c.loop-from.invariant.within in
    let over = subst (λ n. n ≤ c.loop-from.from) c.len.ensures c.loop-from-test.false in
    let at_end : c.loop-from.from ≡ length b.rows.now = omega (arith, within, over) in
    subst (SlicesFrom (tree_of c.args.self.now) b.before b.rows.now 0) (append-nil c.loop-from.slices.items) (c.loop-from.invariant.slices [] at_end)

pub returns-clause-mark : goal.returns-clause-mark
returns-clause-mark c =
    let b = c.args.batch.now in
    let over = subst (λ n. n ≤ c.loop-from.from) c.len.ensures c.loop-from-test.false in
    c.loop-from.invariant.mark ∙ ap (mark_after b.before) (take_all c.loop-from.from b.rows.now over)
