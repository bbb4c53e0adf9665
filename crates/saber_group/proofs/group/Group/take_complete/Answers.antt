use Rattle.std.proofs.Common.{◌++◌, length, ◌∙◌, ap, arith}
use Rattle.saber_plan.specs.Trees.{tree_of}
use Rattle.saber_plan.specs.Windows.{no_rows}
use Rattle.saber_group.proofs.PiecesTaken.{go_closing, came_complete}
use Rattle.saber_group.proofs.group.Group.take_complete.Goals as goal

pub take_slices-requires-clause-goes_on : goal.take_slices-requires-clause-goes_on
take_slices-requires-clause-goes_on g c =
    let s = c.args.store.now in
    let (closed, (old, rows, ended, h)) = c.requires.comes in
    (no_rows, old ++ rows, length old, 0, h.given.x, go_closing (tree_of c.args.self.now) old rows ended s.next s.slices.entries c.args.slices c.args.complete closed h)

pub returns-clause-come : goal.returns-clause-come
returns-clause-come h c closed old rows ended g stands =
    let q = tree_of c.args.self.now in
    let s = c.args.store.now in
    let new = c.take_slices.new in
    let closing = go_closing q old rows ended s.next s.slices.entries c.args.slices c.args.complete closed g in
    let own = c.in-Ok-extend_from_slice.ensures.items ∙ ap (λ l. new.out.items ++ l) c.deref.ensures.value in
    came_complete q old rows ended s.next s.slices.entries c.args.slices c.args.complete closed g new.store.next new.store.slices.entries c.args.output.now new.output c.requires.each c.args.out.now.items new.out.items c.extend_from_slice.new.self.items
    (c.in-Ok.ensures.went_on no_rows (old ++ rows) (length old) 0 g.given.x closing stands) own

pub returns-clause-steps : goal.returns-clause-steps
returns-clause-steps g c =
    let done = c.in-Ok.ensures.next in
    let used = c.in-Ok.ensures.steps in
    omega (arith, done, used)
