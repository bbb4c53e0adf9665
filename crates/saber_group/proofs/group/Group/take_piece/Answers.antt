use Rattle.std.proofs.Common.{◌++◌, length, Option, sym, subst}
use Rattle.std.proofs.lemmas.Result.{on_ok_weaker}
use Rattle.saber_plan.specs.Trees.{tree_of}
use Rattle.saber_plan.specs.Windows.{no_rows}
use Rattle.saber_group.specs.declared.complete.Complete.{Complete}
use Rattle.saber_group.specs.SliceStores.{Comes, PieceSteps}
use Rattle.saber_group.proofs.PiecesTaken.{go_all, came}
use Rattle.saber_group.proofs.GroupPlans.{has_window}
use Rattle.saber_group.proofs.group.Group.take_piece.Goals as goal

pub take_slices-requires-clause-goes_on : goal.take_slices-requires-clause-goes_on
take_slices-requires-clause-goes_on g c =
    let q = tree_of c.args.self.now in
    let s = c.args.store.now in
    let slices = c.args.piece.slices in
    let (old, rows, ended, h) = c.requires.comes in (
      no_rows,
      old ++ rows,
      length old,
      0,
      length rows,
      go_all q (has_window c.args.self.now c.self.view_is c.self.invariant.0 c.self.invariant.1).fits old rows ended s.next s.slices.entries slices c.args.closed
          (subst (λ (o : Option Complete). Comes q old rows ended s.next s.slices.entries slices o c.args.closed) c.in-None.is h),
    )

pub take_complete-requires-clause-comes : goal.take_complete-requires-clause-comes
take_complete-requires-clause-comes g c =
    let q = tree_of c.args.self.now in
    let s = c.args.store.now in
    let (old, rows, ended, h) = c.requires.comes in
    (c.args.closed, (old, rows, ended, subst (λ (o : Option Complete). Comes q old rows ended s.next s.slices.entries c.args.piece.slices o c.args.closed) c.in-Some.is h))

pub take_complete-requires-clause-each : goal.take_complete-requires-clause-each
take_complete-requires-clause-each g c = c.requires.answering c.in-Some.complete c.in-Some.is

pub returns-in-None-clause-come : goal.returns-in-None-clause-come
returns-in-None-clause-come h c =
    let q = tree_of c.args.self.now in
    let s = c.args.store.now in
    let slices = c.args.piece.slices in
    let new = c.take_slices.new in
    on_ok_weaker c.take_slices.result (λ went old rows ended g stands.
    let all = go_all q (has_window c.args.self.now c.self.view_is c.self.invariant.0 c.self.invariant.1).fits old rows ended s.next s.slices.entries slices c.args.closed (subst (λ (o : Option Complete). Comes q old rows ended s.next s.slices.entries slices o c.args.closed) c.in-None.is g) in
    came q old rows s.next new.store.slices.entries c.args.closed new.store.next c.args.output.now new.output c.args.out.now.items new.out.items (went no_rows (old ++ rows) (length old) 0 (length rows) all stands)) c.take_slices.ensures.went_on

pub returns-in-Some-clause-come : goal.returns-in-Some-clause-come
returns-in-Some-clause-come h c =
    let q = tree_of c.args.self.now in
    let s = c.args.store.now in
    let slices = c.args.piece.slices in
    on_ok_weaker c.take_complete.result (λ went old rows ended g stands.
    went c.args.closed old rows ended (subst (λ (o : Option Complete). Comes q old rows ended s.next s.slices.entries slices o c.args.closed) c.in-Some.is g) stands) c.take_complete.ensures.come

pub returns-in-None-clause-steps : goal.returns-in-None-clause-steps
returns-in-None-clause-steps g c =
    let new = c.take_slices.new in
    on_ok_weaker c.take_slices.result (λ used. subst (λ (o : Option Complete). PieceSteps c.args.store.now (length c.args.piece.slices) o new.store c.args.steps.now new.steps) (sym c.in-None.is) used) c.take_slices.ensures.steps

pub returns-in-Some-clause-steps : goal.returns-in-Some-clause-steps
returns-in-Some-clause-steps g c =
    let new = c.take_complete.new in
    on_ok_weaker c.take_complete.result (λ used. subst (λ (o : Option Complete). PieceSteps c.args.store.now (length c.args.piece.slices) o new.store c.args.steps.now new.steps) (sym c.in-Some.is) used) c.take_complete.ensures.steps
