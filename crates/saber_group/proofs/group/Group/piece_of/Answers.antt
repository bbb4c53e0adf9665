use Rattle.std.proofs.Common.{ℕ, Option, length, sym, ap, subst₂, arith}
use Rattle.saber_plan.specs.Trees.{tree_of}
use Rattle.saber_group.specs.declared.complete.Complete.{Complete}
use Rattle.saber_group.specs.SlicePieces.{TaskSteps}
use Rattle.saber_group.proofs.Completed.{slices_few, steps_rise}
use Rattle.saber_group.proofs.group.Group.piece_of.Goals as goal
use Rattle.saber_group.proofs.group.Group.piece_of.Goals.{then-looks_back+in_ok-completed, else-looks_back+in_ok-slices-2}

pub returns-clause-steps : goal.returns-clause-steps
returns-clause-steps g c =
    let e = length c.args.earlier.now.rows in
    let b = c.args.batch.now in
    let slices = length c.in_ok-slices.slices in
    let long = length b.rows.now in
    let few = slices_few (tree_of c.args.self.now) b.before b.rows.now 0 c.in_ok-slices.slices long c.in_ok-slices.ensures.slices in
    let before = c.args.steps.now in
    elim c.if-looks_back.branch [
      | then-looks_back+in_ok-completed w ↦
          subst₂ (λ (o : Option Complete) (n : ℕ). TaskSteps e long o before n) (λ j. (sym w.slices-is j).1) (sym w.steps-is)
          (steps_rise e e slices long w.in_ok-completed.complete before w.completed.new.steps (omega arith) (omega (arith, few)) w.in_ok-completed.ensures.steps)
      | else-looks_back+in_ok-slices-2 w ↦
          let none = ap length c.none-none.ensures.rows in
          subst₂ (λ (o : Option Complete) (n : ℕ). TaskSteps e long o before n) (λ j. (sym w.slices-is j).1) (sym w.steps-is)
          (steps_rise (length c.none-none.result.rows) e slices long w.in_ok-slices-2.complete before w.completed-else-looks_back.new.steps (omega (arith, none)) (omega (arith, few)) w.in_ok-slices-2.ensures.steps)
    ]
