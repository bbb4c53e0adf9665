use Rattle.std.proofs.Common.{◌≡◌, ◌∙◌, sym, ap, subst, [], ◌∷◌}
use Rattle.saber_plan.specs.declared.rows.Side.TheVariants.{Left, Right}
use Rattle.saber_rows.specs.Merging.{merger_of}
use Rattle.saber_dispatch.specs.Readings.{two, Stepped, answer_two}
use Rattle.saber_dispatch.specs.Sources.{each_input}
use Rattle.saber_dispatch.proofs.ReadSteps.{stepped_two}
use Rattle.saber_dispatch.proofs.reader.next_of_two.Goals as goal

pub returns-clause-step : goal.returns-clause-step
returns-clause-step g c q m r =
    let n = c.next.ensures in
    let old = merger_of c.args.merge.now in
    let new = merger_of c.next.new.self in
    let left = g.S.Source.left in
    let after = left c.next.new.left ∷ left c.next.new.right ∷ [] in
    let step = stepped_two q m old new (left c.in-Two.left) (left c.next.new.left) (left c.in-Two.right) (left c.next.new.right) r n.left_rules n.right_rules c.next.result (n.turn m r.passed) in
    subst (λ a. Stepped q m a (two old) (two new) (each_input left c.args.inputs.now) after) (sym c.answer_two.ensures)
    (subst (λ i. Stepped q m (answer_two c.next.result) (two old) (two new) (each_input left i) after) (sym c.in-Two.is) step)

pub returns-clause-good : goal.returns-clause-good
returns-clause-good g c h =
    let faults = g.S.Source.faults in
    let left : faults c.next.new.left ≡ faults c.in-Two.left = c.next.ensures.left_good (λ e. h Left (c.answer_two.ensures ∙ ap answer_two e)) in
    let right : faults c.next.new.right ≡ faults c.in-Two.right = c.next.ensures.right_good (λ e. h Right (c.answer_two.ensures ∙ ap answer_two e)) in
    subst (λ i. (faults c.next.new.left ∷ faults c.next.new.right ∷ []) ≡ each_input faults i) (sym c.in-Two.is) (λ i. left i ∷ right i ∷ [])
