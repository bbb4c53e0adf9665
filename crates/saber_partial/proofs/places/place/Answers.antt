use Rattle.std.proofs.Common.{◌+◌, ◌-◌, ◌/◌, ◌<◌, List, ℤ, length, sym, ap, ◌∙◌, arith}
use Rattle.saber_plan.specs.Answers.{key_cmp}
use Rattle.saber_plan.specs.Parts.{Numbers}
use Rattle.saber_plan.specs.Facts.Parts.{exact}
use Rattle.saber_partial.proofs.Rising.{less_before, greater_behind}
use Rattle.saber_partial.proofs.places.place.Goals as goal

pub loop-low-preserved-in-Less : goal.loop-low-preserved-in-Less
loop-low-preserved-in-Less c =
    let es = c.args.groups.now.entries in
    let k = c.args.key.now in
    let middle = c.loop-low.low + (c.loop-low.high - c.loop-low.low) / 2 in
    let test = c.loop-low-test.true in
    let within = c.loop-low.invariant.within in
    let here : middle < length es = omega (arith, test, within) in
    let order = λ (d : List ℤ × Numbers). sym (ap (λ l. key_cmp l k) (c.key.ensures d)) ∙ sym c.key_order.ensures ∙ c.in-Less.is in
    record {
      order = omega (arith, test);
      within = within;
      below = λ j d h. less_before es k j middle d c.requires (omega (arith, h)) here (order d);
      above = c.loop-low.invariant.above;
    }

pub returns-in-Equal-clause-there : goal.returns-in-Equal-clause-there
returns-in-Equal-clause-there c =
    let test = c.loop-low-test.true in
    let within = c.loop-low.invariant.within in
    record {
      within = omega (arith, test, within);
      at = λ d. sym (c.key.ensures d) ∙ exact _ _ (sym c.key_order.ensures ∙ c.in-Equal.is);
    }

pub loop-low-preserved : goal.loop-low-preserved
loop-low-preserved c =
    let es = c.args.groups.now.entries in
    let k = c.args.key.now in
    let middle = c.loop-low.low + (c.loop-low.high - c.loop-low.low) / 2 in
    let test = c.loop-low-test.true in
    let within = c.loop-low.invariant.within in
    let order = λ (d : List ℤ × Numbers). sym (ap (λ l. key_cmp l k) (c.key.ensures d)) ∙ sym c.key_order.ensures ∙ c.in-Greater.is in
    record {
      order = omega (arith, test);
      within = omega (arith, test, within);
      below = c.loop-low.invariant.below;
      above = λ j d h l. greater_behind es k middle j d c.requires h l (order d);
    }
