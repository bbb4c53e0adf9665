use Rattle.std.proofs.Common.{◌+◌, ◌-◌, ◌/◌, ◌<◌, List, ℤ, length, sym, ap, ◌∙◌, arith}
use Rattle.saber_plan.specs.Answers.{key_cmp}
use Rattle.saber_plan.specs.Parts.{Numbers}
use Rattle.saber_plan.specs.Facts.Parts.{exact}
use Rattle.saber_partial.specs.Young.{by_key}
use Rattle.saber_partial.proofs.Picked.{length-by_key, order_long, told_key}
use Rattle.saber_partial.proofs.Rising.{less_before, greater_behind}
use Rattle.saber_partial.proofs.places.place_by.Goals as goal

pub loop-low-preserved-in-Less : goal.loop-low-preserved-in-Less
loop-low-preserved-in-Less c =
    let es = c.args.groups.now.entries in
    let all = by_key c.args.order.now es in
    let k = c.args.key.now in
    let middle = c.loop-low.low + (c.loop-low.high - c.loop-low.low) / 2 in
    let test = c.loop-low-test.true in
    let within = c.loop-low.invariant.within in
    let low : middle < length es = omega (arith, test, within) in
    let long = length-by_key c.args.order.now es (order_long c.args.order.now es c.requires) in
    let here : middle < length all = omega (arith, low, long) in
    let order = λ (d : List ℤ × Numbers). ap (λ l. key_cmp l k) (told_key c.args.order.now es c.requires middle low c.from.result c.key.result.now c.from.ensures c.key.ensures d) ∙ sym c.key_order.ensures ∙ c.in-Less.is in
    record {
      between = omega (arith, test);
      within = within;
      below = λ j d h. less_before all k j middle d c.requires.rises (omega (arith, h)) here (order d);
      above = c.loop-low.invariant.above;
    }

pub returns-in-Equal-clause-there : goal.returns-in-Equal-clause-there
returns-in-Equal-clause-there c =
    let es = c.args.groups.now.entries in
    let middle = c.loop-low.low + (c.loop-low.high - c.loop-low.low) / 2 in
    let test = c.loop-low-test.true in
    let within = c.loop-low.invariant.within in
    let low : middle < length es = omega (arith, test, within) in
    let long = length-by_key c.args.order.now es (order_long c.args.order.now es c.requires) in
    record {
      within = omega (arith, low, long);
      at = λ d. told_key c.args.order.now es c.requires middle low c.from.result c.key.result.now c.from.ensures c.key.ensures d ∙ exact _ _ (sym c.key_order.ensures ∙ c.in-Equal.is);
    }

pub loop-low-preserved : goal.loop-low-preserved
loop-low-preserved c =
    let es = c.args.groups.now.entries in
    let all = by_key c.args.order.now es in
    let k = c.args.key.now in
    let middle = c.loop-low.low + (c.loop-low.high - c.loop-low.low) / 2 in
    let test = c.loop-low-test.true in
    let within = c.loop-low.invariant.within in
    let low : middle < length es = omega (arith, test, within) in
    let long = length-by_key c.args.order.now es (order_long c.args.order.now es c.requires) in
    let order = λ (d : List ℤ × Numbers). ap (λ l. key_cmp l k) (told_key c.args.order.now es c.requires middle low c.from.result c.key.result.now c.from.ensures c.key.ensures d) ∙ sym c.key_order.ensures ∙ c.in-Greater.is in
    record {
      between = omega (arith, test);
      within = omega (arith, test, within);
      below = c.loop-low.invariant.below;
      above = λ j d h l. greater_behind all k middle j d c.requires.rises h (omega (arith, l, long)) (order d);
    }
