use Rattle.std.proofs.Common.{◌≡◌, length, sym, ◌∙◌, ap, subst, arith}
use Rattle.saber_plan.specs.Parts.{Part}
use Rattle.saber_sliding.specs.Entries.{suffixes, Chained}
use Rattle.saber_sliding.specs.Stacks.{side_by_side}
use Rattle.saber_sliding.proofs.Stacked.{length-sums, seen_length, side_chained, side_sums}
use Rattle.saber_sliding.proofs.stack.Stack.sum_up.Goals as goal

pub sum_up-requires : goal.sum_up-requires
sum_up-requires g c = side_chained c.self.inside.numbers.items c.self.inside.parts c.self.invariant (subst Chained (sym c.self.view_is) c.requires)

pub invariant_of-self : goal.invariant_of-self
invariant_of-self g c = c.self.invariant ∙ sym (length-sums c.self.inside.parts) ∙ ap (length {A = Part}) (sym c.sum_up.ensures.all)

pub returns-clause-all : goal.returns-clause-all
returns-clause-all g c =
    let s = c.self.inside in
    ap (side_by_side s.numbers.items) c.sum_up.ensures.all ∙ side_sums s.numbers.items s.parts c.self.invariant ∙ ap suffixes c.self.view_is

pub returns-clause-steps : goal.returns-clause-steps
returns-clause-steps g c =
    let s = c.self.inside in
    let same : length s.numbers.items ≡ length s.parts = c.self.invariant in
    let seen = seen_length s.numbers.items s.parts c.args.self.now c.self.invariant c.self.view_is in
    let steps = c.sum_up.ensures.steps in
    omega (arith, same, seen, steps)
