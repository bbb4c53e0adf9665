use Rattle.std.proofs.Common.{◌≡◌, ℕ, length, ◌∙◌, ap, arith}
use Rattle.saber_plan.specs.Parts.{Part}
use Rattle.saber_sliding.proofs.Stacked.{seen_entry, seen_length}
use Rattle.saber_sliding.proofs.stack.Stack.part.Goals as goal

pub part-requires : goal.part-requires
part-requires c =
    let s = c.self.inside in
    let same : length s.numbers.items ≡ length s.parts = c.self.invariant in
    let seen = seen_length s.numbers.items s.parts c.args.self.now c.self.invariant c.self.view_is in
    let within = c.requires in
    omega (arith, same, seen, within)

pub returns-clause-is : goal.returns-clause-is
returns-clause-is c =
    let s = c.self.inside in
    c.part.ensures.is ∙ ap (λ (e : ℕ × Part). e.1) (seen_entry s.numbers.items s.parts c.args.self.now c.args.i c.self.invariant c.self.view_is)
