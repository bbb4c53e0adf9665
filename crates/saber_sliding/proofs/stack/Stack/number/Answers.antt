use Rattle.std.proofs.Common.{ℕ, ◌∙◌, ap, arith}
use Rattle.saber_plan.specs.Parts.{Part}
use Rattle.saber_sliding.proofs.Stacked.{at_any, seen_entry, seen_length}
use Rattle.saber_sliding.proofs.stack.Stack.number.Goals as goal

pub index-requires : goal.index-requires
index-requires c =
    let s = c.self.inside in
    let long = s.numbers.ok.0 in
    let seen = seen_length s.numbers.items s.parts c.args.self.now c.self.invariant c.self.view_is in
    let within = c.requires in
    omega (arith, long, seen, within)

pub returns : goal.returns
returns c =
    let s = c.self.inside in
    let seen = seen_length s.numbers.items s.parts c.args.self.now c.self.invariant c.self.view_is in
    let within = c.requires in
    c.index.ensures ∙ at_any s.numbers.items c.args.i c.index.result.now (omega (arith, seen, within))
    ∙ ap (λ (e : ℕ × Part). e.0) (seen_entry s.numbers.items s.parts c.args.self.now c.args.i c.self.invariant c.self.view_is)
