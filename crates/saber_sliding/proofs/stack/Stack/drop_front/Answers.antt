use Rattle.std.proofs.Common.{◌≡◌, drop, length, ◌∙◌, ap, arith}
use Rattle.saber_sliding.specs.Stacks.{side_by_side}
use Rattle.saber_sliding.proofs.Stacked.{seen_length, side_drop}
use Rattle.saber_sliding.proofs.stack.Stack.drop_front.Goals as goal

pub drop_first-requires : goal.drop_first-requires
drop_first-requires c =
    let s = c.self.inside in
    let seen = seen_length s.numbers.items s.parts c.args.self.now c.self.invariant c.self.view_is in
    let most = c.requires in
    omega (arith, seen, most)

pub drop_front-requires : goal.drop_front-requires
drop_front-requires c =
    let s = c.self.inside in
    let same : length s.numbers.items ≡ length s.parts = c.self.invariant in
    let seen = seen_length s.numbers.items s.parts c.args.self.now c.self.invariant c.self.view_is in
    let most = c.requires in
    omega (arith, same, seen, most)

pub returns : goal.returns
returns c =
    let s = c.self.inside in
    (λ i. side_by_side (c.drop_first.ensures i) (c.drop_front.ensures i)) ∙ side_drop c.args.gone s.numbers.items s.parts c.self.invariant ∙ ap (drop c.args.gone) c.self.view_is
