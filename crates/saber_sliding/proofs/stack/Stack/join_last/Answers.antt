use Rattle.std.proofs.Common.{◌-◌, sym, ◌∙◌, ap, subst, arith}
use Rattle.saber_sliding.specs.Entries.{joined_entries, suffixes, CanFollow, Entries}
use Rattle.saber_sliding.specs.Stacks.{side_by_side}
use Rattle.saber_sliding.proofs.Stacked.{seen_length, side_can, side_joined}
use Rattle.saber_sliding.proofs.stack.Stack.join_last.Goals as goal

pub join-requires-clause-can : goal.join-requires-clause-can
join-requires-clause-can g c =
    let s = c.self.inside in
    let long = s.numbers.ok.0 in
    let now = c.len-last.ensures in
    let some = c.requires.some in
    let seen = seen_length s.numbers.items s.parts c.args.self.now c.self.invariant c.self.view_is in
    side_can s.numbers.items s.parts (c.len-last.result - 1) c.args.part.now c.self.invariant (omega (arith, long, now, some, seen))
    (subst (λ (es : Entries). CanFollow c.args.part.now (suffixes es)) (sym c.self.view_is) c.requires.can)

pub returns-clause-joined : goal.returns-clause-joined
returns-clause-joined g c =
    let s = c.self.inside in
    let long = s.numbers.ok.0 in
    let now = c.len-last.ensures in
    let some = c.requires.some in
    let seen = seen_length s.numbers.items s.parts c.args.self.now c.self.invariant c.self.view_is in
    ap (side_by_side s.numbers.items) c.join.ensures.joined
    ∙ side_joined s.numbers.items s.parts (c.len-last.result - 1) c.args.part.now c.self.invariant (omega (arith, long, now, some, seen))
    ∙ ap (joined_entries c.args.part.now) c.self.view_is
