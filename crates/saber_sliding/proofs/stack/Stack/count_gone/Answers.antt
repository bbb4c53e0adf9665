use Rattle.std.proofs.Common.{◌≡◌, drop, ◌∙◌, ap, subst, arith}
use Rattle.saber_sliding.specs.Entries.{dropped_entries, Entries}
use Rattle.saber_sliding.specs.Stacks.{gone_by}
use Rattle.saber_sliding.proofs.Stacked.{gone_within, seen_length, side_dropped}
use Rattle.saber_sliding.proofs.stack.Stack.count_gone.Goals as goal

pub returns-clause-gone : goal.returns-clause-gone
returns-clause-gone c =
    let s = c.self.inside in
    let i = c.args.i in
    ap (λ n. drop n c.args.self.now) (c.gone_by.ensures.count ∙ ap (gone_by i) c.deref.ensures.value)
    ∙ subst (λ (es : Entries). drop (gone_by i s.numbers.items) es ≡ dropped_entries i es) c.self.view_is (side_dropped i s.numbers.items s.parts c.self.invariant)

pub returns-clause-within : goal.returns-clause-within
returns-clause-within c =
    let s = c.self.inside in
    let is = c.gone_by.ensures.count ∙ ap (gone_by c.args.i) c.deref.ensures.value in
    let within = gone_within c.args.i s.numbers.items in
    let seen = seen_length s.numbers.items s.parts c.args.self.now c.self.invariant c.self.view_is in
    omega (arith, is, within, seen)
