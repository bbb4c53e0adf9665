use Rattle.std.proofs.Common.{◌≤◌, length, sym, ◌∙◌, ap, subst, arith}
use Rattle.saber_sliding.specs.Entries.{whole, Entries}
use Rattle.saber_sliding.proofs.Stacked.{drop_at}
use Rattle.saber_sliding.proofs.one_front.OneFront.first.Goals as goal

pub returns : goal.returns
returns c =
    let s = c.self.inside in
    let more = c.if-self-len.false in
    let long = c.len.ensures in
    let there = sym (drop_at s.stack s.gone (omega (arith, more, long))) ∙ c.self.view_is in
    record { is = (subst (λ (es : Entries). 1 ≤ length es) there (omega arith), c.part.ensures.is ∙ ap whole there, c.part.ensures.one) }
