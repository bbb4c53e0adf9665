use Rattle.std.proofs.Common.{ℕ, Some, sym, ◌∙◌, ap, arith}
use Rattle.saber_sliding.specs.Entries.{first_number}
use Rattle.saber_sliding.proofs.Stacked.{drop_at}
use Rattle.saber_sliding.proofs.one_front.OneFront.first_number.Goals as goal

pub returns : goal.returns
returns c =
    let s = c.self.inside in
    let more = c.if-self-len.false in
    let long = c.len.ensures in
    ap (λ (n : ℕ). Some n) c.number.ensures ∙ ap first_number (sym (drop_at s.stack s.gone (omega (arith, more, long))) ∙ c.self.view_is)
