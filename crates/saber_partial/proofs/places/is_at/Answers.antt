use Rattle.std.proofs.Common.{sym, ◌∙◌, arith}
use Rattle.saber_plan.specs.Facts.Maps.{equal_if}
use Rattle.saber_plan.specs.Facts.Parts.{exact}
use Rattle.saber_partial.proofs.places.is_at.Goals as goal

pub returns-then-i-len : goal.returns-then-i-len
returns-then-i-len c = λ same. record {
  within = omega (arith, c.if-i-len.true, c.len.ensures);
  at = λ d. sym (c.key.ensures d) ∙ exact _ _ (sym c.key_order.ensures ∙ equal_if _ (sym c.is_eq.ensures ∙ same));
}
