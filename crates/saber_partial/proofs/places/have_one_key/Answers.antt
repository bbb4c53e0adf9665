use Rattle.std.proofs.Common.{◌≡◌, sym, ◌∙◌, length, arith}
use Rattle.saber_plan.specs.Facts.Parts.{exact}
use Rattle.saber_partial.proofs.Rising.{keys_alone}
use Rattle.saber_partial.proofs.places.have_one_key.Goals as goal

pub returns-in-Equal-clause-same : goal.returns-in-Equal-clause-same
returns-in-Equal-clause-same c = λ _.
    let es = c.args.groups.now.entries in
    let fs = c.args.others.now.entries in
    let one : length es ≡ 1 = omega (arith, c.len.ensures, c.if-len-ne1.false) in
    let two : length fs ≡ 1 = omega (arith, c.len-else-len-ne1.ensures, c.if-len-ne1-2.false) in
    keys_alone es fs one two (λ d. sym (c.key.ensures d) ∙ exact _ _ (sym c.key_order.ensures ∙ c.in-Equal.is) ∙ c.key-2.ensures d)
