use Rattle.std.proofs.Common.{arith, ◌≡◌, drop, length-drop, get_or, get_or-drop, subst, sym, ◌∙◌, ap}
use Rattle.std.proofs.lemmas.List.{take_rest}
use Rattle.saber_rows.specs.QuickRows.{EndDigits}
use Rattle.saber_rows.proofs.QuickNumbers.{plain_field, minus_field}
use Rattle.saber_rows.proofs.quick_rows.field_in.Goals as goal

pub returns-then-n-gt0 : goal.returns-then-n-gt0
returns-then-n-gt0 c =
    let d = c.in_ok-size.ensures in
    let field = plain_field c.args.held.now c.in_ok-size.size c.in_ok-size.n c.args.column d.digits (omega (arith, c.if-n-gt0.true)) in
    record { inside = d.inside; number = field.0; range = field.1; next_is = d.next_is }

pub returns : goal.returns
returns c =
    let held = c.args.held.now in
    let n = c.in_ok-size-2.n in
    let d : EndDigits (drop 1 held) c.in_ok-size-2.size n c.in_ok-size-2.next = subst (λ h. EndDigits h c.in_ok-size-2.size n c.in_ok-size-2.next) (take_rest held 1) c.in_ok-size-2.ensures in
    let first = c.in_ok-size.ensures in
    let none : c.in_ok-size.n ≡ 0 = omega (arith, c.if-n-gt0.false) in
    let minus : get_or held 0 0 ≡ 45 = ap (λ i. get_or held i 0) (sym none) ∙ sym first.next_is ∙ omega (arith, c.if-next-ne45.false) in
    let field = minus_field held c.in_ok-size-2.size n c.args.column (omega (arith, first.inside)) minus c.if-n-eq0.false c.if-column-eq1.false d.digits in
    record {
      inside = omega (arith, d.inside, length-drop 1 held);
      number = field.0;
      range = field.1;
      next_is = d.next_is ∙ get_or-drop 1 held n 0 ∙ ap (λ i. get_or held i 0) (omega arith);
    }
