use Rattle.std.proofs.Common.{arith, rules, ◌≡◌, ◌+◌, ◌∷◌, ◌++◌, [], sym, ◌∙◌, subst, take, drop, get_or, length-drop}
use Rattle.std.proofs.lemmas.List.{take_rest}
use Rattle.saber_rows.specs.QuickRows.{Begun, EndsField}
use Rattle.saber_rows.proofs.QuickFields.{begun_more}
use Rattle.saber_rows.proofs.quick_rows.fields_in.Goals as goal

pub loop-column-preserved : goal.loop-column-preserved
loop-column-preserved g c =
    let held = c.args.held.now in
    let at = c.loop-column.at in
    let f = c.in_ok-value in
    let vs = g.N.Numbers.numbers c.loop-column.out in
    let field : EndsField (drop at held) c.loop-column.column f.value f.n f.next = subst (λ h. EndsField h c.loop-column.column f.value f.n f.next) (take_rest held at) f.ensures in
    let comma : get_or (drop at held) f.n 0 ≡ 44 = sym field.next_is ∙ omega (arith, c.if-next-ne44.false) in
    let put : g.N.Numbers.numbers c.put.new.self ≡ vs ++ f.value ∷ [] = search rules in
    record {
      within = omega (arith, field.inside, length-drop at held);
      begun = subst (λ xs. Begun (take (at + (f.n + 1)) held) (c.loop-column.column + 1) xs) (sym put)
          (begun_more held at f.n c.loop-column.column vs f.value c.loop-column.invariant.begun field.number field.range field.inside comma);
      behind = c.put.ensures.behind ∙ c.loop-column.invariant.behind;
    }
