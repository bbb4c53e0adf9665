use Rattle.std.proofs.Common.{arith, rules, ◌≡◌, ◌∷◌, ◌++◌, [], IfSome, drop, length-drop, sym, subst}
use Rattle.std.proofs.lemmas.List.{take_rest}
use Rattle.std.proofs.lemmas.Option.{IfSome_then}
use Rattle.saber_rows.specs.QuickRows.{IsRowAt, EndsField}
use Rattle.saber_rows.proofs.QuickLines.{row_ends}
use Rattle.saber_rows.proofs.quick_rows.row_in.Goals as goal

pub returns-clause-row : goal.returns-clause-row
returns-clause-row g c =
    let held = c.args.held.now in
    let at = c.in_ok-at.at in
    let f = c.in_ok-value in
    let vs = g.N.Numbers.numbers c.fields_in.new.out in
    let field : EndsField (drop at held) c.args.columns f.value f.n f.next = subst (λ h. EndsField h c.args.columns f.value f.n f.next) (take_rest held at) f.ensures in
    let put : g.N.Numbers.numbers c.put.new.self ≡ vs ++ f.value ∷ [] = search rules in
    subst (λ xs. IfSome c.feed_at.result (IsRowAt c.args.columns held xs)) (sym put)
    (IfSome_then c.feed_at.result c.feed_at.ensures (λ feed behind. row_ends c.args.columns held vs f.value at f.n feed
    c.in_ok-at.ensures.begun (omega (arith, field.inside, length-drop at held)) field.number field.range c.if-end-gt-LONGEST.false behind))
