use Rattle.std.proofs.Common.{◌≡◌, ◌∙◌, sym, ap, subst, get_or, pos, IfSome, rules, to_z-of_z}
use mir.Val.{SFits}
use mir.Syntax.{w64, w128}
use Rattle.saber_plan.specs.Values.{value}
use Rattle.saber_join.specs.Ties.{IsColumn, narrow}
use Rattle.saber_join.proofs.Tying.{column_value}
use Rattle.saber_join.proofs.ties.End.key.Goals as goal

pub returns-in-Some : goal.returns-in-Some
returns-in-Some c =
    let k = c.in-Some.k in
    let xs = c.args.row.now.values in
    let column : IsColumn k c.args.self.now = subst (IsColumn k) c.self.view_is (subst (λ o. IfSome o (λ k. IsColumn k c.self.inside.expr.now)) c.in-Some.is c.self.invariant) in
    let at : get_or c.values.result.now k (pos 0) ≡ value c.args.self.now xs xs = ap (λ l. get_or l k (pos 0)) c.values.ensures ∙ sym (column_value k c.args.self.now xs column) in
    let fits : SFits w64 (get_or c.values.result.now k (pos 0)) = search rules in
    let wide = simp to_z-of_z at c.from.ensures in
    let fits_wide : SFits w128 c.from.result = search rules in
    let key = simp to_z-of_z at c.narrow.ensures in
    let fits_key : SFits w64 c.narrow.result = search rules in
    simp to_z-of_z (key ∙ ap narrow (wide ∙ at))
