use Rattle.std.proofs.Common.{[], get_or, pos, ◌∙◌, ap, sym, subst, rules, to_z-of_z}
use mir.Val.{SFits}
use mir.Syntax.{w64, w128}
use Rattle.saber_plan.specs.Values as v
use Rattle.saber_partial.specs.Sources.{IsSource}
use Rattle.saber_partial.proofs.Lone.{lone_value}
use Rattle.saber_partial.proofs.sources.Source.value.Goals as goal

pub returns-in-Column-clause-value : goal.returns-in-Column-clause-value
returns-in-Column-clause-value c =
    let k = c.in-Column.column in
    let zs = c.args.row.now.values in
    let fits : SFits w64 (get_or c.values.result.now k (pos 0)) = search rules in
    let wide = simp to_z-of_z at c.from.ensures in
    let fits_wide : SFits w128 c.from.result = search rules in
    let alone = subst (IsSource c.args.e.now) c.in-Column.is c.requires.source in
    let all = wide ∙ ap (λ l. get_or l k (pos 0)) c.values.ensures ∙ sym (ap (λ e. v.value e zs []) alone ∙ lone_value k zs) in
    simp to_z-of_z all
