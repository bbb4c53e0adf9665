use Rattle.std.proofs.Common.{◌≡◌, ◌∙◌, length, map, sym, ap, subst, rules}
use Rattle.std.specs.Prelude.{IfSome}
use Rattle.std.specs.List.{AllByRecursion}
use Rattle.saber_plan.specs.Trees.{tree_of}
use Rattle.saber_top.specs.Queries.{HasStream, IsFirstUnlike, MayShare, first_columns}
use Rattle.saber_top.proofs.QueryLemmas.{no_items}
use Rattle.saber_top.proofs.plans.unlike.Goals as goal

pub returns-in_default-clause-share : goal.returns-in_default-clause-share
returns-in_default-clause-share c k =
    let long : length c.args.plans.now ≡ 0 = search rules in
    subst MayShare (sym (ap (map tree_of) (no_items c.args.plans.now long))) tt

pub returns-clause-share : goal.returns-clause-share
returns-clause-share c k =
    let first : c.columns_of.result ≡ first_columns (map tree_of c.args.plans.now) = c.columns_of.ensures ∙ ap (λ plans. first_columns (map tree_of plans)) (sym c.in-Some.ensures.cases.0) in
    subst (λ n. AllByRecursion (HasStream n) (map tree_of c.args.plans.now)) first (c.first_unlike.ensures.share k)

pub returns-clause-unlike : goal.returns-clause-unlike
returns-clause-unlike c =
    let first : c.columns_of.result ≡ first_columns (map tree_of c.args.plans.now) = c.columns_of.ensures ∙ ap (λ plans. first_columns (map tree_of plans)) (sym c.in-Some.ensures.cases.0) in
    subst (λ n. IfSome c.first_unlike.result (IsFirstUnlike n 0 (map tree_of c.args.plans.now))) first c.first_unlike.ensures.unlike
