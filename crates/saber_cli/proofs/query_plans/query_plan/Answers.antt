use Rattle.std.proofs.Common.{subst}
use Rattle.saber_io.specs.Outside.{FilesView}
use Rattle.saber_plan.specs.Trees.{Tree, tree_of}
use Rattle.saber_check.specs.Texts.{HasPlan}
use Rattle.saber_cli.specs.Texts.{BeginsFile}
use Rattle.saber_cli.specs.Planned.{IsTextFault}
use Rattle.saber_cli.specs.Due.{IsPlanned}
use Rattle.saber_cli.specs.Chaining.{LacksPlan}
use Rattle.saber_cli.proofs.AnsweredLemmas.{for_any}
use Rattle.saber_cli.proofs.RunLemmas.{some_map}
use Rattle.saber_cli.proofs.PlanLemmas.{planned_of, query_kinds, query_lacks_plan, text_lacks_plan, uses_refused}
use Rattle.saber_cli.proofs.query_plans.query_plan.Goals as goal

pub returns-in-Err-clause-lacks : goal.returns-in-Err-clause-lacks
returns-in-Err-clause-lacks g c = for_any (λ (t : FilesView). LacksPlan t.contents c.args.name.now c.in-Err.outcome) _ (λ t. query_lacks_plan t.contents c.args.name.now c.in-Err.outcome c.in-Err.ensures.kinds)

pub returns-in-Err-clause-kinds : goal.returns-in-Err-clause-kinds
returns-in-Err-clause-kinds g c = query_kinds c.in-Err.outcome c.in-Err.ensures.kinds

pub returns-in-Ok-planned-clause-plan : goal.returns-in-Ok-planned-clause-plan
returns-in-Ok-planned-clause-plan g c =
    let q : Tree = tree_of c.in-Ok-planned.plan in
    let ok : HasPlan c.in-Ok.text.items q = subst (λ t. HasPlan t q) c.deref.ensures.value c.in-Ok-planned.ensures.plan in
    some_map (λ (t : FilesView). BeginsFile t.contents c.args.name.now c.in-Ok.text.items) (λ t. IsPlanned t.contents c.args.name.now q) _ (λ t b. planned_of t.contents c.args.name.now c.in-Ok.text.items q b ok) c.in-Ok.ensures.front

pub returns-clause-lacks : goal.returns-clause-lacks
returns-clause-lacks g c =
    let o = c.in-Err-planned.outcome in
    let err : IsTextFault c.in-Ok.text.items o = subst (λ t. IsTextFault t o) c.deref.ensures.value c.in-Err-planned.ensures.fault in
    some_map (λ (t : FilesView). BeginsFile t.contents c.args.name.now c.in-Ok.text.items) (λ t. LacksPlan t.contents c.args.name.now o) _ (λ t b. text_lacks_plan t.contents c.args.name.now c.in-Ok.text.items o b err) c.in-Ok.ensures.front

pub returns-clause-uses : goal.returns-clause-uses
returns-clause-uses g c = uses_refused c.args.name.now _ c.in-Err-planned.outcome _ _ c.in-Err-planned.ensures.fault c.in-Ok.ensures.uses
