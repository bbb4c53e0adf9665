use Rattle.std.proofs.Common.{◌≡◌, ℕ, List, Result, Ok, Err, IfOk, IfErr}
use Rattle.saber_plan.specs.declared.plans.Plan.{Plan}
use Rattle.saber_plan.specs.Trees.{tree_of}
use Rattle.saber_query.specs.Trees.{query_of}
use Rattle.saber_query.specs.Parsed.{Parsed, IsParsed}
use Rattle.saber_query.specs.Means.{MeansTree}
use Rattle.saber_query.specs.declared.fault.QueryFault.{QueryFault}
use Rattle.saber_query.specs.declared.fault.QueryFault.TheVariants.{NoMemory, At}
use Rattle.saber_check.specs.Plans.{plan_tree}
use Rattle.saber_check.specs.Outcome.{IsFaultless, IsFaultOf}
use Rattle.saber_check.specs.Texts.{HasPlan, fails_checks, IsFaultIn}
use Rattle.saber_check.proofs.text.plan_of.Goals as goal

planned : (text : List ℕ) (p : Parsed) (r : Result Plan QueryFault) → IsParsed p.select p.starts → MeansTree text p → IfOk r (λ y. IsFaultless (query_of p.select)) → IfOk r (λ y. tree_of y ≡ plan_tree (query_of p.select)) → IfOk r (λ y. HasPlan text (tree_of y))
planned text p (Ok y) i m n e = record { query = p; parsed = i; means = m; faultless = n; same = e }
planned text p (Err f) i m n e = tt

refused : (text : List ℕ) (p : Parsed) (r : Result Plan QueryFault) → MeansTree text p → IfErr r (IsFaultOf p) → IfErr r (IsFaultIn text)
refused text p (Ok y) m g = tt
refused text p (Err NoMemory) m g = tt
refused text p (Err (At b c)) m g = fails_checks (record { query = p; means = m; fails = g })

pub returns-clause-plan : goal.returns-clause-plan
returns-clause-plan c = planned c.args.text.now _ c.check-plan.result c.check-plan.ensures.parsed c.in_ok-query.ensures c.check-plan.ensures.faultless c.check-plan.ensures.plan

pub returns-clause-fault : goal.returns-clause-fault
returns-clause-fault c = refused c.args.text.now _ c.check-plan.result c.in_ok-query.ensures c.check-plan.ensures.fault
