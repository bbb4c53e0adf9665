use Rattle.std.proofs.Common.{sym, subst}
use Rattle.saber_io.specs.Outside.{FilesView}
use Rattle.saber_plan.specs.Trees.{Tree, tree_of}
use Rattle.saber_words.specs.Chain.{AskedChain, asked_chain}
use Rattle.saber_cli.specs.Due.{IsPlanned}
use Rattle.saber_cli.specs.Chained.{HasReason}
use Rattle.saber_words.specs.Commands.{chain}
use Rattle.saber_cli.specs.Leaving.{LeavesTold}
use Rattle.saber_cli.specs.Chaining.{LacksPlan}
use Rattle.saber_cli.proofs.RunLemmas.{some_both, some_map, used_contents}
use Rattle.saber_cli.proofs.PlanLemmas.{first_kinds, first_reason, misfit_reason}
use Rattle.saber_cli.proofs.ChainLeaveLemmas.{both_read, first_leaves, misfit_leaves, second_leaves}
use Rattle.saber_cli.proofs.query_plans.chain_plans.Goals as goal

-- ---- no plan of the first query

pub returns-in-Err-clause-reason : goal.returns-in-Err-clause-reason
returns-in-Err-clause-reason g c =
    let a : AskedChain = asked_chain c.args.command.now in
    let o = c.in-Err.outcome in
    some_map (λ (t : FilesView). LacksPlan t.contents a.first o) (λ t. HasReason t.contents a o) _ (λ t l. first_reason t.contents a o l) c.in-Err.ensures.lacks

pub returns-in-Err-clause-kinds : goal.returns-in-Err-clause-kinds
returns-in-Err-clause-kinds g c = first_kinds c.in-Err.outcome c.in-Err.ensures.kinds

pub returns-in-Err-clause-leaves : goal.returns-in-Err-clause-leaves
returns-in-Err-clause-leaves g c = first_leaves (asked_chain c.args.command.now) c.in-Err.outcome _ _ c.in-Err.ensures.kinds c.in-Err.ensures.uses

-- ---- none of the second

pub returns-in-Err-query_plan-clause-leaves : goal.returns-in-Err-query_plan-clause-leaves
returns-in-Err-query_plan-clause-leaves g c =
    let a : AskedChain = asked_chain c.args.command.now in
    let p : Tree = tree_of c.in-Ok.plan in
    let told = g.F.Files.told in
    let first = some_map (λ (t : FilesView). IsPlanned t.contents a.first p) (λ t. (x : Tree) × IsPlanned t.contents a.first x) (told c.args.files.now) (λ t u. (p, u)) c.in-Ok.ensures.plan in
    subst (λ x. LeavesTold (chain a) x (told c.args.files.now) (told c.query_plan-2.new.files)) (sym c.as_second.ensures) (second_leaves a c.in-Err-query_plan.outcome _ _ _ c.in-Err-query_plan.ensures.kinds first c.in-Ok.ensures.uses c.in-Err-query_plan.ensures.uses)

-- ---- both

pub returns-in-None-clause-read : goal.returns-in-None-clause-read
returns-in-None-clause-read g c = let a : AskedChain = asked_chain c.args.command.now in both_read a.first a.second _ _ _ c.in-Ok.ensures.uses c.in-Ok-query_plan.ensures.uses

pub returns-in-Some-clause-reason : goal.returns-in-Some-clause-reason
returns-in-Some-clause-reason g c =
    let a : AskedChain = asked_chain c.args.command.now in
    let p : Tree = tree_of c.in-Ok.plan in
    let q : Tree = tree_of c.in-Ok-query_plan.plan in
    let o = c.in-Some.outcome in
    let second = used_contents (λ files. IsPlanned files a.second q) a.first _ _ c.in-Ok.ensures.uses c.in-Ok-query_plan.ensures.plan in
    some_both (λ (t : FilesView). IsPlanned t.contents a.first p) (λ t. IsPlanned t.contents a.second q) (λ t. HasReason t.contents a o) _ (λ t u v. misfit_reason t.contents a p q c.file_count.result o (record { first = u; second = v }) c.file_count.ensures c.in-Some.ensures.some) c.in-Ok.ensures.plan second

pub returns-in-Some-clause-leaves : goal.returns-in-Some-clause-leaves
returns-in-Some-clause-leaves g c =
    let a : AskedChain = asked_chain c.args.command.now in
    let p : Tree = tree_of c.in-Ok.plan in
    let q : Tree = tree_of c.in-Ok-query_plan.plan in
    let told = g.F.Files.told in
    let first = some_map (λ (t : FilesView). IsPlanned t.contents a.first p) (λ t. (x : Tree) × IsPlanned t.contents a.first x) (told c.args.files.now) (λ t u. (p, u)) c.in-Ok.ensures.plan in
    misfit_leaves a p q c.file_count.result c.in-Some.outcome _ _ c.in-Some.ensures.some first (both_read a.first a.second _ _ _ c.in-Ok.ensures.uses c.in-Ok-query_plan.ensures.uses)
