use Rattle.std.proofs.Common.{[], refl}
use Rattle.saber_io.specs.Outside.{FilesView}
use Rattle.saber_plan.specs.Outputs.{appended-none}
use Rattle.saber_plan.specs.Trees.{tree_of}
use Rattle.saber_chain.specs.Sinks.{seen_of}
use Rattle.saber_cli.specs.Due.{contents_of, rows_named}
use Rattle.saber_cli.specs.Chaining.{ChainedIn, CutTakes, none_run}
use Rattle.saber_cli.proofs.AnsweredLemmas.{for_any}
use Rattle.saber_cli.proofs.ChainLeaveLemmas.{unopened_uses}
use Rattle.saber_cli.proofs.ChainRunLemmas.{chain_cause, chain_not_before, chain_runs, chain_uses, unopened_of_chain}
use Rattle.saber_cli.proofs.chains.chain_rows.Goals as goal

pub returns-in-Ok-clause-written : goal.returns-in-Ok-clause-written
returns-in-Ok-clause-written g c = let r = c.answer_chain-outcome.ensures.runs.0 in (r.out, r.written)

pub returns-in-Ok-clause-runs : goal.returns-in-Ok-clause-runs
returns-in-Ok-clause-runs g c =
    chain_runs g.F.Src.Source.left g.F.Src.Source.faults (tree_of c.args.plans.now.first) (tree_of c.args.plans.now.second) c.args.sizes.now (rows_named c.args.rows.now) _ _ c.answer_chain-outcome.result.outcome c.answer_chain-outcome.result.tasks _ _ _ _ _ c.in-Ok.ensures.opens c.in-Ok.ensures.asked c.close_rows.ensures.closed c.answer_chain-outcome.ensures.runs.0

pub returns-in-Ok-clause-early : goal.returns-in-Ok-clause-early
returns-in-Ok-clause-early g c b = absurd (chain_not_before c.answer_chain-outcome.result.outcome c.answer_chain-outcome.ensures.kinds c.answer_chain-outcome.ensures.opened b)

pub returns-in-Ok-clause-uses : goal.returns-in-Ok-clause-uses
returns-in-Ok-clause-uses g c =
    chain_uses g.F.Src.Source.left g.F.Src.Source.faults (rows_named c.args.rows.now) c.answer_chain-outcome.result.outcome _ _ _ _ _ c.in-Ok.ensures.number c.in-Ok.ensures.opens c.in-Ok.ensures.fresh c.in-Ok.ensures.asked c.close_rows.ensures.closed
    c.answer_chain-outcome.ensures.kinds c.answer_chain-outcome.ensures.opened c.answer_chain-outcome.ensures.takes c.answer_chain-outcome.ensures.read_good c.answer_chain-outcome.ensures.read

pub returns-in-Ok-clause-cause : goal.returns-in-Ok-clause-cause
returns-in-Ok-clause-cause g c k =
    chain_cause g.F.Src.Source.left g.F.Src.Source.faults c.answer_chain-outcome.result.outcome _ _ _ _ _ c.in-Ok.ensures.fresh c.in-Ok.ensures.good c.close_rows.ensures.count c.answer_chain-outcome.ensures.kinds c.answer_chain-outcome.ensures.opened c.answer_chain-outcome.ensures.read k

pub returns-in-Err-clause-written : goal.returns-in-Err-clause-written
returns-in-Err-clause-written g c = ([], appended-none _)

pub returns-in-Err-clause-runs : goal.returns-in-Err-clause-runs
returns-in-Err-clause-runs g c =
    let w = seen_of g.K.Sink.written g.K.Sink.writes c.args.sink in let told = g.F.Files.told in
    for_any (λ (t : FilesView). ChainedIn (tree_of c.args.plans.now.first) (tree_of c.args.plans.now.second) c.args.sizes.now (CutTakes (tree_of c.args.plans.now.first) c.args.sizes.now (rows_named c.args.rows.now) (told c.args.files.now) (told c.open_rows.new.files)) (contents_of t.contents (rows_named c.args.rows.now)) w w c.in-Err.outcome 0) _ (λ t. none_run c.in-Err.ensures.kinds refl refl)

pub returns-in-Err-clause-kinds : goal.returns-in-Err-clause-kinds
returns-in-Err-clause-kinds g c = unopened_of_chain c.in-Err.outcome c.in-Err.ensures.kinds

pub returns-in-Err-clause-uses : goal.returns-in-Err-clause-uses
returns-in-Err-clause-uses g c = unopened_uses (rows_named c.args.rows.now) c.in-Err.outcome _ _ c.in-Err.ensures.kinds c.in-Err.ensures.refused
