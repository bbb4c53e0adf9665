use Rattle.std.proofs.Common.{◌∙◌, sym, ap, subst}
use Rattle.saber_plan.specs.Trees.{tree_of}
use Rattle.saber_engine.specs.Gives.{LeavesWhole}
use Rattle.saber_engine.specs.Sources.{each_input}
use Rattle.saber_cli.specs.Outcomes.{IsClean, IsOfChain}
use Rattle.saber_cli.specs.Uses.{IsOpened}
use Rattle.saber_cli.specs.Endings.{chained_as}
use Rattle.saber_cli.proofs.ChainRunLemmas.{chained_clean, chained_kinds, chained_opened, chained_read, chained_write, runs_so}
use Rattle.saber_cli.proofs.chain_answer.answer_chain.Goals as goal

pub returns-clause-runs : goal.returns-clause-runs
returns-clause-runs g c =
    let e = c.chain-first_end.result in
    let n = c.chain-first_end.ensures in
    runs_so (tree_of c.args.plans.now.first) (tree_of c.args.plans.now.second) c.args.sizes.now (LeavesWhole (tree_of c.args.plans.now.first) c.args.sizes.now (each_input g.S.Source.left c.args.inputs) (each_input g.S.Source.left e.inputs)) _ _ _
    c.chained_as.result e c.stopped_of-stopped.result c.chained_as.ensures c.stopped_of-stopped.ensures n.stopped n.gives n.whole n.never n.all n.cut n.narrow

pub returns-clause-kinds : goal.returns-clause-kinds
returns-clause-kinds g c = subst IsOfChain (sym c.chained_as.ensures) (chained_kinds c.args.sizes.now.ring c.chain-first_end.result.first c.chain-first_end.result.second c.stopped_of-stopped.result)

pub returns-clause-opened : goal.returns-clause-opened
returns-clause-opened g c = subst IsOpened (sym c.chained_as.ensures) (chained_opened c.args.sizes.now.ring c.chain-first_end.result.first c.chain-first_end.result.second c.stopped_of-stopped.result)

pub returns-clause-read : goal.returns-clause-read
returns-clause-read g c side e = c.chain-first_end.ensures.read side (chained_read c.args.sizes.now.ring c.chain-first_end.result.first c.chain-first_end.result.second c.stopped_of-stopped.result side (sym c.chained_as.ensures ∙ e))

pub returns-clause-read_good : goal.returns-clause-read_good
returns-clause-read_good g c k = c.chain-first_end.ensures.read_good (chained_clean c.args.sizes.now.ring c.chain-first_end.result.first c.chain-first_end.result.second c.stopped_of-stopped.result (subst IsClean c.chained_as.ensures k))

pub returns-clause-write : goal.returns-clause-write
returns-clause-write g c e = c.chain-first_end.ensures.write (chained_write c.args.sizes.now.ring c.chain-first_end.result.first c.chain-first_end.result.second c.stopped_of-stopped.result c.chain-first_end.ensures.never (sym c.chained_as.ensures ∙ e))

pub returns-clause-write_good : goal.returns-clause-write_good
returns-clause-write_good g c w = c.chain-first_end.ensures.write_good (λ e. w (c.chained_as.ensures ∙ ap (λ z. chained_as c.args.sizes.now.ring c.chain-first_end.result.first z c.stopped_of-stopped.result) e))
