use Rattle.saber_plan.specs.Trees.{tree_of}
use Rattle.saber_dispatch.proofs.FedBlocks.{nothing_fed}
use Rattle.saber_dispatch.proofs.fed_cutter.FedCutter.new.Goals as goal

pub returns-clause-cuts : goal.returns-clause-cuts
returns-clause-cuts c = let n = c.in_ok-cutter in nothing_fed (tree_of c.args.plan.now) c.args.sizes.now n.cutter c.requires.one n.ensures.cuts n.ensures.fresh n.ensures.unended
