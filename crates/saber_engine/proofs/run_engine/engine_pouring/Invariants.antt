use Rattle.saber_dispatch.specs.Sources.{each_input}
use Rattle.saber_engine.proofs.run_engine.engine_pouring.Given as goal

abbrev pub ghosts-run_plan : goal.ghosts-run_plan
ghosts-run_plan g a = record { sizes = a.sizes.now; lefts = each_input g.S.Source.left a.inputs.now; faults = each_input g.S.Source.faults a.inputs.now }
