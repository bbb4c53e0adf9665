use Rattle.saber_dispatch.specs.Ending.{without_end}
use Rattle.saber_dispatch.specs.Sources.{each_input}
use Rattle.saber_engine.proofs.run_engines.engines.Given as goal

abbrev pub ghosts-run_each : goal.ghosts-run_each
ghosts-run_each g a = record { sizes = without_end a.sizes.now; lefts = each_input g.S.Source.left a.inputs.now; faults = each_input g.S.Source.faults a.inputs.now }
