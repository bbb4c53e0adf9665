use Rattle.saber_engine.proofs.fed_engine.engine_fed.Given as goal

abbrev pub ghosts-run_fed : goal.ghosts-run_fed
ghosts-run_fed g a = record { sizes = a.sizes.now; faults = g.F.Feed.faults a.feed.now }
