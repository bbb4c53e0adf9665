use Rattle.std.proofs.Common.{ℕ}
use Rattle.saber_crew.specs.Leaders.{GoesOn}
use Rattle.saber_crew.proofs.leader.Leader.next_rows.Given as goal

abbrev pub invariant-loop : goal.invariant-loop
invariant-loop g l = GoesOn l.fn.self l.self × ((told : g.row.W-Data.Denot) (d : ℕ) → g.P.Supply.has_given l.fn.supply l.fn.from told d → g.P.Supply.has_given l.supply l.from told d)
