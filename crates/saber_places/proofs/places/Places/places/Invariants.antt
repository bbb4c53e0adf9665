use Rattle.std.proofs.Common.{◌≡◌, ◌++◌, List, take, drop}
use Rattle.saber_plan.specs.declared.rows.Row.{Row}
use Rattle.saber_plan.specs.Trees.{Tree}
use Rattle.saber_plan.specs.Tasks.{places_after}
use Rattle.saber_places.specs.Counting.{Counts}
use Rattle.saber_places.proofs.places.Places.places.Given as goal

abbrev pub invariant-loop-i : goal.invariant-loop-i
invariant-loop-i l = record {
  stand : (q : Tree) (xs : List Row) → Counts q xs l.fn.self → l.places.items ++ places_after q (xs ++ take l.i l.rows) (drop l.i l.rows) ≡ places_after q xs l.rows;
  counts : (q : Tree) (xs : List Row) → Counts q xs l.fn.self → Counts q (xs ++ take l.i l.rows) l.self;
}
