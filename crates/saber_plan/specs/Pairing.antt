-- One more row of a join's window, as a nested loop takes rows in (SABER 2016 streams both sides through a join's windows).
use Rattle.std.specs.Prelude.{List, [], ◌∷◌, flat_map, fold, ℤ}
use Rattle.std.specs.FinMap.{insert}
use Rattle.saber_plan.specs.Trees.{Tree}
use Rattle.saber_plan.specs.Windows.{Placed, by_side}
use Rattle.saber_plan.specs.Answers.{pairs_with}
use Rattle.saber_plan.specs.Parts.{Part, Numbers, pair_numbers}

-- the pairs of a row with the left or right rows before it, whichever are of the other side
abbrev pub row_pairs : Tree → Placed → List Placed → List Placed → List (List ℤ × Numbers)
row_pairs q x lefts rights = by_side x.row.side (pairs_with q (pair_numbers q) x rights) (flat_map (λ y. pairs_with q (pair_numbers q) y (x ∷ [])) lefts)

-- a part, and then each of these entries
abbrev pub with_entries : Part → List (List ℤ × Numbers) → Part
with_entries m es = fold (λ p e. insert p e.0 e.1) m es
