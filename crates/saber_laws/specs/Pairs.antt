-- Laws of the pairs of a join: one more row.
use Rattle.std.specs.Prelude.{◌≡◌, ℕ, ◌≤◌, List, [], ◌∷◌, ◌++◌, filter, if◌then◌else◌}
use Rattle.saber_plan.specs.declared.rows.Row.{Row}
use Rattle.saber_plan.specs.declared.windows.Mark.{Mark}
use Rattle.saber_plan.specs.Trees.{Tree}
use Rattle.saber_plan.specs.Windows.{Placed, place, placed_after, mark_after, has}
use Rattle.saber_plan.specs.Answers.{is_left, is_right, frame}
use Rattle.saber_plan.specs.Parts.{Part, pair_part}
use Rattle.saber_plan.specs.Pairing.{row_pairs, with_entries}

-- a row after some rows that follow a mark
abbrev pub after_rows : Mark → List Row → Row → Placed
after_rows m xs r = record { row = r; before = mark_after m xs }

-- a part of some rows with one row more: its pairs with them
abbrev pub with_row : Tree → ℕ → List Placed → Placed → Part
with_row q x us r = with_entries (pair_part q x us) (row_pairs q r (filter is_left us) (filter is_right us))

-- so each window that has the row gets its pairs, and no other
abbrev pub WindowsGetPairs : Type 0
WindowsGetPairs = (q : Tree) (x i : ℕ) (m : Mark) (xs : List Row) (r : Row) → x ≤ place (after_rows m xs r)
    → pair_part q x (filter (has (frame q) i) (placed_after m (xs ++ r ∷ [])))
    ≡ (let chosen = filter (has (frame q) i) (placed_after m xs) in
    if has (frame q) i (after_rows m xs r) then with_row q x chosen (after_rows m xs r) else pair_part q x chosen)
