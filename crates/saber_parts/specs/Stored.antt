-- The parts of a store, by window.
use Rattle.std.specs.Prelude.{◌≡◌, ℕ, List, filter, flat_map, nat_le, nat_lt, Some}
use Rattle.std.specs.Ordering.{nat_cmp}
use Rattle.std.specs.FinMap.{get, from_entries}
use Rattle.saber_plan.specs.Trees.{Tree}
use Rattle.saber_plan.specs.GivenRows.{AreNeighbors}
use Rattle.saber_plan.specs.Parts.{Part, part_lines}
use Rattle.saber_plan.specs.Tasks.{Parts, written_by, left_by}
use Rattle.saber_plan.specs.Shares.{piece_in}
use Rattle.saber_fragment.specs.declared.pieces.Piece.{Piece}
use Rattle.saber_fragment.specs.Shown.{windows_by, shares_of}

-- what the entries of a tree map are, each part by what it is for the definitions
abbrev pub parts_by : {P : Type 0} → (P → Part) → List (ℕ × P) → Parts
parts_by shown es = from_entries {R = nat_cmp} (windows_by shown es)

-- those of the windows from number c on
abbrev pub parts_from : {P : Type 0} → (P → Part) → ℕ → List (ℕ × P) → Parts
parts_from shown c es = parts_by shown (filter (λ e. nat_le c e.0) es)

-- what a piece adds to the text behind the rows whose parts these are, and the parts that are open then
abbrev pub written_of : {P : Type 0} → (P → Part) → Tree → List (ℕ × P) → Piece P → List ℕ
written_of shown q es p = written_by q (parts_by shown es) (piece_in (shares_of shown p))

abbrev pub left_of : {P : Type 0} → (P → Part) → Tree → List (ℕ × P) → Piece P → Parts
left_of shown q es p = left_by q (parts_by shown es) (piece_in (shares_of shown p))

-- the entries of closed windows
abbrev pub closed_of : {P : Type 0} → ℕ → List (ℕ × P) → List (ℕ × P)
closed_of c es = filter (λ e. nat_lt e.0 c) es

-- where both have a window, these are its parts over rows that follow one another
pub record CanTakeIn (q : Tree) (m n : Parts) : Type 0 where
  pub at : (i : ℕ) (a b : Part) → get m i ≡ Some a → get n i ≡ Some b → AreNeighbors q a b

-- the lines of windows, one after another
abbrev pub lines_of : Tree → List (ℕ × Part) → List ℕ
lines_of q es = flat_map (λ e. part_lines q e.0 e.1) es
