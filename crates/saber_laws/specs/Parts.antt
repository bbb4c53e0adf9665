-- Laws of parts: their merge, and the lines that they give.
use Rattle.std.specs.Prelude.{◌≡◌, ℕ, ◌≤◌, List, [], length, take, true, false}
use Rattle.saber_plan.specs.declared.rows.Row.{Row}
use Rattle.saber_plan.specs.Trees.{Tree}
use Rattle.saber_plan.specs.Inputs.{Input}
use Rattle.saber_plan.specs.Windows.{Ordered, no_rows, mark_at, closed, begun}
use Rattle.saber_plan.specs.Answers.{lines, frame}
use Rattle.saber_plan.specs.Parts.{Part, part, no_part, merge, part_lines, group_part, pair_part}

abbrev pub MergeIsAssociative : Type 0
MergeIsAssociative = (a b c : Part) → merge (merge a b) c ≡ merge a (merge b c)

-- the empty part is the merge's unit
abbrev pub MergeHasUnit : Type 0
MergeHasUnit = (a : Part) → (merge no_part a ≡ a) × (merge a no_part ≡ a)

-- the part of positions x to z is the merge of those of x to y and of y to z
abbrev pub PartsJoin : Type 0
PartsJoin = (q : Tree) (i : ℕ) (xs : List Row) (x y z : ℕ) → x ≤ y → y ≤ z → part q i xs x z ≡ merge (part q i xs x y) (part q i xs y z)

-- the answer lines of a window are the lines of its whole part
abbrev pub PartHasLines : Type 0
PartHasLines = (q : Tree) (i : ℕ) (xs : List Row) → lines q i xs ≡ part_lines q i (part q i xs 0 (length xs))

-- no later arrival changes the lines of a closed window
abbrev pub ClosedLinesStay : Type 0
ClosedLinesStay = (q : Tree) (i : ℕ) (r : Input) (x y : ℕ) → Ordered no_rows r.rows → x ≤ y → closed (frame q) i (mark_at r x) ≡ true
    → lines q i (take y r.rows) ≡ lines q i (take x r.rows)

-- ---- which windows have a part

-- no row makes a part
pub record EmptyParts (q : Tree) : Type 0 where
  pub of_groups : group_part q [] ≡ no_part
  pub of_pairs : (x : ℕ) → pair_part q x [] ≡ no_part

abbrev pub NoRowsNoPart : Type 0
NoRowsNoPart = (q : Tree) → EmptyParts q

-- a window that is closed before some rows, or not begun by them, has no part of them
pub record OutsideParts (q : Tree) (i : ℕ) (r : Input) (x y : ℕ) : Type 0 where
  pub closed_before : closed (frame q) i (mark_at r x) ≡ true → part q i r.rows x y ≡ no_part
  pub not_begun : begun (frame q) i (mark_at r y) ≡ false → part q i r.rows x y ≡ no_part

abbrev pub PartsLieWithin : Type 0
PartsLieWithin = (q : Tree) (i : ℕ) (r : Input) (x y : ℕ) → Ordered no_rows r.rows → x ≤ y → OutsideParts q i r x y
