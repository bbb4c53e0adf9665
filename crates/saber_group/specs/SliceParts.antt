-- Parts of windows over rows, slices of rows, and what a queue of slices has of them.
use Rattle.std.specs.Prelude.{◌≡◌, ℕ, ◌-◌, ◌≤◌, ◌<◌, List, [], ◌∷◌, Bool, ◌&&◌, if◌then◌else◌, filter, flat_map, take, length, ◌⊎◌}
use Rattle.std.specs.List.{AllByRecursion}
use Rattle.saber_plan.specs.declared.rows.Row.{Row}
use Rattle.saber_plan.specs.declared.windows.Mark.{Mark}
use Rattle.saber_plan.specs.Trees.{Tree}
use Rattle.saber_plan.specs.Values.{passes}
use Rattle.saber_plan.specs.Windows.{mark_after, placed_after, has, closed_count, begun_count, from}
use Rattle.saber_plan.specs.Answers.{Answers, frame, passing_values}
use Rattle.saber_plan.specs.Parts.{Part, group_part, merge, part_answers, part_lines}
use Rattle.saber_partial.specs.PartLaws.{OfRows}
use Rattle.saber_sliding.specs.Entries.{Entries, part_at, Entered}

-- the part of window i over some rows
abbrev pub part_of : Tree → ℕ → Mark → List Row → Part
part_of q i m rows = group_part q (passing_values q (filter (has (frame q) i) (placed_after m rows)))

-- the answers of each window
abbrev pub answers_over : Tree → Mark → List Row → ℕ → Answers
answers_over q m rows i = part_answers q (part_of q i m rows)

-- the lines of the windows from a up to b
abbrev pub lines_between : Tree → Mark → List Row → ℕ → ℕ → List ℕ
lines_between q m rows a b = flat_map (λ i. part_lines q i (part_of q i m rows)) (from a (b - a))

-- how many windows some rows begin
abbrev pub begun_by : Tree → Mark → List Row → ℕ
begun_by q m rows = begun_count (frame q) (mark_after m rows)

-- and how many they close
abbrev pub closed_by : Tree → Mark → List Row → ℕ
closed_by q m rows = closed_count (frame q) (mark_after m rows)

-- The rows from position x up to y lie in the windows from `first` up to `past`, and in no other. They add p to the part of each,
-- and no row from there on lies in a window below.
pub record IsSlice (q : Tree) (m : Mark) (rows : List Row) (x y first past : ℕ) (p : Part) : Type 0 where
  pub inside : (i : ℕ) → first ≤ i → i < past → part_of q i m (take y rows) ≡ merge (part_of q i m (take x rows)) p
  pub behind : (i : ℕ) → first ≤ i → past ≤ i → part_of q i m (take y rows) ≡ part_of q i m (take x rows)
  pub below : (i : ℕ) → i < first → part_of q i m (take x rows) ≡ part_of q i m rows
  pub before : (i : ℕ) → i < first → part_of q i m (take y rows) ≡ part_of q i m (take x rows)
  pub few : OfRows q (y - x) p
  pub order : first ≤ past
  pub closes : first ≤ closed_by q m (take y rows)
  pub begins : begun_by q m (take x rows) ≤ past
  pub ends : past ≤ begun_by q m (take y rows)

-- a part with one row more, if that is wanted and passes
abbrev pub with_row : Tree → Bool → Part → Row → Part
with_row q is_wanted p row = if is_wanted && passes q.predicate row.values [] then merge p (group_part q (row.values ∷ [])) else p

-- a part has come behind others, unless it is empty or no window from `low` on has its rows
abbrev pub EnteredFrom : ℕ → Entries → ℕ → Part → Entries → Type 0
EnteredFrom low es n p fs = ((n ≤ low) × (fs ≡ es)) ⊎ Entered es n p fs

-- the slices over some rows give the windows from `next` on their parts, and lie in none that isn't begun
pub record Holds (q : Tree) (m : Mark) (rows : List Row) (next : ℕ) (slices : Entries) : Type 0 where
  pub at : (i : ℕ) → next ≤ i → part_of q i m rows ≡ part_at slices i
  pub begun : AllByRecursion (λ (e : ℕ × Part). e.0 ≤ begun_by q m rows) slices
  pub few : AllByRecursion (λ (e : ℕ × Part). OfRows q (length rows) e.1) slices

-- ---- windows that are done

-- no later row of these lies in the windows below `low`
abbrev pub Settled : Tree → Mark → List Row → List Row → ℕ → Type 0
Settled q m rows all low = (i : ℕ) → i < low → part_of q i m rows ≡ part_of q i m all
