-- The windows of the rows of one key list, which are a stream by themselves: their parts, and what a queue of parts has of them.
use Rattle.std.specs.Prelude.{◌≡◌, ℕ, ◌-◌, ◌≤◌, List, [], ◌∷◌, ◌++◌, filter, flat_map, length, get_or, Option, Some, None, ◌⊎◌}
use Rattle.std.specs.List.{AllByRecursion}
use Rattle.saber_plan.specs.declared.plans.Shape.TheVariants.{Group}
use Rattle.saber_plan.specs.declared.rows.Row.{Row}
use Rattle.saber_plan.specs.declared.windows.Measure.TheVariants.{Rows}
use Rattle.saber_plan.specs.Trees.{Tree}
use Rattle.saber_plan.specs.Values.{passes}
use Rattle.saber_plan.specs.Checked.{IsChecked}
use Rattle.saber_plan.specs.GivenRows.{RowsFit}
use Rattle.saber_plan.specs.Windows.{Fits, no_rows, placed_from_start, has, from}
use Rattle.saber_plan.specs.Answers.{frame, passing_values, by_list, way, past_in, begun_in, closed_by}
use Rattle.saber_plan.specs.Parts.{Part, no_part, group_part, part_lines}
use Rattle.saber_laws.specs.Plans.{OneWindow}
use Rattle.saber_partial.specs.PartLaws.{OfRows}
use Rattle.saber_sliding.specs.Entries.{Entries, part_at, Put}

-- a group query with PARTITION BY
pub record Asks (q : Tree) : Type 0 where
  pub checked : IsChecked q
  pub group : q.shape ≡ Group
  pub window : OneWindow q
  pub by_rows : window.window.measure ≡ Rows
  pub fits : Fits (frame q)
  pub has_lists : way q ≡ by_list
  pub first : ℕ
  pub rest : List ℕ
  pub lists : q.partition ≡ first ∷ rest

-- the part of window i
abbrev pub part_of : Tree → ℕ → List Row → Part
part_of q i us = group_part q (passing_values q (filter (has (frame q) i) (placed_from_start us)))

-- the lines of the windows from a up to b
abbrev pub lines_between : Tree → List Row → ℕ → ℕ → List ℕ
lines_between q us a b = flat_map (λ i. part_lines q i (part_of q i us)) (from a (b - a))

-- the part of a row by itself, which is empty where it doesn't pass
abbrev pub row_part : Tree → Row → Part
row_part q r = group_part q (filter (λ zs. passes q.predicate zs []) (r.values ∷ []))

-- the part at a place of some, if one is told
abbrev pub part_in : List Part → Option ℕ → Part
part_in ps None = no_part
part_in ps (Some i) = get_or ps i no_part

-- a part has come behind others, unless it is empty
abbrev pub Entered : Entries → ℕ → Part → Entries → Type 0
Entered es n p fs = ((p ≡ no_part) × (fs ≡ es)) ⊎ Put es n p fs

-- a queue gives the windows from `next` on their parts, and lies in none that isn't begun
pub record Holds (q : Tree) (us : List Row) (next : ℕ) (es : Entries) : Type 0 where
  pub at : (i : ℕ) → next ≤ i → part_of q i us ≡ part_at es i
  pub begun : AllByRecursion (λ (e : ℕ × Part). e.0 ≤ begun_in q us) es
  pub few : AllByRecursion (λ (e : ℕ × Part). OfRows q (length us) e.1) es

-- the lines of the windows from `next` up to `done` have come behind the text, for any rows of which this is the queue
abbrev pub Printed : Tree → ℕ → Entries → ℕ → List ℕ → List ℕ → Type 0
Printed q next es done before after = (us : List Row) → Holds q us next es → after ≡ before ++ lines_between q us next done

-- What is kept of some rows: the parts of the windows that may have more, and how many are closed and begun.
pub record Keeps (q : Tree) (us : List Row) (next begun : ℕ) (es : Entries) : Type 0 where
  pub holds : Holds q us next es
  pub next_is : next ≡ past_in q us
  pub begun_is : begun ≡ begun_in q us

-- a row that comes behind some rows: how many windows are closed and begun then, and its part
pub record Comes (q : Tree) (us : List Row) (r : Row) (low past : ℕ) (p : Part) : Type 0 where
  pub asks : Asks q
  pub fits : RowsFit q no_rows (us ++ r ∷ [])
  pub low_is : low ≡ past_in q (us ++ r ∷ [])
  pub past_is : past ≡ begun_in q (us ++ r ∷ [])
  pub part_is : p ≡ row_part q r

-- it is kept too, and what it closes is printed
pub record Came (q : Tree) (us : List Row) (r : Row) (next begun : ℕ) (es : Entries) (before after : List ℕ) : Type 0 where
  pub keeps : Keeps q (us ++ r ∷ []) next begun es
  pub text : after ≡ before ++ closed_by q us r
