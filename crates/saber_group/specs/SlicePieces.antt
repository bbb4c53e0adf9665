-- Slices as what a task gives.
use Rattle.std.specs.Prelude.{◌≡◌, ℕ, ◌+◌, ◌*◌, ◌≤◌, ◌<◌, List, [], ◌∷◌, ◌++◌, length, take, slice_range, Bool, false, Option, Some, None}
use Rattle.std.specs.List.{AllByRecursion}
use Rattle.saber_plan.specs.declared.rows.Row.{Row}
use Rattle.saber_plan.specs.declared.windows.Mark.{Mark}
use Rattle.saber_plan.specs.Inputs.{Input, first_arrivals}
use Rattle.saber_plan.specs.Trees.{Tree}
use Rattle.saber_plan.specs.Windows.{no_rows, mark_of, mark_after, mark_at, end_mark, closed_count}
use Rattle.saber_plan.specs.Answers.{frame, alike, way}
use Rattle.saber_plan.specs.GivenRows.{RowsFit}
use Rattle.saber_fragment.specs.declared.blocks.Earlier.{Earlier}
use Rattle.saber_fragment.specs.Drafts.{EndWith, Sight}
use Rattle.saber_group.specs.declared.complete.Complete.{Complete}
use Rattle.saber_group.specs.declared.slices.Slice.{Slice}
use Rattle.saber_group.specs.declared.slice_pieces.SlicePiece.{SlicePiece}
use Rattle.saber_group.specs.SliceParts.{closed_by, lines_between, Holds, IsSlice, Settled}

-- the slices of the rows from position x up to y, each from where the one before it ends
abbrev pub SlicesTo : Tree → Mark → List Row → ℕ → List Slice → ℕ → Type 0
SlicesTo q m rows x [] y = x ≡ y
SlicesTo q m rows x (r ∷ rs) y = IsSlice q m rows x r.end r.first r.past r.part × ((x < r.end) × ((r.end ≤ length rows) × SlicesTo q m rows r.end rs y))

-- up to the last row
abbrev pub SlicesFrom : Tree → Mark → List Row → ℕ → List Slice → Type 0
SlicesFrom q m rows x rs = SlicesTo q m rows x rs (length rows)

-- Of rows behind others the windows from `low` on that are done have their text here. The windows below get nothing from row x on, and
-- have these slices up to there; those behind have what is open.
pub record IsComplete (q : Tree) (old rows : List Row) (ended : Bool) (slices : List Slice) (c : Complete) : Type 0 where
  pub x : ℕ
  pub closing_are : SlicesTo q (mark_of old) rows 0 slices x
  pub firsts : AllByRecursion (λ (r : Slice). r.first ≤ c.low) slices
  pub below : Settled q (mark_of old) (take x rows) rows c.low
  pub text_is : c.text.items ≡ lines_between q no_rows (old ++ rows) c.low c.open.next
  pub open_is : Holds q no_rows (old ++ rows) c.open.next c.open.slices.entries
  pub closed_is : closed_by q no_rows old ≤ c.low
  pub high_is : c.open.next ≡ closed_count (frame q) (end_mark ended (mark_after (mark_of old) rows))
  pub order : c.low ≤ c.open.next

-- all slices of the rows, or what the task answers itself and the slices of the windows before
abbrev pub Given : Tree → List Row → List Row → Bool → List Slice → Option Complete → Type 0
Given q old rows ended slices None = SlicesFrom q (mark_of old) rows 0 slices
Given q old rows ended slices (Some c) = IsComplete q old rows ended slices c

-- whatever rows stand before these, with those that the task's block has at their end
abbrev pub Gives : Tree → Earlier → Mark → List Row → Bool → List Slice → Option Complete → Type 0
Gives q e m rows ended slices c = (old : List Row) → RowsFit q no_rows (old ++ rows) → EndWith old e → m ≡ mark_of old → Given q old rows ended slices c

-- How many steps a task takes that answers windows: one at most for each row before it that its block has, two for each of its slices, and
-- one for each of these windows. What its queue still owes is among them. A task that answers none takes no step.
abbrev pub TaskSteps : ℕ → ℕ → Option Complete → ℕ → ℕ → Type 0
TaskSteps earlier slices None before after = after ≡ before
TaskSteps earlier slices (Some c) before after = after + c.open.slices.owed + c.low ≤ before + earlier + 2 * slices + c.open.next

-- only windows that print their lines are answered by a task: what others print stands on the window before
abbrev pub MayAnswer : Tree → Option Complete → Type 0
MayAnswer q complete = (c : Complete) → complete ≡ Some c → way q ≡ alike

-- the piece is made of a task's own block
pub record IsMade (q : Tree) (s : Sight) (p : SlicePiece) : Type 0 where
  pub gives : Gives q s.earlier s.before s.rows s.ended p.slices p.complete
  pub after_is : p.after ≡ end_mark s.ended (mark_after s.before s.rows)
  pub may : MayAnswer q p.complete

-- the piece is that of the arrivals from position x up to position y, before which the input did not end
pub record IsOf (q : Tree) (r : Input) (x y : ℕ) (p : SlicePiece) : Type 0 where
  pub opens : (first_arrivals r x).ended ≡ false
  pub given : Given q (take x r.rows) (slice_range r.rows x y) (first_arrivals r y).ended p.slices p.complete
  pub after_is : p.after ≡ mark_at r y
  pub may : MayAnswer q p.complete
