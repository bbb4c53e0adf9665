-- Slices that are kept from task to task, and what windows print that are closed.
use Rattle.std.specs.Prelude.{◌≡◌, ℕ, ◌-◌, ◌+◌, ◌*◌, ◌≤◌, ◌<◌, List, [], ◌∷◌, ◌++◌, Bool, Option, Some, None, length, take}
use Rattle.std.specs.Ordering.{nat_cmp}
use Rattle.std.specs.List.{AllByRecursion}
use Rattle.std.specs.FinMap.{empty, from_entries}
use Rattle.saber_plan.specs.declared.rows.Row.{Row}
use Rattle.saber_plan.specs.declared.windows.Mark.{Mark}
use Rattle.saber_plan.specs.Trees.{Tree}
use Rattle.saber_plan.specs.Inputs.{Input}
use Rattle.saber_plan.specs.Answers.{frame, way}
use Rattle.saber_plan.specs.Windows.{no_rows, mark_of, mark_after, end_mark, last_mark, closed_count, begun_count}
use Rattle.saber_plan.specs.GivenRows.{RowsFit}
use Rattle.saber_plan.specs.Tasks.{Parts, Kept, full, numbered_list}
use Rattle.saber_sliding.specs.declared.open.Open.{Open}
use Rattle.saber_changes.specs.declared.output.Output.{Output}
use Rattle.saber_sliding.specs.Entries.{Entries, part_at}
use Rattle.saber_changes.specs.Outputs.{change_in, last_in, way_by, IsBefore, Passed, StandsIn}
use Rattle.saber_group.specs.declared.complete.Complete.{Complete}
use Rattle.saber_group.specs.declared.slices.Slice.{Slice}
use Rattle.saber_group.specs.declared.slice_stores.SliceStore.{SliceStore}
use Rattle.saber_group.specs.SliceParts.{answers_over, closed_by, Holds, IsSlice, Settled}
use Rattle.saber_group.specs.SlicePieces.{Given}

-- the parts of the windows that are begun and not closed
abbrev pub held_in : SliceStore → Parts
held_in s = from_entries {R = nat_cmp} (numbered_list s.windows.next (s.begun - s.windows.next) (λ i. full (part_at s.windows.slices.entries i)))

-- and with them the answers of the last closed window, where they are kept
abbrev pub kept_in : SliceStore → Kept
kept_in s = record { parts = held_in s; lists = empty; answers = last_in s.output }

-- the store has taken in the pieces of this input, and no other
pub record TakenIn (q : Tree) (r : Input) (s : SliceStore) : Type 0 where
  pub holds : Holds q no_rows r.rows s.windows.next s.windows.slices.entries
  pub next_is : s.windows.next ≡ closed_count (frame q) (last_mark r)
  pub begun_is : s.begun ≡ begun_count (frame q) (last_mark r)
  pub way_is : way q ≡ way_by (change_in s.output)
  pub is_before : IsBefore s.output s.windows.next

-- ---- slices that come

-- the slices of rows from position x up to y, where these stand o rows further on in a longer list
abbrev pub SlicesAt : Tree → Mark → List Row → ℕ → ℕ → List Slice → ℕ → Type 0
SlicesAt q m all o x [] y = x ≡ y
SlicesAt q m all o x (r ∷ rs) y = IsSlice q m all (o + x) (o + r.end) r.first r.past r.part × ((x < r.end) × ((o + r.end ≤ length all) × SlicesAt q m all o r.end rs y))

-- Of some rows behind a mark those up to position o + x have been taken in, slice by slice, and the windows below `next` are done. These
-- are the slices up to position o + y, and how many windows are to be done: no later row lies in them.
pub record GoesOn (q : Tree) (m : Mark) (all : List Row) (o x y next : ℕ) (es : Entries) (slices : List Slice) (closed : ℕ) : Type 0 where
  pub holds : Holds q m (take (o + x) all) next es
  pub low : next ≤ closed
  pub slices_are : SlicesAt q m all o x slices y
  pub firsts : AllByRecursion (λ (r : Slice). r.first ≤ closed) slices
  pub settled : Settled q m (take (o + y) all) all closed
  pub fits : RowsFit q m all

-- All up to position z have been taken in: the windows below `closed` are done, and what they print is behind the text.
pub record WentOn (q : Tree) (m : Mark) (all : List Row) (z next : ℕ) (new : Entries) (closed done : ℕ) (old output : Output) (before after : List ℕ) : Type 0 where
  pub holds : Holds q m (take z all) closed new
  pub done_is : done ≡ closed
  pub is_before : IsBefore output closed
  pub passed : Passed (answers_over q m all) old output next closed before after

-- the store can take these slices in, as those of some rows
abbrev pub CanGoOn : Tree → Open → List Slice → ℕ → Type 0
CanGoOn q s slices closed = (m : Mark) × (all : List Row) × (o : ℕ) × (x : ℕ) × (y : ℕ) × GoesOn q m all o x y s.next s.slices.entries slices closed

-- it has taken them in, whatever rows they are of
abbrev pub HasGoneOn : Tree → Open → Output → List Slice → ℕ → Open → Output → List ℕ → List ℕ → Type 0
HasGoneOn q s old slices closed new output before after = (m : Mark) (all : List Row) (o x y : ℕ) → GoesOn q m all o x y s.next s.slices.entries slices closed
    → StandsIn (answers_over q m all) old → WentOn q m all (o + y) s.next new.slices.entries closed new.next old output before after

-- ---- pieces that come

-- A store has taken in some rows, and the windows below `next` are done. This is what the piece of the next rows has, and how many
-- windows are to be done: all that are closed behind these rows.
pub record Comes (q : Tree) (old rows : List Row) (ended : Bool) (next : ℕ) (es : Entries) (slices : List Slice) (complete : Option Complete) (closed : ℕ) : Type 0 where
  pub holds : Holds q no_rows old next es
  pub low : next ≤ closed
  pub passed : next ≤ closed_by q no_rows old
  pub given : Given q old rows ended slices complete
  pub closed_is : closed ≡ closed_count (frame q) (end_mark ended (mark_after (mark_of old) rows))
  pub reaches : closed_by q no_rows (old ++ rows) ≤ closed
  pub fits : RowsFit q no_rows (old ++ rows)

-- it has taken in these rows too
abbrev pub Came : Tree → List Row → List Row → ℕ → Entries → ℕ → ℕ → Output → Output → List ℕ → List ℕ → Type 0
Came q old rows next new closed done first output before after = WentOn q no_rows (old ++ rows) (length (old ++ rows)) next new closed done first output before after

-- only an output of lines goes with what a task answers itself
abbrev pub Answering : Output → Option Complete → Type 0
Answering output complete = (c : Complete) → complete ≡ Some c → change_in output ≡ None

-- the store can take this piece in, as that of some rows behind others
abbrev pub CanCome : Tree → Open → List Slice → Option Complete → ℕ → Type 0
CanCome q s slices complete closed = (old : List Row) × (rows : List Row) × (ended : Bool) × Comes q old rows ended s.next s.slices.entries slices complete closed

-- it has taken it in, whatever rows it is of
abbrev pub HasCome : Tree → Open → Output → List Slice → Option Complete → ℕ → Open → Output → List ℕ → List ℕ → Type 0
HasCome q s first slices complete closed new output before after = (old rows : List Row) (ended : Bool) → Comes q old rows ended s.next s.slices.entries slices complete closed
    → StandsIn (answers_over q no_rows (old ++ rows)) first → Came q old rows s.next new.slices.entries closed new.next first output before after

-- How many steps the store takes for a piece, beside those that it owed: two for each of its slices, and one for each window that it closes
-- and the task didn't answer. What it owes then is among them; the queue of a task that answers windows brings what that owes.
abbrev pub PieceSteps : Open → ℕ → Option Complete → Open → ℕ → ℕ → Type 0
PieceSteps old slices None new before after = after + new.slices.owed + old.next ≤ before + old.slices.owed + 2 * slices + new.next
PieceSteps old slices (Some c) new before after = after + new.slices.owed + old.next ≤ before + old.slices.owed + c.open.slices.owed + 2 * slices + c.low
