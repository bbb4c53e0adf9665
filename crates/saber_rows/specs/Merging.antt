-- Two readers whose rows are merged, as contracts see them.
use Rattle.std.specs.Prelude.{◌≡◌, ◌≢◌, ℕ, List, [], ◌++◌, Bool, true, false, Option, Some, None, option_map, option_and_then, Result, Ok, Err}
use Rattle.saber_plan.specs.declared.rows.Row.{Row}
use Rattle.saber_plan.specs.declared.rows.Side.{Side}
use Rattle.saber_plan.specs.declared.rows.Side.TheVariants.{Left, Right}
use Rattle.saber_plan.specs.declared.windows.Mark.{Mark}
use Rattle.saber_plan.specs.Rows.{Read, End, all_read, cut, bad, before, stamp, RowFits}
use Rattle.saber_plan.specs.Outputs.{Rose}
use Rattle.saber_plan.specs.Windows.{no_rows, by_side, in_order, step_mark}
use Rattle.saber_plan.specs.Inputs.{merged_read}
use Rattle.saber_rows.specs.declared.ends.RowEnd.{RowEnd}
use Rattle.saber_rows.specs.declared.ends.RowEnd.TheVariants.{ReadFault, NoMemory, Bad}
use Rattle.saber_rows.specs.declared.heads.Look.{Look}
use Rattle.saber_rows.specs.declared.heads.Look.TheVariants.{Found, Ended, Failed}
use Rattle.saber_rows.specs.declared.merges.Merge.{Merge}
use Rattle.saber_rows.specs.Reader.{Reader, CanFollow, to_come, nothing, NeedsMore}
use Rattle.saber_rows.specs.Calls.{WantsMemory}
use Rattle.saber_rows.specs.Heads.{Headed, head_view, bare, side_rest, front_of, Finds, Takes, SidePassed}

-- both sides, each with the row in front of it
pub record Merger : Type 0 where
  pub left : Headed
  pub right : Headed

abbrev pub merger_of : Merge → Merger
merger_of m = record { left = head_view m.left; right = head_view m.right }

-- before its first call
abbrev pub new_merger : Reader → Reader → Merger
new_merger l r = record { left = bare l; right = bare r }

-- What a merge has still to give if these bytes follow on its sides: by the definition of merged rows, of what each side has still to give.
abbrev pub merger_rest : Bool → Bool → Merger → List ℕ → List ℕ → Read
merger_rest p q m z w = merged_read (side_rest p m.left z) (side_rest q m.right w)

-- the same over sources that tell what they have left
abbrev pub merger_over : Merger → Option (List ℕ) → Option (List ℕ) → Option Read
merger_over m l r = option_and_then (λ z. option_map (λ w. merger_rest false false m (to_come m.left.reader z) (to_come m.right.reader w)) r) l

-- ---- answers

-- a row, the end, or the side that stops the merge and why
abbrev pub MergeAnswer : Type 0
MergeAnswer = Result (Option Row) (Side × RowEnd)

-- an answer's row and then these
abbrev pub merge_given : MergeAnswer → Read → Read
merge_given (Ok (Some row)) rest = before row rest
merge_given (Ok None) rest = rest
merge_given (Err e) rest = rest

-- what each call answers after this answer, if it is one that ends the merge
abbrev pub merge_kept : MergeAnswer → Option MergeAnswer
merge_kept (Ok (Some row)) = None
merge_kept (Ok None) = Some (Ok None)
merge_kept (Err e) = Some (Err e)

-- what stands in front of the sides decides the answer without the sources, and no row comes: the left side is asked first
abbrev pub settled_answer : Option Look → Option Look → Option MergeAnswer
settled_answer None r = None
settled_answer (Some (Failed e)) r = Some (Err (Left, e))
settled_answer (Some (Found n)) None = None
settled_answer (Some (Found n)) (Some (Found k)) = None
settled_answer (Some (Found n)) (Some Ended) = None
settled_answer (Some (Found n)) (Some (Failed e)) = Some (Err (Right, e))
settled_answer (Some Ended) None = None
settled_answer (Some Ended) (Some (Found k)) = None
settled_answer (Some Ended) (Some Ended) = Some (Ok None)
settled_answer (Some Ended) (Some (Failed e)) = Some (Err (Right, e))

-- the answer that ended the merge
abbrev pub merge_answer : Merger → Option MergeAnswer
merge_answer m = settled_answer (front_of m.left) (front_of m.right)

-- ---- what a call does

-- The call took bytes from both sources. Whatever follows, what the old merge has still to give is what `out` makes of what the new one has.
pub record MergeMoves (out : Read → Read) (old new : Merger) (had has had_right has_right : Option (List ℕ)) : Type 0 where
  pub left : Takes old.left.reader new.left.reader had has
  pub right : Takes old.right.reader new.right.reader had_right has_right
  pub rest : (p q : Bool) (z w : List ℕ) → CanFollow p new.left.reader z → CanFollow q new.right.reader w
      → merger_rest p q old (left.taken ++ z) (right.taken ++ w) ≡ out (merger_rest p q new z w)

-- whatever follows, no row is left, and this end is next
abbrev pub MergeHasEnd : End → Merger → Type 0
MergeHasEnd end m = (z w : List ℕ) → CanFollow false m.left.reader z → CanFollow false m.right.reader w → merger_rest false false m z w ≡ nothing end

-- a side needs more: whatever follows on the other one, no row is left of what this one took
abbrev pub MergeNeeds : Side → Merger → Type 0
MergeNeeds Left m = NeedsMore m.left.reader × ((w : List ℕ) → CanFollow false m.right.reader w → merger_rest true false m [] w ≡ nothing cut)
MergeNeeds Right m = NeedsMore m.right.reader × ((z : List ℕ) → CanFollow false m.left.reader z → merger_rest false true m z [] ≡ nothing cut)

-- Why a merge answers no row: both sides are at their end; a side's next line is refused, also where the other side has an earlier row;
-- a read of a side failed, where more was needed of it; or there was no memory, which up to eight columns without slack don't want.
abbrev pub StopsBy : Side → RowEnd → Merger → Type 0
StopsBy s (Bad n c) m = MergeHasEnd (bad s n c) m
StopsBy s ReadFault m = MergeNeeds s m
StopsBy s NoMemory m = WantsMemory (by_side s m.left m.right).reader.rules

abbrev pub MergeEndsBy : MergeAnswer → Merger → Type 0
MergeEndsBy (Ok (Some row)) m = Unit {0}
MergeEndsBy (Ok None) m = MergeHasEnd all_read m
MergeEndsBy (Err e) m = StopsBy e.0 e.1 m

-- ---- rows that were passed on

-- Rows with this mark were passed on: what comes from now on follows them. A right side that failed holds up a left one that has a row or is at its end.
pub record Passed (m : Mark) (r : Merger) : Type 0 where
  pub left : SidePassed Left m.last m.left r.left
  pub right : SidePassed Right m.last m.right r.right
  pub held : front_of r.left ≡ None → (e : RowEnd) → front_of r.right ≢ Some (Failed e)

-- one more row, which fits its side and is not before the last one
pub record PassedRow (m : Mark) (row : Row) (r : Merger) : Type 0 where
  pub fits : RowFits row.side (by_side row.side r.left.reader.rules.columns r.right.reader.rules.columns) row
  pub ordered : in_order m.last (stamp row.values) ≡ true
  pub passed : Passed (step_mark m row) r

abbrev pub PassedOn : Mark → MergeAnswer → Merger → Type 0
PassedOn m (Ok (Some row)) r = PassedRow m row r
PassedOn m (Ok None) r = Passed m r
PassedOn m (Err e) r = Passed m r

-- what a call does after rows with this mark, and why
pub record MergeTurn (m : Mark) (answer : MergeAnswer) (old new : Merger) (had has had_right has_right : Option (List ℕ)) : Type 0 where
  pub moves : MergeMoves (merge_given answer) old new had has had_right has_right
  pub ends : MergeEndsBy answer new
  pub passed : PassedOn m answer new
  pub kept : merge_answer new ≡ merge_kept answer

-- ---- clauses of calls

-- a merge of readers of the two sides that gave nothing yet
abbrev pub StartsPassed : Reader → Reader → Merger → Type 0
StartsPassed l r m = l.rules.side ≡ Left → r.rules.side ≡ Right → l.answer ≡ None → r.answer ≡ None → Passed no_rows m

-- a turn, after any rows that were passed on
abbrev pub MergeTurns : MergeAnswer → Merger → Merger → (had has had_right has_right : Option (List ℕ)) → Type 0
MergeTurns answer old new had has had_right has_right =
    (m : Mark) → Passed m old → MergeTurn m answer old new had has had_right has_right

-- the same once this stands in front of the left side, whose source isn't asked
abbrev pub RightTurns : Look → MergeAnswer → Merger → Merger → (had_right has_right : Option (List ℕ)) → Type 0
RightTurns look answer old new had_right has_right =
    (m : Mark) (had : Option (List ℕ)) → Passed m old → Finds look old.left → MergeTurn m answer old new had had had_right has_right

-- a fault of reading this side comes first only where its count rose
abbrev pub FaultRose : Side → Merger → MergeAnswer → ℕ → ℕ → Type 0
FaultRose side old answer faults faults' = merge_answer old ≡ None → answer ≡ Err (side, ReadFault) → Rose faults faults'

-- the same of the right side, once it is asked
abbrev pub RightFaultRose : Merger → MergeAnswer → ℕ → ℕ → Type 0
RightFaultRose old answer faults faults' =
    ((e : RowEnd) → front_of old.right ≢ Some (Failed e)) → answer ≡ Err (Right, ReadFault) → Rose faults faults'
