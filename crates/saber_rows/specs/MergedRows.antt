-- Rows of a merge that are taken as its sides hold them.
use Rattle.std.specs.Prelude.{◌≡◌, ℕ, zero, suc, List, [], ◌∷◌, ◌++◌, Bool, true, false, Option, Some, None, Ok}
use Rattle.saber_plan.specs.declared.rows.Row.{Row}
use Rattle.saber_plan.specs.declared.windows.Mark.{Mark}
use Rattle.saber_rows.specs.Heads.{Headed, bare}
use Rattle.saber_rows.specs.Merging.{Merger, MergeMoves, MergeTurns, Passed, merge_answer}

-- the row in front of a side goes behind the rows that were there
pub record PutsFront (old new : Headed) (had has : List Row) : Type 0 where
  pub row : Row
  pub front : old.ahead ≡ Some row
  pub rest : new ≡ bare old.reader
  pub put : has ≡ had ++ row ∷ []

-- the row in front of a side is taken: of the left one where that is true, else of the right one
abbrev pub TakesFront : Bool → Option Row → Merger → Merger → Type 0
TakesFront true row old new = (row ≡ old.left.ahead) × (new ≡ record { left = bare old.left.reader; right = old.right })
TakesFront false row old new = (row ≡ old.right.ahead) × (new ≡ record { left = old.left; right = bare old.right.reader })

-- After rows with this mark: no row is given and no source is asked, and what is still to come is as before.
pub record StillGives (m : Mark) (old new : Merger) : Type 0 where
  pub moves : (left right : Option (List ℕ)) → MergeMoves (λ rest. rest) old new left left right right
  pub passed : Passed m new
  pub goes : merge_answer old ≡ None → merge_answer new ≡ None

-- The sides have perhaps more in front of them than before.
pub record MergeStands (old new : Merger) : Type 0 where
  pub still : (m : Mark) → Passed m old → StillGives m old new
  pub left_rules : new.left.reader.rules ≡ old.left.reader.rules
  pub right_rules : new.right.reader.rules ≡ old.right.reader.rules

-- One row more of what both sides held, the next one of the merge; it stands behind the rows that were there.
pub record MergesOne (old new : Merger) (had has : List Row) : Type 0 where
  pub row : Row
  pub put : has ≡ had ++ row ∷ []
  pub turn : (left right : Option (List ℕ)) → MergeTurns (Ok (Some row)) old new left left right right
  pub left_rules : new.left.reader.rules ≡ old.left.reader.rules
  pub right_rules : new.right.reader.rules ≡ old.right.reader.rules

-- so many rows more, one after another
abbrev pub MergesRows : ℕ → Merger → Merger → List Row → List Row → Type 0
MergesRows zero old new had has = (new ≡ old) × (has ≡ had)
MergesRows (suc n) old new had has = (mid : Merger) × (there : List Row) × MergesRows n old mid had there × MergesOne mid new there has

-- and then a look at what the sides hold, which may find no further row
abbrev pub TakesMerged : ℕ → Merger → Merger → List Row → List Row → Type 0
TakesMerged n old new had has = (mid : Merger) × MergesRows n old mid had has × MergeStands mid new
