-- What a call of a reader does, by its answer.
use Rattle.std.specs.Prelude.{◌≡◌, ◌<◌, ◌≤◌, ◌⊎◌, ℕ, zero, suc, ◌+◌, length, List, [], ◌∷◌, ◌++◌, Bool, true, false, Option, Some, None, IfSome, Result, Ok, Err}
use Rattle.saber_plan.specs.declared.rows.Row.{Row}
use Rattle.saber_plan.specs.Rows.{SideRules, Line, Read, End, all_read, cut, bad, lines_of, before, stamp, falls, RowFits}
use Rattle.saber_io.specs.Outside.{left_before, EndsEmpty}
use Rattle.saber_rows.specs.declared.ends.RowEnd.{RowEnd}
use Rattle.saber_rows.specs.declared.ends.RowEnd.TheVariants.{ReadFault, NoMemory, Bad}
use Rattle.saber_plan.specs.Outputs.{Rose}
use Rattle.saber_rows.specs.Reader.{Reader, gone_count, rest_of, rest_over, nothing, CanFollow, HasEnd, NeedsMore}

-- an answer's row and then these
abbrev pub given_by : Result (Option Row) RowEnd → Read → Read
given_by (Ok (Some row)) rest = before row rest
given_by (Ok None) rest = rest
given_by (Err e) rest = rest

-- what each call answers after this answer, if it is one that ends the reader
abbrev pub kept_by : Result (Option Row) RowEnd → Option (Result (Option Row) RowEnd)
kept_by (Ok (Some row)) = None
kept_by (Ok None) = Some (Ok None)
kept_by (Err e) = Some (Err e)

-- the last timestamp after this answer
abbrev pub last_after : Option ℕ → Result (Option Row) RowEnd → Option ℕ
last_after last (Ok (Some row)) = Some (stamp row.values)
last_after last (Ok None) = last
last_after last (Err e) = last

-- The call took these bytes from its source, and is done with these lines. Whatever follows,
-- what the reader held and the source then had is the lines that are done and then what the reader holds and the source then has;
-- and what the old reader has still to give is what `out` makes of what the new one has.
-- A reader that saw the end takes nothing; one that sees it now has a source with nothing left.
pub record Moves (out : Read → Read) (old new : Reader) (had has : Option (List ℕ)) : Type 0 where
  pub taken : List ℕ
  pub left : had ≡ left_before taken has
  pub done : List Line
  pub count : new.place.lines ≡ old.place.lines + length done
  pub lines : (z : List ℕ) → CanFollow false new z → lines_of (old.held ++ (taken ++ z)) ≡ done ++ lines_of (new.held ++ z)
  pub rest : (partial : Bool) (z : List ℕ) → CanFollow partial new z → rest_of partial old (taken ++ z) ≡ out (rest_of partial new z)
  pub still : old.ended ≡ true → (taken ≡ []) × (new.ended ≡ true)
  pub seen : old.ended ≡ false → new.ended ≡ true → EndsEmpty has

-- The reader had to read: what it took before the last read made no row due and refused no line, with what it held, and it did not see the end.
-- The last read gave at most 4,096 bytes.
pub record LastRead (old : Reader) (had has : Option (List ℕ)) : Type 0 where
  pub before : List ℕ
  pub last : List ℕ
  pub left : had ≡ left_before (before ++ last) has
  pub few : length last ≤ 4096
  pub unended : old.ended ≡ false
  pub none : rest_of true old before ≡ nothing cut

-- no read came once the answer was decided: there was none at all, or nothing before the last one decided it
abbrev pub ReadsNoMore : {A : Type 0} → (A → Option (List ℕ)) → A → A → Reader → Type 0
ReadsNoMore left was is old = (is ≡ was) ⊎ LastRead old (left was) (left is)

-- a row of the reader's side, not before the last one; the reader then has its timestamp, and a line more that gives no row any more
pub record IsGiven (row : Row) (old new : Reader) : Type 0 where
  pub fits : RowFits old.rules.side old.rules.columns row
  pub ordered : falls old.last row.values ≡ false
  pub last : new.last ≡ Some (stamp row.values)
  pub rises : gone_count old < gone_count new

-- rows of more than eight columns, or rows that are held, take memory
abbrev pub WantsMemory : SideRules → Type 0
WantsMemory s = (8 < s.columns) ⊎ (0 < s.slack)

-- Why a reader answers no row: the rows are at their end, which it saw, or this line is refused, whatever follows; a read failed, where more was needed;
-- or there was no memory, which up to eight columns without slack don't want.
abbrev pub EndsBy : Result (Option Row) RowEnd → Reader → Type 0
EndsBy (Ok (Some row)) r = Unit {0}
EndsBy (Ok None) r = HasEnd all_read r × (r.ended ≡ true)
EndsBy (Err (Bad n c)) r = HasEnd (bad r.rules.side n c) r
EndsBy (Err ReadFault) r = NeedsMore r
EndsBy (Err NoMemory) r = WantsMemory r.rules

-- a read that failed shows in the count of faults; all else leaves it
abbrev pub AnswerFaults : Result (Option Row) RowEnd → ℕ → ℕ → Type 0
AnswerFaults (Ok o) was is = is ≡ was
AnswerFaults (Err ReadFault) was is = Rose was is × (was ≤ is)
AnswerFaults (Err NoMemory) was is = is ≡ was
AnswerFaults (Err (Bad n c)) was is = is ≡ was

-- where a reader is after an answer: it has the answer's timestamp, keeps an answer that ends it, and no line comes back
pub record Reached (result : Result (Option Row) RowEnd) (old new : Reader) : Type 0 where
  pub rules : new.rules ≡ old.rules
  pub last : new.last ≡ last_after old.last result
  pub answer : new.answer ≡ kept_by result
  pub stays : gone_count old ≤ gone_count new

-- what comes first of some rows and their end
abbrev pub first_of_rows : List Row → End → Result (Option Row) RowEnd
first_of_rows (row ∷ rows) end = Ok (Some row)
first_of_rows [] all_read = Ok None
first_of_rows [] (bad side n c) = Err (Bad n c)
first_of_rows [] cut = Err ReadFault

-- the answer is what the definition has next, unless a read failed or there was no memory
abbrev pub IsNext : Result (Option Row) RowEnd → Read → Type 0
IsNext (Ok o) rest = first_of_rows rest.rows rest.end ≡ Ok o
IsNext (Err (Bad n c)) rest = first_of_rows rest.rows rest.end ≡ Err (Bad n c)
IsNext (Err ReadFault) rest = Unit {0}
IsNext (Err NoMemory) rest = Unit {0}

-- One row more of what the reader held: the next one, whatever the source has.
pub record HoldsNext (row : Row) (old new : Reader) : Type 0 where
  pub goes : old.answer ≡ None
  pub moves : (left : Option (List ℕ)) → Moves (before row) old new left left
  pub next : (left : Option (List ℕ)) → IfSome (rest_over old left) (IsNext (Ok (Some row)))
  pub given : IsGiven row old new
  pub counted : gone_count new ≤ new.rules.most
  pub rules : new.rules ≡ old.rules
  pub answer : new.answer ≡ None

-- and it stands behind the rows that were there
pub record TakesOne (old new : Reader) (had has : List Row) : Type 0 where
  pub row : Row
  pub put : has ≡ had ++ row ∷ []
  pub holds : HoldsNext row old new

-- so many rows more, one after another
abbrev pub TakesRows : ℕ → Reader → Reader → List Row → List Row → Type 0
TakesRows zero old new had has = (new ≡ old) × (has ≡ had)
TakesRows (suc n) old new had has = (mid : Reader) × (there : List Row) × TakesRows n old mid had there × TakesOne mid new there has
