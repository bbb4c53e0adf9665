-- What a turn and a call of a reader over a feed do, each as one fact.
use Rattle.std.specs.Prelude.{◌≡◌, ◌≤◌, ℕ, List, [], Option, Some, None, IfOk, IfSome, Result, Err, true, false}
use Rattle.saber_io.specs.declared.feeds.EndMark.{EndMark}
use Rattle.saber_io.specs.Feeds.{IsCut}
use Rattle.saber_plan.specs.declared.rows.Row.{Row}
use Rattle.saber_rows.specs.declared.ends.RowEnd.{RowEnd}
use Rattle.saber_rows.specs.declared.ends.RowEnd.TheVariants.{ReadFault}
use Rattle.saber_rows.specs.declared.lines.Turn.{Turn}
use Rattle.saber_rows.specs.Reader.{Reader, gone_count}
use Rattle.saber_rows.specs.Calls.{Moves, IsGiven, EndsBy, AnswerFaults}
use Rattle.saber_rows.specs.Turns.{same, Turned, IfFault}
use Rattle.saber_rows.specs.FedSteps.{StopsKnown}
use Rattle.saber_rows.specs.FedTurns.{given_in, kept_in, last_in, IsDry, IsKnown}

-- a reader that sees the end now has a feed that is marked with it
abbrev pub SeesMark : Reader → Reader → Option EndMark → Type 0
SeesMark old new mark = old.ended ≡ false → new.ended ≡ true → mark ≡ Some EndMark.End

-- what any turn does to the reader; a refusal that stops it is known, and a read that failed met a cut
pub record FedTurned (turn : Turn) (old new : Reader) (had has : List ℕ) (mark : Option EndMark) : Type 0 where
  pub turned : Turned turn old new (Some had) (Some has)
  pub known : StopsKnown turn new
  pub marked : SeesMark old new mark
  pub cut : IfFault turn (IsCut had has mark)

-- turns that gave no row, one after another
pub record FedRan (old new : Reader) (had has : List ℕ) (mark : Option EndMark) : Type 0 where
  pub moves : Moves same old new (Some had) (Some has)
  pub rules : new.rules ≡ old.rules
  pub last : new.last ≡ old.last
  pub stays : gone_count old ≤ gone_count new
  pub marked : SeesMark old new mark

-- what a call does to the reader, by its answer; that nothing is there as yet is none
pub record FedAnswered (answer : Option (Result (Option Row) RowEnd)) (old new : Reader) (had has : List ℕ) (mark : Option EndMark) : Type 0 where
  pub moves : Moves (given_in answer) old new (Some had) (Some has)
  pub given : IfSome answer (λ a. IfOk a (λ o. IfSome o (λ row. IsGiven row old new)))
  pub rules : new.rules ≡ old.rules
  pub last : new.last ≡ last_in old.last answer
  pub stays : gone_count old ≤ gone_count new
  pub marked : SeesMark old new mark
  pub dry : answer ≡ None → IsDry new has mark

-- why the answer of a reader that had not stopped came: one that ends it is kept, a refusal is known, and a read that failed met a cut
pub record FedEnds (answer : Option (Result (Option Row) RowEnd)) (new : Reader) (has : List ℕ) (mark : Option EndMark) : Type 0 where
  pub kept : new.answer ≡ kept_in answer
  pub ends : IfSome answer (λ a. EndsBy a new)
  pub known : IfSome answer (λ a. IsKnown a new)
  pub cut : answer ≡ Some (Err ReadFault) → (has ≡ []) × (mark ≡ Some EndMark.Cut)

-- a read that failed shows in the count of faults; all else leaves it
abbrev pub FedFaults : Option (Result (Option Row) RowEnd) → ℕ → ℕ → Type 0
FedFaults None was is = is ≡ was
FedFaults (Some answer) was is = AnswerFaults answer was is
