-- What turns and calls of a reader over a feed do (this project's rule).
use Rattle.std.specs.Prelude.{◌≡◌, ◌⊎◌, ℕ, List, [], Option, Some, None, Result, Ok, Err, true, false}
use Rattle.saber_io.specs.declared.feeds.EndMark.{EndMark}
use Rattle.saber_plan.specs.declared.rows.Row.{Row}
use Rattle.saber_plan.specs.Rows.{Read, cut, bad}
use Rattle.saber_rows.specs.declared.ends.RowEnd.{RowEnd}
use Rattle.saber_rows.specs.declared.ends.RowEnd.TheVariants.{ReadFault, NoMemory, Bad}
use Rattle.saber_rows.specs.declared.ends.FedRow.{FedRow}
use Rattle.saber_rows.specs.Reader.{Reader, rest_of, nothing, NeedsMore}
use Rattle.saber_rows.specs.Calls.{given_by, kept_by, last_after}

-- the answer of a reader over a source that a reader over a feed gives; that nothing is there as yet is none
abbrev pub answer_in : Result FedRow RowEnd → Option (Result (Option Row) RowEnd)
answer_in (Ok (FedRow.Row row)) = Some (Ok (Some row))
answer_in (Ok FedRow.End) = Some (Ok None)
answer_in (Ok FedRow.NotYet) = None
answer_in (Err e) = Some (Err e)

-- an answer's row, if there is one, and then these
abbrev pub given_in : Option (Result (Option Row) RowEnd) → Read → Read
given_in None rest = rest
given_in (Some answer) rest = given_by answer rest

-- what each call answers after this answer, if it is one that ends the reader
abbrev pub kept_in : Option (Result (Option Row) RowEnd) → Option (Result (Option Row) RowEnd)
kept_in None = None
kept_in (Some answer) = kept_by answer

-- the last timestamp after this answer
abbrev pub last_in : Option ℕ → Option (Result (Option Row) RowEnd) → Option ℕ
last_in last None = last
last_in last (Some answer) = last_after last answer

-- no row that is held can be given, no line that is held decides the answer, nothing waits, and no mark was taken
abbrev pub IsDry : Reader → List ℕ → Option EndMark → Type 0
IsDry r waiting mark = NeedsMore r × (waiting ≡ []) × (mark ≡ None)

-- nothing waits, the mark says that the feed was cut, and the reader needs more
abbrev pub IsCutOff : Reader → List ℕ → Option EndMark → Type 0
IsCutOff r waiting mark = (waiting ≡ []) × (mark ≡ Some EndMark.Cut) × NeedsMore r

-- with all that waits no row can be given and no line is refused, the reader did not see the end, and no mark was taken
pub record HasNothing (r : Reader) (waiting : List ℕ) (mark : Option EndMark) : Type 0 where
  pub unended : r.ended ≡ false
  pub none : rest_of true r waiting ≡ nothing cut
  pub unmarked : mark ≡ None

-- nothing is there as yet, or there was no memory
abbrev pub Waits : Option (Result (Option Row) RowEnd) → Type 0
Waits answer = (answer ≡ None) ⊎ (answer ≡ Some (Err NoMemory))

-- a line that is refused is known to stand behind all that the reader has
abbrev pub IsKnown : Result (Option Row) RowEnd → Reader → Type 0
IsKnown (Err (Bad n c)) r = r.over ≡ Some (bad r.rules.side n c)
IsKnown (Err ReadFault) r = Unit {0}
IsKnown (Err NoMemory) r = Unit {0}
IsKnown (Ok o) r = Unit {0}
