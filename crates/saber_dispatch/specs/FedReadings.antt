-- The reader of one feed, as contracts see it (this project's rule).
use Rattle.std.specs.Prelude.{◌≡◌, ◌<◌, ◌+◌, ℕ, length, List, [], ◌∷◌, Option, Some, None, Result, Ok, Err, true}
use Rattle.saber_io.specs.declared.feeds.EndMark.{EndMark}
use Rattle.saber_io.specs.declared.feeds.EndMark.TheVariants as marks
use Rattle.saber_plan.specs.declared.rows.Side.TheVariants.{Left}
use Rattle.saber_plan.specs.declared.windows.Mark.{Mark}
use Rattle.saber_plan.specs.Rows.{Read, before, cut}
use Rattle.saber_plan.specs.Trees.{Tree}
use Rattle.saber_rows.specs.Reader.{rest_of, nothing}
use Rattle.saber_rows.specs.declared.ends.RowEnd.{RowEnd}
use Rattle.saber_rows.specs.declared.ends.FedRow.{FedRow}
use Rattle.saber_dispatch.specs.Sources.{Lefts}
use Rattle.saber_dispatch.specs.declared.ends.End.{End}
use Rattle.saber_dispatch.specs.declared.ends.End.TheVariants.{AllRead, Bad, ReadFault, TooWide, NoMemory}
use Rattle.saber_dispatch.specs.declared.fed_reader.Got.{Got}
use Rattle.saber_dispatch.specs.declared.fed_reader.Got.TheVariants as gots
use Rattle.saber_dispatch.specs.Readings.{Reading, one, two, end_at, ReadMoves, ReadNeeds, Reads, IsOpen, NextRow, NextNone}

-- these bytes, as what the only input of a query has left
abbrev pub only : List ℕ → Lefts
only bytes = Some bytes ∷ []

-- ---- the mark of a feed

-- the reader saw the end of its feed
abbrev pub SawEnd : Reading → Type 0
SawEnd (one r) = r.ended ≡ true
SawEnd (two m) = ⊥

-- what it saw is the feed's mark
abbrev pub IsSeen : Reading → Option EndMark → Type 0
IsSeen r mark = SawEnd r → mark ≡ Some marks.End

-- nothing waits, and no mark was taken
abbrev pub NothingWaits : List ℕ → Option EndMark → Type 0
NothingWaits waiting mark = (waiting ≡ []) × (mark ≡ None)

-- the feed was cut off, and nothing waits
abbrev pub IsCutOff : List ℕ → Option EndMark → Type 0
IsCutOff waiting mark = (waiting ≡ []) × (mark ≡ Some marks.Cut)

-- all is read only where the feed has ended, and it can't be read only where it was cut off
abbrev pub EndTold : End → List ℕ → Option EndMark → Type 0
EndTold AllRead waiting mark = mark ≡ Some marks.End
EndTold (ReadFault side) waiting mark = IsCutOff waiting mark
EndTold (Bad side line cause) waiting mark = Unit {0}
EndTold (TooWide task need) waiting mark = Unit {0}
EndTold NoMemory waiting mark = Unit {0}

-- ---- what a reader gives

abbrev pub got_of : Result FedRow RowEnd → Got
got_of (Ok (FedRow.Row row)) = gots.Row row
got_of (Ok FedRow.End) = gots.Ended AllRead
got_of (Ok FedRow.NotYet) = gots.Dry
got_of (Err e) = gots.Ended (end_at Left e)

-- nothing is there as yet
pub record NextDry (q : Tree) (m : Mark) (old new : Reading) (had has : Lefts) : Type 0 where
  pub moves : ReadMoves (λ rest. rest) old new had has
  pub reads : Reads q m new
  pub needs : ReadNeeds Left new
  pub open_still : IsOpen new

abbrev pub GotNext : Tree → Mark → Got → Reading → Reading → Lefts → Lefts → Type 0
GotNext q m (gots.Row row) old new had has = NextRow q m row old new had has
GotNext q m gots.Dry old new had has = NextDry q m old new had has
GotNext q m (gots.Ended end) old new had has = NextNone q m end old new had has

-- whatever rows it gave before, the answer is a step
abbrev pub FedSteps : Got → Reading → Reading → Lefts → Lefts → Type 0
FedSteps got old new had has = (q : Tree) (m : Mark) → Reads q m old → GotNext q m got old new had has

-- what the whole lines of these bytes still give
abbrev pub known_of : Reading → List ℕ → Read
known_of (one r) bytes = rest_of true r bytes
known_of (two m) bytes = nothing cut

-- what an answer leaves of that: a row is its first, and as long as no line of them is refused only want of memory ends it
abbrev pub KnownStep : Got → Read → Read → Type 0
KnownStep (gots.Row row) had has = had ≡ before row has
KnownStep gots.Dry had has = had ≡ has
KnownStep (gots.Ended end) had has = had.end ≡ cut → end ≡ NoMemory

-- where no mark was taken
abbrev pub LeavesKnown : Got → Reading → Reading → List ℕ → List ℕ → Option EndMark → Type 0
LeavesKnown got old new had has mark = IsOpen old → IsSeen old mark → mark ≡ None → KnownStep got (known_of old had) (known_of new has)

-- With the rows of the whole lines that wait, of which none is refused, these are fewer than a block has, and no mark was taken.
pub record AreFew (size count : ℕ) (r : Reading) (waiting : List ℕ) (mark : Option EndMark) : Type 0 where
  pub few : count + length (known_of r waiting).rows < size
  pub goes : (known_of r waiting).end ≡ cut
  pub unmarked : mark ≡ None

-- what an answer tells of what waits and of the mark
abbrev pub GotTold : Got → List ℕ → Option EndMark → Type 0
GotTold (gots.Row row) waiting mark = Unit {0}
GotTold gots.Dry waiting mark = NothingWaits waiting mark
GotTold (gots.Ended end) waiting mark = EndTold end waiting mark

-- of a reader that no answer has ended, and that saw no other end than the feed's
abbrev pub TellsOf : Got → Reading → List ℕ → Option EndMark → Type 0
TellsOf got old waiting mark = IsOpen old → IsSeen old mark → GotTold got waiting mark
