-- A reader of lines as contracts see it, and the rows that it has still to give.
use Rattle.std.specs.Prelude.{◌≡◌, ℕ, ◌-◌, length, List, [], ◌++◌, if◌then◌else◌, Bool, true, false, Option, Some, None, Result, Ok, Err, option_map}
use Rattle.saber_plan.specs.declared.rows.Row.{Row}
use Rattle.saber_plan.specs.declared.rows.Side.{Side}
use Rattle.saber_plan.specs.declared.rows.RowCause.{RowCause}
use Rattle.saber_plan.specs.Rows.{SideRules, most_held, Place, Read, End, all_read, cut, bad, start, lines_of, read_by}
use Rattle.saber_rows.specs.declared.ends.RowEnd.{RowEnd}
use Rattle.saber_rows.specs.declared.ends.Stop.{Stop}
use Rattle.saber_rows.specs.declared.ends.RowEnd.TheVariants.{Bad}
use Rattle.saber_rows.specs.declared.ends.Stop.TheVariants as stops
use Rattle.saber_rows.specs.declared.ends.Stop.TheVariants.{Failed}
use Rattle.saber_rows.specs.declared.ends.Behind.{Behind}
use Rattle.saber_rows.specs.declared.ends.Behind.TheVariants.{AllRead, Refused}
use Rattle.saber_rows.specs.Waiting.{rows_in}
use Rattle.saber_rows.specs.Buffer.{bytes_of}
use Rattle.saber_rows.specs.declared.lines.Lines.{Lines}

-- What is fixed of the reader's side; how many lines are behind it, the greatest timestamp, and the rows that it holds; the timestamp of
-- the last row that it gave; the bytes that it took from its source and has not used; whether it saw the end of its source; the end, once
-- it is known to stand behind the rows that are held; and, once an answer has ended it, that answer, which each later call gives again.
pub record Reader : Type 0 where
  pub rules : SideRules
  pub place : Place
  pub last : Option ℕ
  pub held : List ℕ
  pub ended : Bool
  pub over : Option End
  pub answer : Option (Result (Option Row) RowEnd)

-- what a reader that stopped so answers
abbrev pub answer_of : Stop → Result (Option Row) RowEnd
answer_of stops.AllRead = Ok None
answer_of (Failed e) = Err e

-- how a reader stops at an end
abbrev pub stop_behind : Behind → Stop
stop_behind AllRead = stops.AllRead
stop_behind (Refused n c) = Failed (Bad n c)

-- the end of a side's rows
abbrev pub end_behind : Side → Behind → End
end_behind side AllRead = all_read
end_behind side (Refused n c) = bad side n c

-- the reader that a value is
abbrev pub reader_of : Lines → Reader
reader_of l = record {
  rules = record { side = l.side; columns = l.columns; most = l.max_lines; slack = l.slack; room = most_held };
  place = record { lines = l.lines; high = l.high; accepted = rows_in l.waiting };
  last = l.last;
  held = bytes_of l.held;
  ended = l.ended;
  over = option_map (end_behind l.side) l.over;
  answer = option_map answer_of l.stop;
}

-- a reader before its first call
abbrev pub new_reader : SideRules → Reader
new_reader rules = record { rules = rules; place = start; last = None; held = []; ended = false; over = None; answer = None }

-- rows that are held and then this end, if it is known; else what the definition has
abbrev pub rest_by : Option End → List Row → Read → Read
rest_by None rows read = read
rest_by (Some end) rows read = record { rows = rows; end = end }

-- What a reader has still to give if these bytes follow those that it holds: by the definition of a file's rows, from its place on.
-- With `partial` more may follow them, and a last line without its line feed is not known yet.
abbrev pub rest_of : Bool → Reader → List ℕ → Read
rest_of partial r z = rest_by r.over r.place.accepted (read_by partial r.rules (lines_of (r.held ++ z)) r.place)

-- these bytes can follow those that are held: none do, once the reader saw the end
abbrev pub CanFollow : Bool → Reader → List ℕ → Type 0
CanFollow partial r z = r.ended ≡ true → (partial ≡ false) × (z ≡ [])

-- what a reader will still take of what its source has left: nothing, once it saw the end
abbrev pub to_come : Reader → List ℕ → List ℕ
to_come r left = if r.ended then [] else left

-- what a reader has still to give over a source that tells what it has left
abbrev pub rest_over : Reader → Option (List ℕ) → Option Read
rest_over r left = option_map (λ z. rest_of false r (to_come r z)) left

-- no rows, and this end
abbrev pub nothing : End → Read
nothing end = record { rows = []; end = end }

-- whatever follows, the reader has no row left, and this end is next
abbrev pub HasEnd : End → Reader → Type 0
HasEnd end r = (z : List ℕ) → CanFollow false r z → rest_of false r z ≡ nothing end

-- after an answer that refuses a line, that end is all that the reader has left
abbrev pub EndsRefused : {A : Type 0} → Result A RowEnd → Side → Reader → Type 0
EndsRefused result side r = (line : ℕ) (cause : RowCause) → result ≡ Err (Bad line cause) → HasEnd (bad side line cause) r

-- how many lines are behind that give no row any more
abbrev pub gone_count : Reader → ℕ
gone_count r = r.place.lines - length r.place.accepted

-- no row that the reader holds is due, it holds no line that makes one due or is refused, and it did not see the end
pub record NeedsMore (r : Reader) : Type 0 where
  pub unended : r.ended ≡ false
  pub none : rest_of true r [] ≡ nothing cut
