-- What one turn of a reader does: a line, or a read.
use Rattle.std.specs.Prelude.{◌≡◌, ◌≤◌, ◌<◌, ℕ, ◌+◌, ◌-◌, ◌*◌, length, if◌then◌else◌, List, [], ◌∷◌, ◌++◌, take, drop, Bool, true, false, Option, Some, None, MatchOption, is_some, Ok, Err}
use Rattle.saber_plan.specs.declared.rows.Row.{Row}
use Rattle.saber_plan.specs.Rows.{Line, Read, lines_of, before, SideRules, Place, End, Judged, judge_at, is_due, due, without_cr}
use Rattle.saber_rows.specs.declared.ends.RowEnd.TheVariants.{ReadFault, NoMemory, Bad}
use Rattle.saber_rows.specs.declared.ends.Stop.{Stop}
use Rattle.saber_rows.specs.declared.ends.Stop.TheVariants.{AllRead, Failed}
use Rattle.saber_rows.specs.declared.ends.Behind.{Behind}
use Rattle.saber_rows.specs.declared.lines.Run.{Run}
use Rattle.saber_rows.specs.declared.lines.Turn.{Turn}
use Rattle.saber_rows.specs.declared.lines.Turn.TheVariants as turns
use Rattle.saber_rows.specs.Reader.{Reader, gone_count, rest_of, CanFollow, NeedsMore, answer_of}
use Rattle.saber_rows.specs.Calls.{Moves, IsGiven, EndsBy, TakesRows, AnswerFaults, ReadsNoMore}
use Rattle.saber_rows.specs.LineFeeds.{HasNoFeed}
use Rattle.saber_rows.specs.FedSteps.{StopsKnown}
use Rattle.saber_rows.specs.Sound.{Sound}

-- the rows as they are
abbrev pub same : Read → Read
same read = read

-- what the first line of a reader is, where it has n bytes
abbrev pub first_judged : Reader → ℕ → Judged
first_judged r n = judge_at r.rules r.place (without_cr (take n r.held))

-- whatever follows (nothing does, where the line is not whole), the first n bytes are a line, and the rest begins at with_end
abbrev pub Fronts : Bool → List ℕ → ℕ → ℕ → Type 0
Fronts whole held n with_end =
    (z : List ℕ) → (whole ≡ false → z ≡ [])
    → lines_of (held ++ z) ≡ record { content = take n held; whole = whole } ∷ lines_of (drop with_end held ++ z)

-- a line that is not whole is the last
abbrev pub IsLastIf : Bool → Reader → Type 0
IsLastIf whole r = whole ≡ false → r.ended ≡ true

-- a step without the source, that is done with these lines
pub record Steps (out : Read → Read) (old new : Reader) : Type 0 where
  pub ended : new.ended ≡ old.ended
  pub done : List Line
  pub count : new.place.lines ≡ old.place.lines + length done
  pub lines : (z : List ℕ) → CanFollow false new z → lines_of (old.held ++ z) ≡ done ++ lines_of (new.held ++ z)
  pub rest : (partial : Bool) (z : List ℕ) → CanFollow partial new z → rest_of partial old z ≡ out (rest_of partial new z)

-- there is a first row, and it is due, or it is known which end stands behind all
abbrev pub IsFirstReady : Option End → SideRules → Place → List Row → Type 0
IsFirstReady over s p [] = ⊥
IsFirstReady None s p (x ∷ xs) = is_due s.slack p.high x ≡ true
IsFirstReady (Some end) s p (x ∷ xs) = Unit {0}

-- no row that the reader holds can be given
abbrev pub NoneReady : Reader → Type 0
NoneReady r = MatchOption r.over (due r.rules r.place ≡ []) (λ end. r.place.accepted ≡ [])

-- the first row that it holds can
abbrev pub IsReady : Reader → Type 0
IsReady r = IsFirstReady r.over r.rules r.place r.place.accepted

-- the reader has nothing but this end left; no read failed, and a line that is refused stops it only once that is known
abbrev pub Stops : Stop → Reader → Type 0
Stops (Failed ReadFault) r = ⊥
Stops (Failed NoMemory) r = EndsBy (Err NoMemory) r
Stops (Failed (Bad n c)) r = ⊥
Stops AllRead r = EndsBy (Ok None) r

-- what a turn without the source comes to
abbrev pub LineGives : Turn → Reader → Reader → Type 0
LineGives (turns.Row row) old new = Steps (before row) old new
LineGives turns.Again old new = Steps same old new
LineGives (turns.Stop s) old new = (new ≡ old) × Stops s old

-- what any turn comes to
abbrev pub TurnGives : Turn → Reader → Reader → Option (List ℕ) → Option (List ℕ) → Type 0
TurnGives (turns.Row row) old new had has = Moves (before row) old new had has
TurnGives turns.Again old new had has = Moves same old new had has
TurnGives (turns.Stop s) old new had has = (new ≡ old) × (has ≡ had) × EndsBy (answer_of s) old

-- what a turn does to the place of a reader
abbrev pub PlaceMoves : Turn → Reader → Reader → Type 0
PlaceMoves (turns.Row row) old new = IsGiven row old new
PlaceMoves turns.Again old new = (new.last ≡ old.last) × (gone_count old ≤ gone_count new)
PlaceMoves (turns.Stop s) old new = Unit {0}

-- what is left to do: lines, room for bytes, the end of the source, and the end of its rows
abbrev pub work_left : Reader → ℕ
work_left r = (r.rules.most - r.place.lines) * 16384 + (8193 - length r.held) + (if r.ended then 0 else 1) + (if is_some r.over then 0 else 1)

-- a fact of a turn that takes a line or reads, and gives no row
abbrev pub IfAgain : Turn → Type 0 → Type 0
IfAgain turns.Again P = P
IfAgain (turns.Row row) P = Unit {0}
IfAgain (turns.Stop s) P = Unit {0}

-- a fact of a turn in which a read failed
abbrev pub IfFault : Turn → Type 0 → Type 0
IfFault (turns.Stop (Failed ReadFault)) P = P
IfFault (turns.Stop (Failed NoMemory)) P = Unit {0}
IfFault (turns.Stop (Failed (Bad n c))) P = Unit {0}
IfFault (turns.Stop AllRead) P = Unit {0}
IfFault turns.Again P = Unit {0}
IfFault (turns.Row row) P = Unit {0}

-- what is held decides the next answer with no read
abbrev pub HasEnough : Reader → Type 0
HasEnough r = ¬ NeedsMore r

-- no row can be given, no line feed is held, and more may come
pub record IsDrained (r : Reader) : Type 0 where
  pub over : r.over ≡ None
  pub none : due r.rules r.place ≡ []
  pub unended : r.ended ≡ false
  pub few : length r.held ≤ 4097
  pub feed : HasNoFeed r.held

-- what a turn does by what is held, whatever the source has: no read fails, and a refusal that stops the reader is known
pub record HeldTurn (turn : Turn) (old new : Reader) : Type 0 where
  pub gives : (had : Option (List ℕ)) → TurnGives turn old new had had
  pub falls : IfAgain turn (work_left new < work_left old)
  pub place : PlaceMoves turn old new
  pub rules : new.rules ≡ old.rules
  pub ended : new.ended ≡ old.ended
  pub known : StopsKnown turn new
  pub calm : IfFault turn ⊥
  pub enough : HasEnough old → IfAgain turn (HasEnough new)

-- what any turn does to the reader
pub record Turned (turn : Turn) (old new : Reader) (had has : Option (List ℕ)) : Type 0 where
  pub gives : TurnGives turn old new had has
  pub falls : IfAgain turn (work_left new < work_left old)
  pub place : PlaceMoves turn old new
  pub rules : new.rules ≡ old.rules

-- what any turn asks of the source: one read at most, and that only where what is held decides no answer
pub record Asked {A : Type 0} (left : A → Option (List ℕ)) (turn : Turn) (was is : A) (old new : Reader) : Type 0 where
  pub once : ReadsNoMore left was is old
  pub enough : HasEnough old → (is ≡ was) × IfAgain turn (HasEnough new)

-- a read that failed shows in the count of faults; all else leaves it
abbrev pub TurnFaults : Turn → ℕ → ℕ → Type 0
TurnFaults (turns.Row row) was is = is ≡ was
TurnFaults turns.Again was is = is ≡ was
TurnFaults (turns.Stop s) was is = AnswerFaults (answer_of s) was is

-- the reader behind rows that were taken at the first look
abbrev pub behind_run : Reader → Run → Reader
behind_run r run = record {
  rules = r.rules;
  place = record { lines = r.place.lines + run.taken; high = run.high; accepted = r.place.accepted };
  last = run.last;
  held = drop run.at r.held;
  ended = r.ended;
  over = r.over;
  answer = r.answer;
}

-- they are the next ones, and what is true of the rows that are held stays so
pub record Runs (r : Reader) (over : Option Behind) (run : Run) (had has : List Row) : Type 0 where
  pub within : run.at ≤ length r.held
  pub counted : r.place.lines + run.taken ≤ r.rules.most
  pub rows : TakesRows run.taken r (behind_run r run) had has
  pub sound : Sound r.rules (behind_run r run).place run.last over
