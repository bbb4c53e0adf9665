-- A reader with the row that is held in front of it, as contracts see them.
use Rattle.std.specs.Prelude.{◌≡◌, ◌≤◌, ◌<◌, ℕ, ◌+◌, length, List, ◌++◌, [], Bool, true, false, if◌then◌else◌, is_some, IfSome, IfOk, Option, Some, None, option_map, Result, Ok, Err, ℤ, pos}
use Rattle.saber_io.specs.Outside.{left_before, EndsEmpty}
use Rattle.saber_plan.specs.declared.rows.Row.{Row}
use Rattle.saber_plan.specs.declared.rows.Side.{Side}
use Rattle.saber_plan.specs.Rows.{Line, Read, lines_of, before, stamp, falls, RowFits, all_read}
use Rattle.saber_plan.specs.Windows.{in_order}
use Rattle.saber_rows.specs.declared.ends.RowEnd.{RowEnd}
use Rattle.saber_rows.specs.declared.heads.Head.{Head}
use Rattle.saber_rows.specs.declared.heads.Look.{Look}
use Rattle.saber_rows.specs.declared.heads.Look.TheVariants.{Found, Ended, Failed}
use Rattle.saber_rows.specs.Reader.{Reader, reader_of, rest_of, gone_count, CanFollow, HasEnd, EndsRefused, NeedsMore}
use Rattle.saber_rows.specs.Calls.{Moves, EndsBy, WantsMemory, given_by, kept_by, last_after}
use Rattle.saber_rows.specs.declared.ends.RowEnd.TheVariants.{ReadFault, NoMemory}

-- a reader, and the row that it gave last, where that isn't passed on yet
pub record Headed : Type 0 where
  pub reader : Reader
  pub ahead : Option Row

abbrev pub head_view : Head → Headed
head_view h = record { reader = reader_of h.lines; ahead = if h.full then Some h.row else None }

-- with no row in front
abbrev pub bare : Reader → Headed
bare r = record { reader = r; ahead = None }

-- the row in front, and then these
abbrev pub led_by : Option Row → Read → Read
led_by None rest = rest
led_by (Some row) rest = before row rest

-- what a side has still to give if these bytes follow
abbrev pub side_rest : Bool → Headed → List ℕ → Read
side_rest partial h z = led_by h.ahead (rest_of partial h.reader z)

-- ---- a look at a side

-- what an answer of a reader is to a look
abbrev pub look_of : Result (Option Row) RowEnd → Look
look_of (Ok (Some row)) = Found (stamp row.values)
look_of (Ok None) = Ended
look_of (Err e) = Failed e

-- what a look finds without the source: the row in front, else the answer that ended the reader
abbrev pub front_of : Headed → Option Look
front_of h = by_ahead h.ahead h.reader.answer where
  by_ahead : Option Row → Option (Result (Option Row) RowEnd) → Option Look
  by_ahead (Some row) answer = Some (Found (stamp row.values))
  by_ahead None answer = option_map look_of answer

-- what a look finds: the timestamp of the row that is now in front, or why there is none
abbrev pub Finds : Look → Headed → Type 0
Finds (Found n) h = (row : Row) × (h.ahead ≡ Some row) × (n ≡ stamp row.values)
Finds Ended h = (h.ahead ≡ None) × (h.reader.answer ≡ Some (Ok None)) × EndsBy (Ok None) h.reader
Finds (Failed e) h = (h.ahead ≡ None) × (h.reader.answer ≡ Some (Err e)) × EndsBy (Err e) h.reader

-- The reader took these bytes from its source, and is done with these lines: as `Moves` of a reader, without the rows.
pub record Takes (old new : Reader) (had has : Option (List ℕ)) : Type 0 where
  pub taken : List ℕ
  pub left : had ≡ left_before taken has
  pub done : List Line
  pub count : new.place.lines ≡ old.place.lines + length done
  pub lines : (z : List ℕ) → CanFollow false new z → lines_of (old.held ++ (taken ++ z)) ≡ done ++ lines_of (new.held ++ z)
  pub still : old.ended ≡ true → (taken ≡ []) × (new.ended ≡ true)
  pub seen : old.ended ≡ false → new.ended ≡ true → EndsEmpty has

-- ---- what was passed on

-- a row that a reader gave last, and that did not end it
pub record IsAhead (row : Row) (r : Reader) : Type 0 where
  pub fits : RowFits r.rules.side r.rules.columns row
  pub last : r.last ≡ Some (stamp row.values)
  pub fresh : r.answer ≡ None

-- an answer that ended the reader, with its cause
abbrev pub EndedBy : Result (Option Row) RowEnd → Reader → Type 0
EndedBy (Ok (Some row)) r = ⊥
EndedBy (Ok None) r = EndsBy (Ok None) r
EndedBy (Err e) r = EndsBy (Err e) r

-- the rows that a side gives from now on are not before this timestamp
abbrev pub ComesAfter : Option ℤ → Option Row → Reader → Type 0
ComesAfter last (Some row) r = in_order last (stamp row.values) ≡ true
ComesAfter last None r = r.answer ≡ None → (zs : List ℤ) → falls r.last zs ≡ false → in_order last (stamp zs) ≡ true

-- So many rows of a side were passed on, and this was the last timestamp of both sides. What the side gives from now on follows them, and
-- an answer that ended its reader has its cause.
pub record SidePassed (side : Side) (last : Option ℤ) (count : ℕ) (h : Headed) : Type 0 where
  pub is_side : h.reader.rules.side ≡ side
  pub front : IfSome h.ahead (λ row. IsAhead row h.reader)
  pub sure : IfSome h.reader.answer (λ answer. EndedBy answer h.reader)
  pub order : ComesAfter last h.ahead h.reader
  pub counted : count + (if is_some h.ahead then 1 else 0) ≤ gone_count h.reader
  pub few : gone_count h.reader ≤ h.reader.rules.most

-- what a look does: the side has still to give what it had
pub record Looks (look : Look) (side : Side) (last : Option ℤ) (count : ℕ) (old new : Headed) (had has : Option (List ℕ)) : Type 0 where
  pub takes : Takes old.reader new.reader had has
  pub rest : (partial : Bool) (z : List ℕ) → CanFollow partial new.reader z → side_rest partial old (takes.taken ++ z) ≡ side_rest partial new z
  pub finds : Finds look new
  pub passed : SidePassed side last count new

-- a look does so whatever was passed on before it
abbrev pub LooksAfterAny : Look → Headed → Headed → Option (List ℕ) → Option (List ℕ) → Type 0
LooksAfterAny look old new had has =
    (side : Side) (last : Option ℤ) (count : ℕ) → SidePassed side last count old → Looks look side last count old new had has

-- ---- a reader alone

-- what the clauses of a call of a reader say
pub record Called (result : Result (Option Row) RowEnd) (old new : Reader) (had has : Option (List ℕ)) : Type 0 where
  pub again : IfSome old.answer (λ a. (result ≡ a) × (new ≡ old))
  pub moves : Moves (given_by result) old new had has
  pub rules : new.rules ≡ old.rules
  pub answer : old.answer ≡ None → new.answer ≡ kept_by result
  pub none : old.answer ≡ None → result ≡ Ok None → HasEnd all_read new
  pub ended : old.answer ≡ None → result ≡ Ok None → new.ended ≡ true
  pub refused : old.answer ≡ None → EndsRefused result old.rules.side new
  pub cut : old.answer ≡ None → result ≡ Err ReadFault → NeedsMore new
  pub memory : old.answer ≡ None → result ≡ Err NoMemory → WantsMemory old.rules
  pub fits : IfOk result (λ o. IfSome o (RowFits old.rules.side old.rules.columns))
  pub ordered : IfOk result (λ o. IfSome o (λ row. falls old.last row.values ≡ false))
  pub last : new.last ≡ last_after old.last result
  pub rises : IfOk result (λ o. IfSome o (λ row. gone_count old < gone_count new))
  pub stays : gone_count old ≤ gone_count new
  pub counted : gone_count new ≤ new.rules.most

-- a row of a side that was passed on at once: it fits the reader's side, and is not before the last one
pub record LineRow (side : Side) (last : Option ℤ) (count : ℕ) (row : Row) (r : Reader) : Type 0 where
  pub fits : RowFits r.rules.side r.rules.columns row
  pub ordered : in_order last (stamp row.values) ≡ true
  pub passed : SidePassed side (Some (pos (stamp row.values))) (count + 1) (bare r)

-- what was passed on after an answer, and why no row came
abbrev pub LinePassed : Side → Option ℤ → ℕ → Result (Option Row) RowEnd → Reader → Type 0
LinePassed side last count (Ok (Some row)) r = LineRow side last count row r
LinePassed side last count (Ok None) r = SidePassed side last count (bare r) × EndsBy (Ok None) r
LinePassed side last count (Err e) r = SidePassed side last count (bare r) × EndsBy (Err e) r
