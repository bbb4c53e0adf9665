-- The lines of a file, and the rows that they are.
use Rattle.std.specs.Prelude.{◌≡◌, ℕ, ◌+◌, ◌-◌, ◌^◌, List, [], ◌∷◌, length, drop, take, slice_index, map, is_some, unwrap_or, nat_abs, Bool, true, false, not, ◌&&◌, ◌||◌, if◌then◌else◌, Option, Some, None, nat_lt, nat_le, max, filter, ◌==◌, ℤ, pos, neg_ℤ, int_lt, int_le}
use Rattle.std.specs.List.{list_all}
use Rattle.std.specs.Char.{is_ascii_digit}
use Rattle.std.specs.Str.Parse.{digits_value, starts_with_minus}
use Rattle.saber_plan.specs.declared.rows.Side.{Side}
use Rattle.saber_plan.specs.declared.rows.Row.{Row}
use Rattle.saber_plan.specs.declared.rows.RowCause.{RowCause}
use Rattle.saber_plan.specs.declared.rows.RowCause.TheVariants.{TooManyLines, TooLong, FieldCount, BadNumber, Range, TimeOrder, TooManyHeld}

-- what stands before a line feed or the end, and whether the line feed is there
pub record Line : Type 0 where
  pub content : List ℕ
  pub whole : Bool

-- a byte before the first line
abbrev pub onto_line : ℕ → List Line → List Line
onto_line b [] = record { content = b ∷ []; whole = false } ∷ []
onto_line b (l ∷ ls) = record { content = b ∷ l.content; whole = l.whole } ∷ ls

-- a file cut after each LF; the last part is a line only if it has a byte
unfoldable pub lines_of : List ℕ → List Line
lines_of [] = []
lines_of (b ∷ bs) = if b == 10 then record { content = []; whole = true } ∷ lines_of bs else onto_line b (lines_of bs)

-- without one CR at its end
abbrev pub without_cr : List ℕ → List ℕ
without_cr bs = if slice_index bs (length bs - 1) == 13 then take (length bs - 1) bs else bs

abbrev pub onto_field : ℕ → List (List ℕ) → List (List ℕ)
onto_field b [] = (b ∷ []) ∷ []
onto_field b (f ∷ fs) = (b ∷ f) ∷ fs

-- the parts between commas
unfoldable pub fields_of : List ℕ → List (List ℕ)
fields_of [] = [] ∷ []
fields_of (b ∷ bs) = if b == 44 then [] ∷ fields_of bs else onto_field b (fields_of bs)

-- one or more digits
abbrev pub is_digits : List ℕ → Bool
is_digits bs = not (length bs == 0) && list_all is_ascii_digit bs

abbrev pub if_digits : List ℕ → ℤ → Option ℤ
if_digits bs z = if is_digits bs then Some z else None

-- an optional `-` and one or more digits
abbrev pub number_of : List ℕ → Option ℤ
number_of f = if starts_with_minus f then if_digits (drop 1 f) (neg_ℤ (pos (digits_value 10 (drop 1 f)))) else if_digits f (pos (digits_value 10 f))

-- a line by itself: nothing, the numbers of a row, or a fault
pub data Judged : Type 0 where
  skipped : Judged
  taken : List ℤ → Judged
  refused : RowCause → Judged

-- the first field that is no number, where fields count from k
abbrev pub bad_field : ℕ → List (List ℕ) → Option ℕ
bad_field k [] = None
bad_field k (f ∷ fs) = if is_some (number_of f) then bad_field (k + 1) fs else Some k

abbrev pub numbers : List (List ℕ) → List ℤ
numbers fs = map (λ f. unwrap_or (number_of f) (pos 0)) fs

-- the first column is a time, and the others are of 64 bits
abbrev pub in_range : ℕ → ℤ → Bool
in_range k z = if k == 1 then int_le (pos 0) z && int_le z (pos (2 ^ 62)) else int_le (neg_ℤ (pos (2 ^ 63))) z && int_lt z (pos (2 ^ 63))

-- the first number out of its range, where fields count from k
abbrev pub wide_field : ℕ → List ℤ → Option ℕ
wide_field k [] = None
wide_field k (z ∷ zs) = if in_range k z then wide_field (k + 1) zs else Some k

-- the timestamp: the first number
abbrev pub stamp : List ℤ → ℕ
stamp [] = 0
stamp (z ∷ zs) = nat_abs z

-- a row of a side with so many columns, each number in its range
pub record RowFits (side : Side) (columns : ℕ) (r : Row) : Type 0 where
  pub own : r.side ≡ side
  pub count : length r.values ≡ columns
  pub range : wide_field 1 r.values ≡ None

-- before the last row
abbrev pub falls : Option ℕ → List ℤ → Bool
falls None zs = false
falls (Some last) zs = nat_lt (stamp zs) last

abbrev pub judge_numbers : List ℤ → Option ℕ → Judged
judge_numbers zs (Some k) = refused (Range k)
judge_numbers zs None = taken zs

abbrev pub judge_fields : List (List ℕ) → Option ℕ → Judged
judge_fields fs (Some k) = refused (BadNumber k)
judge_fields fs None = judge_numbers (numbers fs) (wide_field 1 (numbers fs))

-- the content of a line with this number, but for its timestamp; the causes are tried in this order
unfoldable pub judge : ℕ → ℕ → ℕ → List ℕ → Judged
judge columns most number content =
    if nat_lt most number then refused TooManyLines
    else (if length content == 0 then skipped
    else (if nat_lt 4096 (length content) then refused TooLong
    else (if length (fields_of content) == columns then judge_fields (fields_of content) (bad_field 1 (fields_of content))
    else refused FieldCount)))

-- where rows end
pub data End : Type 0 where
  all_read : End
  cut : End
  bad : Side → ℕ → RowCause → End

-- some rows, and where they end
pub record Read : Type 0 where
  pub rows : List Row
  pub end : End

abbrev pub before : Row → Read → Read
before r read = record { rows = r ∷ read.rows; end = read.end }

-- what is fixed of one side: which it is, how many columns it has, how many lines it may have, by how much
-- a timestamp may be below the greatest one before it, and how many rows may wait for others
pub record SideRules : Type 0 where
  pub side : Side
  pub columns : ℕ
  pub most : ℕ
  pub slack : ℕ
  pub room : ℕ

-- how many rows of a file may wait: this project's limit
abbrev pub most_held : ℕ
most_held = 1048576

-- How many lines are behind, the greatest timestamp of the accepted rows, and those of these rows that are still to be given:
-- in order of time, and with one timestamp in order of their lines.
pub record Place : Type 0 where
  pub lines : ℕ
  pub high : Option ℕ
  pub accepted : List Row

abbrev pub start : Place
start = record { lines = 0; high = None; accepted = [] }

-- the greatest timestamp, with one more
abbrev pub raised_time : Option ℕ → ℕ → ℕ
raised_time None t = t
raised_time (Some high) t = max high t

-- below the greatest timestamp by more than the slack
abbrev pub late : ℕ → Option ℕ → List ℤ → Bool
late slack None zs = false
late slack (Some high) zs = nat_lt (stamp zs + slack) high

-- a row that no row of a later line precedes: any earlier one would be late
abbrev pub is_due : ℕ → Option ℕ → Row → Bool
is_due slack None r = false
is_due slack (Some high) r = nat_le (stamp r.values + slack) high

-- a row among rows in order of time, behind those that are not later
abbrev pub in_time : Row → List Row → List Row
in_time r [] = r ∷ []
in_time r (x ∷ xs) = if nat_lt (stamp r.values) (stamp x.values) then r ∷ x ∷ xs else x ∷ in_time r xs

-- one row more
abbrev pub accept : SideRules → Place → List ℤ → Place
accept s p zs = record { lines = p.lines + 1; high = Some (raised_time p.high (stamp zs)); accepted = in_time (record { side = s.side; values = zs }) p.accepted }

abbrev pub due : SideRules → Place → List Row
due s p = filter (is_due s.slack p.high) p.accepted

-- those that are not due
abbrev pub waiting_rows : SideRules → Place → List Row
waiting_rows s p = filter (λ r. not (is_due s.slack p.high r)) p.accepted

-- with one row more, more rows would wait than there is room for
abbrev pub crowds : SideRules → Place → List ℤ → Bool
crowds s p zs = nat_lt s.room (length (waiting_rows s (accept s p zs)))

-- a judged line at its place: a row must not be late, and there must be room for it
abbrev pub timed_line : SideRules → Place → Judged → Judged
timed_line s p skipped = skipped
timed_line s p (taken zs) = if late s.slack p.high zs then refused TimeOrder else (if crowds s p zs then refused TooManyHeld else taken zs)
timed_line s p (refused c) = refused c

-- the next line, with this content
abbrev pub judge_at : SideRules → Place → List ℕ → Judged
judge_at s p content = timed_line s p (judge s.columns s.most (p.lines + 1) content)

-- what follows a line, from what the lines after it give; before a line that is refused stand all accepted rows
abbrev pub after_line : SideRules → Place → Judged → (Place → Read) → Read
after_line s p skipped rest = rest (record { lines = p.lines + 1; high = p.high; accepted = p.accepted })
after_line s p (taken zs) rest = rest (accept s p zs)
after_line s p (refused c) rest = record { rows = p.accepted; end = bad s.side (p.lines + 1) c }

-- a line whose judgement no byte behind it can change: its line feed is there, or it is too long with any end
abbrev pub is_known : Line → Bool
is_known l = l.whole || nat_lt 4097 (length l.content)

-- where no line is known: of those that may go on, only the rows that are due
abbrev pub no_more : Bool → SideRules → Place → Read
no_more partial s p = if partial then record { rows = due s p; end = cut } else record { rows = p.accepted; end = all_read }

-- The rows of lines up to the first that is refused, in order of time.
unfoldable pub read_by : Bool → SideRules → List Line → Place → Read
read_by partial s [] p = no_more partial s p
read_by partial s (l ∷ ls) p =
    if partial && not (is_known l) then no_more partial s p
    else after_line s p (judge_at s p (without_cr l.content)) (read_by partial s ls)

-- the rows of a file
abbrev pub rows : SideRules → List ℕ → Read
rows s bytes = read_by false s (lines_of bytes) start

-- those of its whole lines, where more may follow
abbrev pub whole : SideRules → List ℕ → Read
whole s bytes = read_by true s (lines_of bytes) start
