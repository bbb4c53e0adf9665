-- Laws of the rows of a file, and of the merged rows of two.
use Rattle.std.specs.Prelude.{◌≡◌, ℕ, ◌+◌, ◌≤◌, List, [], ◌∷◌, ◌++◌, filter, length, Bool, true, false, not, ◌&&◌, Option, Some, None, if◌then◌else◌, nat_le, ◌==◌}
use Rattle.std.specs.List.{AllByRecursion}
use Rattle.saber_plan.specs.declared.rows.Side.{Side}
use Rattle.saber_plan.specs.declared.rows.Side.TheVariants.{Left, Right}
use Rattle.saber_plan.specs.declared.rows.Row.{Row}
use Rattle.saber_plan.specs.declared.windows.Mark.{Mark}
use Rattle.saber_plan.specs.Rows.{Place, start, accept, judge_at, SideRules, RowFits, Line, lines_of, without_cr, is_known, Judged, skipped, taken, refused, judge, falls, End, all_read, cut, bad, Read, before, stamp, rows}
use Rattle.saber_plan.specs.declared.rows.RowCause.TheVariants.{TimeOrder}
use Rattle.saber_plan.specs.Windows.{by_side, no_rows, Ordered}
use Rattle.saber_plan.specs.Inputs.{holds_up, merged_rows, merged_read}

-- ---- the rows of a file

-- they are rows of its side, in order of time, and at most as many as it may have lines
pub record FileRows (s : SideRules) (rs : List Row) : Type 0 where
  pub fit : AllByRecursion (RowFits s.side s.columns) rs
  pub ordered : Ordered no_rows rs
  pub few : length rs ≤ s.most

abbrev pub FileRowsFit : Type 0
FileRowsFit = (s : SideRules) (bytes : List ℕ) → FileRows s (rows s bytes).rows

-- what a line adds to the accepted rows
abbrev pub accepted_by : SideRules → Place → Judged → (Place → List Row) → List Row
accepted_by s p skipped rest = rest (record { lines = p.lines + 1; high = p.high; accepted = p.accepted })
accepted_by s p (taken zs) rest = record { side = s.side; values = zs } ∷ rest (accept s p zs)
accepted_by s p (refused c) rest = []

-- the accepted rows of lines, in the order of the lines
unfoldable pub accepted_in : SideRules → List Line → Place → List Row
accepted_in s [] p = []
accepted_in s (l ∷ ls) p = accepted_by s p (judge_at s p (without_cr l.content)) (accepted_in s ls)

abbrev pub has_stamp : ℕ → Row → Bool
has_stamp t r = stamp r.values == t

-- the rows of a file are its accepted rows, sorted: those of each timestamp are the same, in the same order
abbrev pub FilesAreSorted : Type 0
FilesAreSorted = (s : SideRules) (bytes : List ℕ) (t : ℕ) → filter (has_stamp t) (rows s bytes).rows ≡ filter (has_stamp t) (accepted_in s (lines_of bytes) start)

-- what follows a line without slack: each row is given as its line is read, and a timestamp must not fall
abbrev pub after_plain : SideRules → ℕ → Option ℕ → Judged → (ℕ → Option ℕ → Read) → Read
after_plain s n last skipped rest = rest (n + 1) last
after_plain s n last (taken zs) rest =
    if falls last zs then record { rows = []; end = bad s.side (n + 1) TimeOrder }
    else before (record { side = s.side; values = zs }) (rest (n + 1) (Some (stamp zs)))
after_plain s n last (refused c) rest = record { rows = []; end = bad s.side (n + 1) c }

abbrev pub plain_end : Bool → Read
plain_end partial = record { rows = []; end = if partial then cut else all_read }

-- the rows of lines that come in order of time
unfoldable pub plain_by : Bool → SideRules → List Line → ℕ → Option ℕ → Read
plain_by partial s [] n last = plain_end partial
plain_by partial s (l ∷ ls) n last =
    if partial && not (is_known l) then plain_end partial
    else after_plain s n last (judge s.columns s.most (n + 1) (without_cr l.content)) (plain_by partial s ls)

-- without slack the rows of a file are those of its lines in their order
abbrev pub PlainFiles : Type 0
PlainFiles = (s : SideRules) (bytes : List ℕ) → s.slack ≡ 0 → rows s bytes ≡ plain_by false s (lines_of bytes) 0 None

-- ---- the merge of two

-- all rows are of a side
abbrev pub AllOn : Side → List Row → Type 0
AllOn s = AllByRecursion (λ r. r.side ≡ s)

abbrev pub on : Side → Row → Bool
on Left r = by_side r.side true false
on Right r = by_side r.side false true

-- the timestamps of the merge do not fall, where those of each side do not
abbrev pub MergesAreOrdered : Type 0
MergesAreOrdered = (l r : Read) (m : Mark) → Ordered m l.rows → Ordered m r.rows → Ordered m (merged_read l r).rows

-- some rows, and then others, are a side's
abbrev pub Begins : List Row → List Row → Type 0
Begins us xs = (rest : List Row) × (us ++ rest ≡ xs)

-- its rows of either side are the first of that side's
pub record SidesBegin (l r : Read) : Type 0 where
  pub left : Begins (filter (on Left) (merged_read l r).rows) l.rows
  pub right : Begins (filter (on Right) (merged_read l r).rows) r.rows

abbrev pub MergesBegin : Type 0
MergesBegin = (l r : Read) → AllOn Left l.rows → AllOn Right r.rows → SidesBegin l r

-- and all of them, where the merge is read to its end; then both sides are
pub record SidesEnd (l r : Read) : Type 0 where
  pub left_end : l.end ≡ all_read
  pub right_end : r.end ≡ all_read
  pub left_rows : filter (on Left) (merged_read l r).rows ≡ l.rows
  pub right_rows : filter (on Right) (merged_read l r).rows ≡ r.rows

abbrev pub MergesEnd : Type 0
MergesEnd = (l r : Read) → AllOn Left l.rows → AllOn Right r.rows → (merged_read l r).end ≡ all_read → SidesEnd l r

-- the head of lesser timestamp, the left on a tie, and then the merge of what is left
abbrev pub lesser_first : Row → List Row → End → Row → List Row → End → Read
lesser_first x xs e y ys d = if nat_le (stamp x.values) (stamp y.values) then before x (merged_rows xs e (y ∷ ys) d) else before y (merged_rows (x ∷ xs) e ys d)

-- One row of a merge, by the heads of both sides: the merge stops at a side that holds it up, takes what the other has
-- where one is read to its end, else takes the head of lesser timestamp.
pub record MergeTurns : Type 0 where
  pub left_stops : (e d : End) (ys : List Row) → holds_up e ≡ true → merged_rows [] e ys d ≡ record { rows = []; end = e }
  pub left_ended : (d : End) (ys : List Row) → merged_rows [] all_read ys d ≡ record { rows = ys; end = d }
  pub right_stops : (x : Row) (xs : List Row) (e d : End) → holds_up d ≡ true → merged_rows (x ∷ xs) e [] d ≡ record { rows = []; end = d }
  pub right_ended : (x : Row) (xs : List Row) (e : End) → merged_rows (x ∷ xs) e [] all_read ≡ record { rows = x ∷ xs; end = e }
  pub takes : (x : Row) (xs : List Row) (e : End) (y : Row) (ys : List Row) (d : End) → merged_rows (x ∷ xs) e (y ∷ ys) d ≡ lesser_first x xs e y ys d
