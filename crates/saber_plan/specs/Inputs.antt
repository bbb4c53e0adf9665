-- The input of a query: the rows of one source, or those of two, merged.
use Rattle.std.specs.Prelude.{ℕ, suc, List, [], ◌∷◌, length, take, Bool, true, false, ◌&&◌, if◌then◌else◌, nat_le, nat_lt}
use Rattle.saber_plan.specs.declared.rows.Row.{Row}
use Rattle.saber_plan.specs.Rows.{End, all_read, cut, bad, Read, before, stamp}

-- a side that ended so holds up the other: its next line is refused, or not known yet
abbrev pub holds_up : End → Bool
holds_up all_read = false
holds_up cut = true
holds_up (bad s n c) = true

-- rows of one side, where the other side has no row and ended so
abbrev pub alone : End → List Row → End → Read
alone other rows end = if holds_up other then record { rows = []; end = other } else record { rows = rows; end = end }

-- A left row, and the left rows after it, among right rows. The lesser timestamp comes first, and the left row on a tie.
-- A right line that is refused stops both, also where the left row is earlier.
abbrev pub among : Row → List Row → End → (List Row → Read) → List Row → End → Read
among x xs e rest [] d = alone d (x ∷ xs) e
among x xs e rest (y ∷ ys) d = if nat_le (stamp x.values) (stamp y.values) then before x (rest (y ∷ ys)) else before y (among x xs e rest ys d)

-- the merge by timestamp, the left asked first
unfoldable pub merged_rows : List Row → End → List Row → End → Read
merged_rows [] e ys d = alone e ys d
merged_rows (x ∷ xs) e ys d = among x xs e (λ zs. merged_rows xs e zs d) ys d

abbrev pub merged_read : Read → Read → Read
merged_read l r = merged_rows l.rows l.end r.rows r.end

-- the rows of a query's sources, and where they end
abbrev pub input : List Read → Read
input [] = record { rows = []; end = all_read }
input (l ∷ []) = l
input (l ∷ r ∷ rs) = merged_read l r

-- ---- the end of the input

-- Rows, and whether the input's end stands behind them: it counts as one arrival more.
pub record Input : Type 0 where
  pub rows : List Row
  pub ended : Bool

abbrev pub arrivals : Input → ℕ
arrivals r = if r.ended then suc (length r.rows) else length r.rows

-- the first x arrivals
abbrev pub first_arrivals : Input → ℕ → Input
first_arrivals r x = record { rows = take x r.rows; ended = r.ended && nat_lt (length r.rows) x }

-- rows behind which more may come
abbrev pub going_on : List Row → Input
going_on xs = record { rows = xs; ended = false }
