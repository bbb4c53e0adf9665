-- Tasks, what they give, what is open, and how pieces are taken in.
use Rattle.std.specs.Prelude.{◌≡◌, ℕ, zero, suc, ◌+◌, ◌-◌, ◌*◌, min, List, [], ◌∷◌, ◌++◌, map, filter, flat_map, length, take, slice_range, Bool, true, false, if◌then◌else◌, nat_lt, nat_le, ◌==◌, not, ◌&&◌, ℤ}
use Rattle.std.specs.Int.{div_ceil}
use Rattle.std.specs.FinMap.{FinMap, len, empty, entries, from_entries, retain_keys}
use Rattle.saber_plan.specs.declared.rows.Row.{Row}
use Rattle.saber_plan.specs.Trees.{Tree}
use Rattle.saber_plan.specs.Rows.{Read, End, all_read, cut as unfinished, bad}
use Rattle.saber_plan.specs.Inputs.{Input, first_arrivals}
use Rattle.saber_plan.specs.Windows.{has_windows, Fits, Ordered, no_rows, last_mark, mark_at, closed_count, begun_count, from}
use Rattle.saber_plan.specs.Answers.{text, frame, key_cmp, Answers, Change, window_answers, before_window, change_lines, lines_from, selected_lines, by_frame, list_of, lists_in, substream, closed_in_turn, closed_at_last, alike, way, by_way}
use Rattle.saber_plan.specs.Merges.{both}
use Rattle.saber_plan.specs.Parts.{part, part_lines, merge}
use Rattle.saber_plan.specs.Shares.{shares_between, piece_in}
pub use Rattle.saber_plan.specs.Shares.{full, numbered_list, Parts, is_complete, Piece}

-- ---- tasks of n rows

abbrev pub is_all_read : End → Bool
is_all_read all_read = true
is_all_read unfinished = false
is_all_read (bad side line cause) = false

-- how many tasks have rows, where n is at least 1: the last one may be short, and none is empty
abbrev pub row_tasks : ℕ → Input → ℕ
row_tasks n r = div_ceil (length r.rows) n

-- Where task k begins. The input's end is the only arrival of a task behind those with rows: the flush task.
abbrev pub task_start : ℕ → Input → ℕ → ℕ
task_start n r k = if r.ended && nat_lt (row_tasks n r) k then suc (length r.rows) else min (k * n) (length r.rows)

-- the arrivals of the tasks before task k
abbrev pub upto : ℕ → Input → ℕ → Input
upto n r k = first_arrivals r (task_start n r k)

-- how many tasks there are
abbrev pub task_count : ℕ → Input → ℕ
task_count n r = if r.ended then row_tasks n r + 1 else row_tasks n r

-- The input of a run. With `flush` its end closes windows, where all was read, a row came, and the query has windows.
abbrev pub run_input : Tree → Bool → Read → Input
run_input q flush read = record { rows = read.rows; ended = flush && is_all_read read.end && has_windows (frame q) && not (length read.rows == 0) }

-- ---- parts by window, and pieces

-- the parts that aren't empty of the windows that are begun and not closed
unfoldable pub unclosed : Tree → Input → Parts
unclosed q r =
    let m = last_mark r in
    from_entries (numbered_list (closed_count (frame q) m) (begun_count (frame q) m - closed_count (frame q) m) (λ i. full (part q i r.rows 0 (length r.rows))))

-- those of each key list that has some, where its rows are a stream by themselves
abbrev pub ListParts : Type 0
ListParts = FinMap key_cmp Parts

abbrev pub list_input : Tree → List ℤ → Input → Input
list_input q k r = record { rows = substream q k r.rows; ended = r.ended }

unfoldable pub unclosed_by_list : Tree → Input → ListParts
unclosed_by_list q r = from_entries (filter (λ e. not (len e.1 == 0)) (map (λ k. (k, unclosed q (list_input q k r))) (lists_in q r.rows)))

-- the answers of the last closed window
unfoldable pub last_answers : Tree → Input → Answers
last_answers q r = before_window (λ i. window_answers q i r.rows) (closed_count (frame q) (last_mark r))

-- What is kept from task to task: the open parts by window, or by key list and window; and the answers of the last closed window, where
-- what is printed of the next one stands on them.
pub record Kept : Type 0 where
  pub parts : Parts
  pub lists : ListParts
  pub answers : Answers

abbrev pub by_windows : Parts → Kept
by_windows parts = record { parts = parts; lists = empty; answers = [] }

abbrev pub nothing_kept : Kept
nothing_kept = by_windows empty

-- behind an input
unfoldable pub kept_behind : Tree → Input → Kept
kept_behind q r = by_way (way q) (by_windows (unclosed q r))
    (record { parts = empty; lists = unclosed_by_list q r; answers = [] })
    (λ change. record { parts = unclosed q r; lists = empty; answers = last_answers q r })

-- ---- what the arrivals from position x up to y add to the text

abbrev pub closed_at : Tree → Input → ℕ → ℕ
closed_at q r x = closed_count (frame q) (mark_at r x)

-- the lines of the windows that they close, or of their rows
abbrev pub plain_added : Tree → Input → ℕ → ℕ → List ℕ
plain_added q r x y = by_frame q (selected_lines q (slice_range r.rows x y)) (lines_from q (take y r.rows) (closed_at q r x) (closed_at q r y))

-- what those windows gain or lose
abbrev pub change_added : Change → Tree → Input → ℕ → ℕ → List ℕ
change_added change q r x y = flat_map (change_lines change q (take y r.rows)) (from (closed_at q r x) (closed_at q r y - closed_at q r x))

-- what each row closes in its substream, and then the input's end
abbrev pub list_added : Tree → Input → ℕ → ℕ → List ℕ
list_added q r x y =
    closed_in_turn q (take x r.rows) (slice_range r.rows x y)
    ++ (if not (first_arrivals r x).ended && (first_arrivals r y).ended then closed_at_last q r.rows else [])

unfoldable pub added_text : Tree → Input → ℕ → ℕ → List ℕ
added_text q r x y = by_way (way q) (plain_added q r x y) (list_added q r x y) (λ change. change_added change q r x y)

-- ---- where rows stand in their substreams

unfoldable pub places_after : Tree → List Row → List Row → List ℕ
places_after q xs [] = []
places_after q xs (r ∷ rs) = length (substream q (list_of q r) xs) ∷ places_after q (xs ++ r ∷ []) rs

-- of the rows from position x up to y; only a query with PARTITION BY asks for them
abbrev pub places_by : Tree → List ℕ → List Row → ℕ → ℕ → List ℕ
places_by q [] xs x y = []
places_by q (k ∷ ks) xs x y = places_after q (take x xs) (slice_range xs x y)

abbrev pub places : Tree → List Row → ℕ → ℕ → List ℕ
places q xs x y = places_by q q.partition xs x y

-- ---- pieces

-- what the arrivals from position x up to y give
unfoldable pub piece_between : Tree → Input → ℕ → ℕ → Piece
piece_between q r x y = piece_in (shares_between q r x y)

-- what task t gives
abbrev pub piece : Tree → ℕ → Input → ℕ → Piece
piece q n r t = piece_between q r (task_start n r t) (task_start n r (t + 1))

-- ---- assembly

abbrev pub taken_in : Tree → Parts → Piece → Parts
taken_in q store p = both merge store p.parts

-- the lines of the windows that are closed now, and then those that lie whole in the task
unfoldable pub written_by : Tree → Parts → Piece → List ℕ
written_by q store p = flat_map (λ e. part_lines q e.0 e.1) (entries (retain_keys (taken_in q store p) (λ i. nat_lt i p.closed))) ++ p.lines

-- the parts that stay open
unfoldable pub left_by : Tree → Parts → Piece → Parts
left_by q store p = retain_keys (taken_in q store p) (λ i. nat_le p.closed i)

-- ---- all pieces in order

pub record Stage : Type 0 where
  pub written : List ℕ
  pub parts : Parts

abbrev pub take_in : Tree → Stage → Piece → Stage
take_in q s p = record { written = s.written ++ written_by q s.parts p; parts = left_by q s.parts p }

-- the first k pieces, joined in order
abbrev pub joined_to : Tree → ℕ → Input → Stage → ℕ → Stage
joined_to q n r s zero = s
joined_to q n r s (suc k) = take_in q (joined_to q n r s k) (piece q n r k)

abbrev pub stage_at : Tree → ℕ → Input → List ℕ → ℕ → Stage
stage_at q n r start k = record { written = start ++ text q (upto n r k); parts = unclosed q (upto n r k) }

-- The pieces, joined in order, make the text and the open parts of the arrivals so far, for every task size, where windows print their
-- answers as they are, or rows theirs.
abbrev pub PiecesMakeText : Type 0
PiecesMakeText = (q : Tree) → way q ≡ alike → Fits (frame q) → (n : ℕ) (r : Input) → Ordered no_rows r.rows → (start : List ℕ) (k : ℕ)
    → joined_to q n r (record { written = start; parts = empty }) k ≡ stage_at q n r start k
