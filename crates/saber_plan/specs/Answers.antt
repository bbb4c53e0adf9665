-- What is printed for a window, and for a whole list of rows.
use Rattle.std.specs.Prelude.{ℕ, zero, suc, ◌-◌, List, [], ◌∷◌, ◌++◌, map, filter, flat_map, length, fold, Bool, true, false, if◌then◌else◌, Option, Some, None, ℤ, pos, ◌+ℤ◌}
use Rattle.std.specs.Fmt.{signed_decimal}
use Rattle.std.specs.List.{join_with_byte, list_any}
use Rattle.std.specs.Int.{int_min, int_max}
use Rattle.std.specs.Ordering.{int_cmp, match_ordering, eq_by_cmp}
use Rattle.std.specs.declared.cmp.Ordering.{Ordering}
use Rattle.std.specs.Cmp.Lexicographic.{slice_cmp}
use Rattle.saber_plan.specs.declared.rows.Side.TheVariants.{Left}
use Rattle.saber_plan.specs.declared.rows.Row.{Row}
use Rattle.saber_plan.specs.declared.plans.Shape.{Shape}
use Rattle.saber_plan.specs.declared.plans.Shape.TheVariants.{Select, Group, Join}
use Rattle.saber_plan.specs.declared.expressions.Product.{Product}
use Rattle.saber_plan.specs.declared.plans.Word.{Word}
use Rattle.saber_plan.specs.declared.plans.Word.TheVariants.{Rstream, Istream, Dstream}
use Rattle.saber_plan.specs.declared.plans.Fold.{Fold}
use Rattle.saber_plan.specs.declared.plans.Fold.TheVariants.{Sum, Min, Max, First}
use Rattle.saber_plan.specs.declared.plans.Aggregate.{Aggregate}
use Rattle.saber_plan.specs.Trees.{Tree}
use Rattle.saber_plan.specs.Values.{value, passes, column_of}
use Rattle.saber_plan.specs.Inputs.{Input}
use Rattle.saber_plan.specs.Windows.{Frame, frame_of, has_windows, Placed, place, inside, mark_of, closed_count, past_count, begun_count, last_mark, from, by_side}

-- numbers with commas between, and LF
abbrev pub line : List ℤ → List ℕ
line zs = join_with_byte 44 (map signed_decimal zs) ++ 10 ∷ []

-- the order of key lists
abbrev pub key_cmp : List ℤ → List ℤ → Ordering
key_cmp = slice_cmp int_cmp

-- a key list, and the answers to the items
abbrev pub Entry : Type 0
Entry = List ℤ × List ℤ

abbrev pub entry_lines : ℕ → List Entry → List ℕ
entry_lines i es = flat_map (λ e. line (pos i ∷ e.1)) es

-- ---- groups

-- a key among keys that rise, once
unfoldable pub with_key : List ℤ → List (List ℤ) → List (List ℤ)
with_key k [] = k ∷ []
with_key k (l ∷ ls) = match_ordering (key_cmp k l) (k ∷ l ∷ ls) (l ∷ ls) (l ∷ with_key k ls)

-- the distinct keys, rising
unfoldable pub keys_of : List (List ℤ) → List (List ℤ)
keys_of [] = []
keys_of (k ∷ ks) = with_key k (keys_of ks)

-- the key list of a row
abbrev pub key : List ℕ → List ℤ → List ℤ
key ks zs = map (column_of zs [] Left) ks

abbrev pub values_of : List Product → List (List ℤ) → List ℤ
values_of e rows = map (λ zs. value e zs []) rows

-- the rows with a key
abbrev pub rows_of_key : List ℕ → List ℤ → List (List ℤ) → List (List ℤ)
rows_of_key ks k rows = filter (λ zs. eq_by_cmp key_cmp k (key ks zs)) rows

-- how the values of rows become one number
abbrev pub earlier : ℤ → ℤ → ℤ
earlier x y = x

abbrev pub step : Fold → ℤ → ℤ → ℤ
step Sum = ◌+ℤ◌
step Min = int_min
step Max = int_max
step First = earlier

-- over none it is 0
abbrev pub first_by : (ℤ → ℤ → ℤ) → List ℤ → ℤ
first_by f [] = pos 0
first_by f (z ∷ zs) = fold f z zs

abbrev pub aggregate : List (List ℤ) → Aggregate → ℤ
aggregate rows a = first_by (step a.fold) (values_of a.expr rows)

-- a group's numbers as a row: its key, how many rows it has, and its aggregates
abbrev pub group_row : List ℤ → ℕ → List ℤ → List ℤ
group_row k n zs = k ++ pos n ∷ zs

-- the items of a group are over its numbers, others over a row or a pair of rows
abbrev pub items_over : List (List Product) → List ℤ → List ℤ → List ℤ
items_over is left right = map (λ e. value e left right) is

-- the answers over the rows with a key
abbrev pub answers : Tree → List (List ℤ) → List ℤ → List ℤ
answers q rows k =
    let us = rows_of_key q.keys k rows in
    items_over q.items (group_row k (length us) (map (aggregate us) q.aggregates)) []

-- each distinct key with its answers
abbrev pub groups : Tree → List (List ℤ) → List Entry
groups q rows = map (λ k. (k, answers q rows k)) (keys_of (map (key q.keys) rows))

-- the values of the rows that pass
abbrev pub passing_values : Tree → List Placed → List (List ℤ)
passing_values q xs = filter (λ zs. passes q.predicate zs []) (map (λ x. x.row.values) xs)

-- ---- pairs

abbrev pub is_left : Placed → Bool
is_left x = by_side x.row.side true false

abbrev pub is_right : Placed → Bool
is_right x = by_side x.row.side false true

-- a pair's positions are its key
abbrev pub pair_key : Placed → Placed → List ℤ
pair_key x y = pos (place x) ∷ pos (place y) ∷ []

-- a left row with each of these, filtered, and what g says of the two
abbrev pub pairs_with : {X : Type 0} → Tree → (Placed → Placed → X) → Placed → List Placed → List (List ℤ × X)
pairs_with q g x ys = map (λ y. (pair_key x y, g x y)) (filter (λ y. passes q.predicate x.row.values y.row.values) ys)

-- each left row with each right row, filtered
abbrev pub pairs : {X : Type 0} → Tree → (Placed → Placed → X) → List Placed → List (List ℤ × X)
pairs q g xs = flat_map (λ x. pairs_with q g x (filter is_right xs)) (filter is_left xs)

abbrev pub pair_answers : Tree → Placed → Placed → List ℤ
pair_answers q x y = items_over q.items x.row.values y.row.values

-- ---- rows by themselves

-- a row's position is its key
abbrev pub row_key : Placed → List ℤ
row_key x = pos (place x) ∷ []

-- the rows that pass, and what g says of each
abbrev pub picked_rows : {X : Type 0} → Tree → (Placed → X) → List Placed → List (List ℤ × X)
picked_rows q g xs = map (λ x. (row_key x, g x)) (filter (λ x. passes q.predicate x.row.values []) xs)

abbrev pub row_answers : Tree → Placed → List ℤ
row_answers q x = items_over q.items x.row.values []

-- ---- lines

abbrev pub by_shape : {X : Type 0} → Shape → X → X → X → X
by_shape Select x y z = x
by_shape Group x y z = y
by_shape Join x y z = z

-- what some rows of one window give: themselves, groups, or pairs
abbrev pub entries_in : Tree → List Placed → List Entry
entries_in q xs = by_shape q.shape (picked_rows q (row_answers q) xs) (groups q (passing_values q xs)) (pairs q (pair_answers q) xs)

abbrev pub frame : Tree → Frame
frame q = frame_of q.streams

-- the lines of window i
unfoldable pub lines : Tree → ℕ → List Row → List ℕ
lines q i xs = entry_lines i (entries_in q (inside (frame q) i xs 0 (length xs)))

-- the lines of rows by themselves, where no window is looked at
abbrev pub selected_lines : Tree → List Row → List ℕ
selected_lines q xs = flat_map (λ zs. line (items_over q.items zs [])) (filter (λ zs. passes q.predicate zs []) (map (λ x. x.values) xs))

-- those of the windows from a up to b
abbrev pub lines_from : Tree → List Row → ℕ → ℕ → List ℕ
lines_from q xs a b = flat_map (λ i. lines q i xs) (from a (b - a))

abbrev pub window_text : Tree → Input → List ℕ
window_text q r = flat_map (λ i. lines q i r.rows) (from 0 (closed_count (frame q) (last_mark r)))

-- a selection without a window prints its rows
abbrev pub by_frame : {X : Type 0} → Tree → X → X → X
by_frame q rows windows = by_shape q.shape (if has_windows (frame q) then windows else rows) windows windows

abbrev pub plain_text : Tree → Input → List ℕ
plain_text q r = by_frame q (selected_lines q r.rows) (window_text q r)

-- ---- what a window has that the one before it hasn't (CQL 2006: ISTREAM, DSTREAM)

-- answers of one window, each a line without the window's number
abbrev pub Answers : Type 0
Answers = List (List ℤ)

abbrev pub window_answers : Tree → ℕ → List Row → Answers
window_answers q i xs = map (λ e. e.1) (entries_in q (inside (frame q) i xs 0 (length xs)))

-- of the window before; before the first stands the empty list
abbrev pub before_window : (ℕ → Answers) → ℕ → Answers
before_window at zero = []
before_window at (suc i) = at i

abbrev pub same_line : List ℤ → List ℤ → Bool
same_line k l = eq_by_cmp key_cmp k l

-- without the first line that equals this one
abbrev pub without : List ℤ → Answers → Answers
without k [] = []
without k (l ∷ ls) = if same_line k l then ls else l ∷ without k ls

-- the lines that cancel none: each in turn cancels one equal line that is still left of the others
abbrev pub uncancelled_answers : Answers → Answers → Answers
uncancelled_answers [] others = []
uncancelled_answers (k ∷ ks) others = if list_any (same_line k) others then uncancelled_answers ks (without k others) else k ∷ uncancelled_answers ks others

-- what is printed of a window, from the answers of the one before and its own
abbrev pub Change : Type 0
Change = Answers → Answers → Answers

abbrev pub gains : Change
gains before now = uncancelled_answers now before

abbrev pub losses : Change
losses before now = uncancelled_answers before now

abbrev pub answer_lines : ℕ → Answers → List ℕ
answer_lines i ls = flat_map (λ zs. line (pos i ∷ zs)) ls

-- the lines of window i
abbrev pub change_lines : Change → Tree → List Row → ℕ → List ℕ
change_lines change q xs i = answer_lines i (change (before_window (λ j. window_answers q j xs) i) (window_answers q i xs))

abbrev pub change_text : Change → Tree → Input → List ℕ
change_text change q r = flat_map (change_lines change q r.rows) (from 0 (closed_count (frame q) (last_mark r)))

-- ---- the windows of each key list (CQL 2006: PARTITION BY)

-- the columns of PARTITION BY of a row
abbrev pub list_of : Tree → Row → List ℤ
list_of q r = key q.partition r.values

-- the rows with such a key list, in order: its substream, which has windows of its own
abbrev pub substream : Tree → List ℤ → List Row → List Row
substream q k xs = filter (λ r. eq_by_cmp key_cmp k (list_of q r)) xs

-- the key lists of some rows, rising
abbrev pub lists_in : Tree → List Row → List (List ℤ)
lists_in q xs = keys_of (map (list_of q) xs)

-- how many windows the rows of a stream alone close, and how many they begin
abbrev pub past_in : Tree → List Row → ℕ
past_in q us = past_count (frame q) (mark_of us)

abbrev pub begun_in : Tree → List Row → ℕ
begun_in q us = begun_count (frame q) (mark_of us)

-- the lines of what a row closes, behind the rows of its substream before it
abbrev pub closed_by : Tree → List Row → Row → List ℕ
closed_by q us r = lines_from q (us ++ r ∷ []) (past_in q us) (past_in q (us ++ r ∷ []))

-- of what each of some rows closes, behind all rows before them
unfoldable pub closed_in_turn : Tree → List Row → List Row → List ℕ
closed_in_turn q xs [] = []
closed_in_turn q xs (r ∷ rs) = closed_by q (substream q (list_of q r) xs) r ++ closed_in_turn q (xs ++ r ∷ []) rs

-- of the windows that are begun and not closed, by key list
abbrev pub closed_at_last : Tree → List Row → List ℕ
closed_at_last q xs = flat_map (λ k. let us = substream q k xs in lines_from q us (past_in q us) (begun_in q us)) (lists_in q xs)

-- in the order of the rows that close windows; the input's end closes those that are begun
abbrev pub key_text : Tree → Input → List ℕ
key_text q r = closed_in_turn q [] r.rows ++ (if r.ended then closed_at_last q r.rows else [])

-- ---- the text

-- how a query answers: window by window, or row by row; for each key list by itself; or by what windows gain or lose
pub data Way : Type 0 where
  alike : Way
  by_list : Way
  by_change : Change → Way

abbrev pub way_of : List ℕ → Option Word → Way
way_of (k ∷ ks) word = by_list
way_of [] None = alike
way_of [] (Some Rstream) = alike
way_of [] (Some Istream) = by_change gains
way_of [] (Some Dstream) = by_change losses

abbrev pub way : Tree → Way
way q = way_of q.partition q.word

abbrev pub by_way : {X : Type 0} → Way → X → X → (Change → X) → X
by_way alike x y f = x
by_way by_list x y f = y
by_way (by_change change) x y f = f change

-- all that is printed for an input
unfoldable pub text : Tree → Input → List ℕ
text q r = by_way (way q) (plain_text q r) (key_text q r) (λ change. change_text change q r)
