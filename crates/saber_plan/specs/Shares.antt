-- What a task gives, with the parts of its windows apart by what they are for the task (SABER 2016: closing, pending, opening and complete fragments).
use Rattle.std.specs.Prelude.{ℕ, ◌+◌, ◌-◌, List, [], ◌++◌, filter, flat_map, take, length, slice_range, Bool, true, false, if◌then◌else◌, ◌==◌, Option, Some, None, option_map}
use Rattle.std.specs.List.{filter_map}
use Rattle.std.specs.Ordering.{nat_cmp}
use Rattle.std.specs.FinMap.{FinMap, len, from_entries}
use Rattle.saber_plan.specs.declared.rows.Row.{Row}
use Rattle.saber_plan.specs.declared.windows.Mark.{Mark}
use Rattle.saber_plan.specs.declared.windows.Kind.{Kind}
use Rattle.saber_plan.specs.declared.windows.Kind.TheVariants.{Opening, Closing, Pending, Complete}
use Rattle.saber_plan.specs.Trees.{Tree}
use Rattle.saber_plan.specs.Inputs.{Input}
use Rattle.saber_plan.specs.Windows.{Frame, has, placed_after, mark_after, end_mark, mark_at, closed_count, begun_count, kind_of, from}
use Rattle.saber_plan.specs.Answers.{by_shape, by_frame, frame, lines, passing_values, selected_lines}
use Rattle.saber_plan.specs.Parts.{Part, part, row_part, group_part, pair_part, part_lines}

-- ---- parts by window

-- a part, if it isn't empty
abbrev pub full : Part → Option Part
full p = if len p == 0 then None else Some p

-- those of the numbers from a, n of them, that have something
abbrev pub numbered_list : {X : Type 0} → ℕ → ℕ → (ℕ → Option X) → List (ℕ × X)
numbered_list a n f = filter_map (λ i. option_map (λ x. (i, x)) (f i)) (from a n)

abbrev pub Parts : Type 0
Parts = FinMap nat_cmp Part

-- ---- the kinds of windows

abbrev pub is_closing : Option Kind → Bool
is_closing None = false
is_closing (Some Opening) = false
is_closing (Some Closing) = true
is_closing (Some Pending) = false
is_closing (Some Complete) = false

abbrev pub is_pending : Option Kind → Bool
is_pending None = false
is_pending (Some Opening) = false
is_pending (Some Closing) = false
is_pending (Some Pending) = true
is_pending (Some Complete) = false

abbrev pub is_opening : Option Kind → Bool
is_opening None = false
is_opening (Some Opening) = true
is_opening (Some Closing) = false
is_opening (Some Pending) = false
is_opening (Some Complete) = false

abbrev pub is_complete : Option Kind → Bool
is_complete None = false
is_complete (Some Opening) = false
is_complete (Some Closing) = false
is_complete (Some Pending) = false
is_complete (Some Complete) = true

-- closed by the rows
abbrev pub is_closed : Option Kind → Bool
is_closed None = false
is_closed (Some Opening) = false
is_closed (Some Closing) = true
is_closed (Some Pending) = false
is_closed (Some Complete) = true

-- the parts that aren't empty of the windows of such kinds, rising, where the rows go from mark a up to mark b
unfoldable pub of_kind : (Option Kind → Bool) → Frame → Mark → Mark → (ℕ → Part) → List (ℕ × Part)
of_kind wanted f a b part =
    let c = closed_count f a in
    let g = begun_count f b in
    numbered_list c (g - c) (λ i. if wanted (kind_of f i a b) then full (part i) else None)

-- the windows that lie whole in those rows
abbrev complete : Frame → Mark → Mark → List ℕ
complete f a b = filter (λ i. is_complete (kind_of f i a b)) (from (closed_count f a) (begun_count f b - closed_count f a))

-- ---- what a task gives

-- The parts of closing, pending and opening windows, the text of complete ones, and how many windows are closed afterwards.
pub record Shares : Type 0 where
  pub closing : List (ℕ × Part)
  pub pending : List (ℕ × Part)
  pub opening : List (ℕ × Part)
  pub lines : List ℕ
  pub closed : ℕ

-- from mark a up to mark b: by the part of each window, and the lines of each, or those of rows by themselves
abbrev shares_by : Tree → Mark → Mark → (ℕ → Part) → (ℕ → List ℕ) → List ℕ → Shares
shares_by q a b part window_lines chosen = record {
  closing = of_kind is_closing (frame q) a b part;
  pending = of_kind is_pending (frame q) a b part;
  opening = of_kind is_opening (frame q) a b part;
  lines = let whole = flat_map window_lines (complete (frame q) a b) in by_frame q chosen whole;
  closed = closed_count (frame q) b;
}

-- The same where what is printed of a window stands on the one before it: no line as yet, and with the parts of closing windows those of
-- complete ones.
abbrev handed_by : Tree → Mark → Mark → (ℕ → Part) → Shares
handed_by q a b part = record {
  closing = of_kind is_closed (frame q) a b part;
  pending = of_kind is_pending (frame q) a b part;
  opening = of_kind is_opening (frame q) a b part;
  lines = [];
  closed = closed_count (frame q) b;
}

-- The part of window i over a task's rows, which follow rows that are looked back on. The mark is that before the latter.
unfoldable pub part_here : Tree → ℕ → Mark → List Row → List Row → Part
part_here q i m back rows = by_shape q.shape
    (row_part q (filter (has (frame q) i) (placed_after (mark_after m back) rows)))
    (group_part q (passing_values q (filter (has (frame q) i) (placed_after (mark_after m back) rows))))
    (pair_part q (m.left + m.right + length back) (filter (has (frame q) i) (placed_after m (back ++ rows))))

-- from a task's rows and those that it looks back on, behind a mark, and whether the input ends behind them
unfoldable pub shares_here : Tree → Mark → List Row → List Row → Bool → Shares
shares_here q m back rows ended =
    let a = mark_after m back in
    let b = end_mark ended (mark_after a rows) in
    let part_of = λ (i : ℕ). part_here q i m back rows in
    shares_by q a b part_of (λ i. part_lines q i (part_of i)) (selected_lines q rows)

-- from the whole input, from position x up to y
unfoldable pub shares_between : Tree → Input → ℕ → ℕ → Shares
shares_between q r x y =
    let part_between = λ (i : ℕ). part q i r.rows x y in
    let lines_upto = λ (i : ℕ). lines q i (take y r.rows) in
    shares_by q (mark_at r x) (mark_at r y) part_between lines_upto (selected_lines q (slice_range r.rows x y))

-- and what is handed on
unfoldable pub handed_here : Tree → Mark → List Row → List Row → Bool → Shares
handed_here q m back rows ended =
    let a = mark_after m back in
    handed_by q a (end_mark ended (mark_after a rows)) (λ i. part_here q i m back rows)

unfoldable pub handed_between : Tree → Input → ℕ → ℕ → Shares
handed_between q r x y = handed_by q (mark_at r x) (mark_at r y) (λ i. part q i r.rows x y)

-- ---- the same, with all parts in one map

pub record Piece : Type 0 where
  pub parts : Parts
  pub lines : List ℕ
  pub closed : ℕ

-- all its parts, by window
abbrev pub entries_in : Shares → List (ℕ × Part)
entries_in s = s.closing ++ (s.pending ++ s.opening)

-- the piece that they are
abbrev pub piece_in : Shares → Piece
piece_in s = record { parts = from_entries (entries_in s); lines = s.lines; closed = s.closed }
