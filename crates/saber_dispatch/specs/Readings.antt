-- The reader of one or of two inputs, as contracts see it.
use Rattle.std.specs.Prelude.{◌≡◌, ◌≤◌, ◌^◌, ℕ, List, [], ◌∷◌, Option, Some, None, true, false, Result, Ok, Err}
use Rattle.saber_plan.specs.declared.rows.Row.{Row}
use Rattle.saber_plan.specs.declared.rows.Side.{Side}
use Rattle.saber_plan.specs.declared.rows.Side.TheVariants.{Left, Right}
use Rattle.saber_plan.specs.declared.windows.Mark.{Mark}
use Rattle.saber_plan.specs.Rows.{Read, SideRules, before, stamp, all_read, bad}
use Rattle.saber_plan.specs.Sizes.{FileLimits}
use Rattle.saber_plan.specs.Rows as rows
use Rattle.saber_plan.specs.Windows.{can_follow, step_mark}
use Rattle.saber_plan.specs.Trees.{Tree}
use Rattle.saber_plan.specs.Checked.{columns_on}
use Rattle.saber_plan.specs.GivenRows.{IsRowOf}
use Rattle.saber_rows.specs.declared.ends.RowEnd.{RowEnd}
use Rattle.saber_rows.specs.declared.ends.RowEnd.TheVariants as ends
use Rattle.saber_rows.specs.Reader as readers
use Rattle.saber_rows.specs.Reader.{reader_of, new_reader, HasEnd, NeedsMore}
use Rattle.saber_rows.specs.Calls.{Moves}
use Rattle.saber_rows.specs.Heads.{bare, SidePassed}
use Rattle.saber_rows.specs.Merging.{Merger, merger_of, new_merger, MergeAnswer, MergeMoves, MergeHasEnd, MergeNeeds, Passed, merge_answer}
use Rattle.saber_dispatch.specs.Sources.{Lefts, RoseAt}
use Rattle.saber_dispatch.specs.declared.ends.End.{End}
use Rattle.saber_dispatch.specs.declared.ends.End.TheVariants.{AllRead, Bad, ReadFault, TooWide, NoMemory}
use Rattle.saber_dispatch.specs.declared.reader.Reader.{Reader}
use Rattle.saber_dispatch.specs.declared.reader.Reader.TheVariants.{One, Two}
use Rattle.saber_plan.specs.Files.{rules_for}

pub data Reading : Type 0 where
  one : readers.Reader → Reading
  two : Merger → Reading

abbrev pub reading_of : Reader → Reading
reading_of (One l) = one (reader_of l)
reading_of (Two m) = two (merger_of m)

-- there are as many sources
abbrev pub Suits : Reading → Lefts → Type 0
Suits (one r) (a ∷ []) = Unit {0}
Suits (two m) (a ∷ b ∷ []) = Unit {0}
Suits _ _ = ⊥

-- ---- answers

-- the end that a side's reader tells
abbrev pub end_at : Side → RowEnd → End
end_at side ends.ReadFault = ReadFault side
end_at side ends.NoMemory = NoMemory
end_at side (ends.Bad line cause) = Bad side line cause

abbrev pub answer_one : Result (Option Row) RowEnd → Result Row End
answer_one (Ok (Some row)) = Ok row
answer_one (Ok None) = Err AllRead
answer_one (Err e) = Err (end_at Left e)

abbrev pub answer_two : MergeAnswer → Result Row End
answer_two (Ok (Some row)) = Ok row
answer_two (Ok None) = Err AllRead
answer_two (Err e) = Err (end_at e.0 e.1)

-- ---- what a reader does

-- what was taken of the sources, and what the old reader still had to give, by what the new one has
abbrev pub ReadMoves : (Read → Read) → Reading → Reading → Lefts → Lefts → Type 0
ReadMoves out (one a) (one b) (had ∷ []) (has ∷ []) = Moves out a b had has
ReadMoves out (two a) (two b) (had ∷ had_right ∷ []) (has ∷ has_right ∷ []) = MergeMoves out a b had has had_right has_right
ReadMoves _ _ _ _ _ = ⊥

-- no answer has ended the reader
abbrev pub IsOpen : Reading → Type 0
IsOpen (one r) = r.answer ≡ None
IsOpen (two m) = merge_answer m ≡ None

-- whatever follows, no row is left, and this end is next
abbrev pub ReadHasEnd : rows.End → Reading → Type 0
ReadHasEnd e (one r) = HasEnd e r
ReadHasEnd e (two m) = MergeHasEnd e m

-- a side needs more
abbrev pub ReadNeeds : Side → Reading → Type 0
ReadNeeds Left (one r) = NeedsMore r
ReadNeeds Right (one r) = ⊥
ReadNeeds s (two m) = MergeNeeds s m

-- why no row comes
abbrev pub ReadEnds : End → Reading → Type 0
ReadEnds AllRead r = ReadHasEnd all_read r
ReadEnds (Bad side line cause) r = ReadHasEnd (bad side line cause) r
ReadEnds (ReadFault side) r = ReadNeeds side r
ReadEnds (TooWide task need) r = ⊥
ReadEnds NoMemory r = Unit {0}

-- the rules of a side of the plan: its columns, of which there are some, and lines up to this project's limit
pub record RulesOf (q : Tree) (side : Side) (r : SideRules) : Type 0 where
  pub columns : r.columns ≡ columns_on q.streams side
  pub some : 1 ≤ r.columns
  pub most : r.most ≤ 2 ^ 40

-- The reader reads the plan's streams, and gave rows with this mark.
pub record ReadsOne (q : Tree) (m : Mark) (r : readers.Reader) : Type 0 where
  pub passed : SidePassed Left m.last m.left (bare r)
  pub no_right : m.right ≡ 0
  pub goes_on : m.ended ≡ false
  pub rules : RulesOf q Left r.rules

pub record ReadsTwo (q : Tree) (m : Mark) (r : Merger) : Type 0 where
  pub passed : Passed m r
  pub goes_on : m.ended ≡ false
  pub left : RulesOf q Left r.left.reader.rules
  pub right : RulesOf q Right r.right.reader.rules

abbrev pub Reads : Tree → Mark → Reading → Type 0
Reads q m (one r) = ReadsOne q m r
Reads q m (two r) = ReadsTwo q m r

-- a row came
pub record NextRow (q : Tree) (m : Mark) (row : Row) (old new : Reading) (had has : Lefts) : Type 0 where
  pub moves : ReadMoves (before row) old new had has
  pub fits : IsRowOf q row
  pub ordered : can_follow m (stamp row.values) ≡ true
  pub reads : Reads q (step_mark m row) new
  pub open_still : IsOpen new

-- none came
pub record NextNone (q : Tree) (m : Mark) (end : End) (old new : Reading) (had has : Lefts) : Type 0 where
  pub moves : ReadMoves (λ rest. rest) old new had has
  pub ends : ReadEnds end new
  pub reads : Reads q m new

abbrev pub Stepped : Tree → Mark → Result Row End → Reading → Reading → Lefts → Lefts → Type 0
Stepped q m (Ok row) old new had has = NextRow q m row old new had has
Stepped q m (Err end) old new had has = NextNone q m end old new had has

-- whatever rows it gave before, the answer is a step
abbrev pub Steps : Result Row End → Reading → Reading → Lefts → Lefts → Type 0
Steps answer old new had has = (q : Tree) (m : Mark) → Reads q m old → Stepped q m answer old new had has

-- a fault of reading comes first only where that side's count rose
abbrev pub FaultsAreReal : Result Row End → Reading → List ℕ → List ℕ → Type 0
FaultsAreReal answer old before after = (q : Tree) (m : Mark) (side : Side) → Reads q m old → IsOpen old → answer ≡ Err (ReadFault side) → RoseAt side before after

-- a reader of so many columns before its first row
abbrev pub one_new : ℕ → FileLimits → Reading
one_new columns limits = one (new_reader (rules_for Left columns limits))

-- a merge of sides with so many columns before its first row
abbrev pub two_new : ℕ → ℕ → FileLimits → Reading
two_new left right limits = two (new_merger (new_reader (rules_for Left left limits)) (new_reader (rules_for Right right limits)))
