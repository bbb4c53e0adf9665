-- What a draft has of its task's input.
use Rattle.std.specs.Prelude.{◌≡◌, ◌≤◌, ℕ, List, [], ◌∷◌, ◌++◌, take, slice_range, Bool, false}
use Rattle.saber_plan.specs.declared.rows.Row.{Row}
use Rattle.saber_plan.specs.declared.windows.Mark.{Mark}
use Rattle.saber_plan.specs.Inputs.{Input, first_arrivals}
use Rattle.saber_plan.specs.Trees.{Tree}
use Rattle.saber_plan.specs.Answers.{frame}
use Rattle.saber_plan.specs.Windows.{Fits, no_rows, mark_of, mark_after, mark_at}
use Rattle.saber_plan.specs.GivenRows.{RowsFit}
use Rattle.saber_plan.specs.Shares.{shares_here, shares_between, handed_here, handed_between}
use Rattle.saber_plan.specs.Tasks.{places}
use Rattle.saber_fragment.specs.declared.blocks.Block.{Block}
use Rattle.saber_fragment.specs.declared.blocks.Earlier.{Earlier}

-- ---- a task's own block

-- these rows have those of `e` at their end, and the mark before these stands behind the others
pub record EndWith (xs : List Row) (e : Earlier) : Type 0 where
  pub front : List Row
  pub rows_are : xs ≡ front ++ e.rows
  pub before_is : e.before ≡ mark_of front

-- the block's rows, and those before them that it has, follow one another in one input
pub record CanStart (q : Tree) (b : Block) : Type 0 where
  pub fits : RowsFit q b.before b.rows
  pub meets : b.before ≡ mark_after b.earlier.before b.earlier.rows
  pub all_fit : RowsFit q b.earlier.before (b.earlier.rows ++ b.rows)

-- ---- what a draft has seen

-- The rows looked back on so far with the mark before them, the task's own rows with theirs, and whether the input ends behind those;
-- the rows before its own that the task's block has, and where the own ones stand in their substreams.
pub record Sight : Type 0 where
  pub first : Mark
  pub back : List Row
  pub earlier : Earlier
  pub before : Mark
  pub rows : List Row
  pub places : List ℕ
  pub ended : Bool

-- the task's own block alone
abbrev pub own_sight : Block → Sight
own_sight b = record { first = b.before; back = []; earlier = b.earlier; before = b.before; rows = b.rows; places = b.places.items; ended = b.ended }

-- the mark before rows, else the one where the first rows begin
abbrev pub begins : List Row → Mark → Mark → Mark
begins [] m b = b
begins (x ∷ xs) m b = m

-- one block more that is looked back on
abbrev pub seen_back : Sight → Block → Sight
seen_back s b = record { first = begins s.back s.first b.before; back = s.back ++ b.rows; earlier = s.earlier; before = s.before; rows = s.rows; places = s.places; ended = s.ended }

-- The block is the next one before the task's own: the rows looked back on, the block's, maybe those of blocks between, and the
-- task's own follow one another in one input.
pub record CanLookBack (q : Tree) (s : Sight) (b : Block) : Type 0 where
  pub between : List Row
  pub goes_on : b.before ≡ mark_after (seen_back s b).first s.back
  pub meets : s.before ≡ mark_after (seen_back s b).first ((seen_back s b).back ++ between)
  pub fits : RowsFit q (seen_back s b).first (((seen_back s b).back ++ between) ++ s.rows)

-- the rows looked back on end where the task's own begin
pub record IsWhole (q : Tree) (s : Sight) : Type 0 where
  pub meets : s.before ≡ mark_after s.first s.back
  pub fits : RowsFit q s.first (s.back ++ s.rows)

-- The task's own rows are the arrivals of an input from position x up to position y, and with the rows looked back on they tell all that
-- these give, in lines or in parts that are handed on.
pub record IsSightOf (q : Tree) (s : Sight) (r : Input) (x y : ℕ) : Type 0 where
  pub windows : Fits (frame q)
  pub fits : RowsFit q no_rows r.rows
  pub rises : x ≤ y
  pub opens : (first_arrivals r x).ended ≡ false
  pub earlier_are : EndWith (take x r.rows) s.earlier
  pub before_is : s.before ≡ mark_at r x
  pub rows_are : s.rows ≡ slice_range r.rows x y
  pub ended_is : s.ended ≡ (first_arrivals r y).ended
  pub places_are : s.places ≡ places q r.rows x y
  pub gives : shares_here q s.first s.back s.rows s.ended ≡ shares_between q r x y
  pub hands : handed_here q s.first s.back s.rows s.ended ≡ handed_between q r x y
