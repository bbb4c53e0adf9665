-- What a task works out of its rows, and what a store takes in of it.
use Rattle.std.specs.Prelude.{◌≡◌, ℕ, ◌<◌, ◌≤◌, List, [], ◌∷◌, ◌++◌, length, take, drop, get_or, slice_range, Bool, false, if◌then◌else◌, Option, Some, None, ℤ}
use Rattle.saber_plan.specs.declared.rows.Row.{Row}
use Rattle.saber_plan.specs.declared.windows.Mark.{Mark}
use Rattle.saber_plan.specs.Trees.{Tree}
use Rattle.saber_plan.specs.Inputs.{Input, first_arrivals}
use Rattle.saber_plan.specs.GivenRows.{RowsFit}
use Rattle.saber_plan.specs.Windows.{no_rows}
use Rattle.saber_plan.specs.Answers.{list_of, substream, closed_by, closed_in_turn, closed_at_last}
use Rattle.saber_plan.specs.Parts.{Part}
use Rattle.saber_plan.specs.Tasks.{list_added}
use Rattle.saber_fragment.specs.Drafts.{Sight}
use Rattle.saber_partition.specs.Streams.{Asks, row_part}
use Rattle.saber_partition.specs.Lists.{Lists, TakenAll, TakenBy, TakenIn}

-- a row's key list, its place among the rows with it, and its part
pub record Made : Type 0 where
  pub list : List ℤ
  pub place : ℕ
  pub part : Part

-- how many windows rows close and begin, where there are so many of them
abbrev pub mark_with : ℕ → Mark
mark_with n = record { left = n; right = 0; last = None; ended = false }

-- ---- parts in one list

-- there is a part at a place, if one is told
abbrev pub IsPlace : List Part → Option ℕ → Type 0
IsPlace ps None = Unit {0}
IsPlace ps (Some i) = i < length ps

-- behind parts came more
pub record Grew (ps qs : List Part) : Type 0 where
  pub more : List Part
  pub all : qs ≡ ps ++ more

-- ---- the piece

-- a row that stands at this place
pub record IsMade (q : Tree) (r : Row) (n : ℕ) (p : Made) : Type 0 where
  pub list_is : p.list ≡ list_of q r
  pub place_is : p.place ≡ n
  pub part_is : p.part ≡ row_part q r

-- of rows that stand at these places
unfoldable pub AreMade : Tree → List Row → List ℕ → List Made → Type 0
AreMade q [] ns [] = Unit {0}
AreMade q [] ns (p ∷ ps) = ⊥
AreMade q (r ∷ rs) ns [] = ⊥
AreMade q (r ∷ rs) ns (p ∷ ps) = IsMade q r (get_or ns 0 0) p × AreMade q rs (drop 1 ns) ps

-- of rows behind others
unfoldable pub ArePieces : Tree → List Row → List Row → List Made → Type 0
ArePieces q xs [] [] = Unit {0}
ArePieces q xs [] (p ∷ ps) = ⊥
ArePieces q xs (r ∷ rs) [] = ⊥
ArePieces q xs (r ∷ rs) (p ∷ ps) = IsMade q r (length (substream q (list_of q r) xs)) p × ArePieces q (xs ++ r ∷ []) rs ps

-- the piece is that of the arrivals from position x up to y, before which the input did not end
pub record IsOf (q : Tree) (r : Input) (x y : ℕ) (ps : List Made) (ended : Bool) : Type 0 where
  pub opens : (first_arrivals r x).ended ≡ false
  pub rows_are : ArePieces q (take x r.rows) (slice_range r.rows x y) ps
  pub ended_is : ended ≡ (first_arrivals r y).ended

-- ---- what is taken in

-- a row comes behind others, all of which are taken in
pub record RowComes (q : Tree) (xs : List Row) (r : Row) (p : Made) (m : Lists) : Type 0 where
  pub asks : Asks q
  pub fits : RowsFit q no_rows (xs ++ r ∷ [])
  pub made : IsMade q r (length (substream q (list_of q r) xs)) p
  pub taken : TakenAll q xs m

pub record RowCame (q : Tree) (xs : List Row) (r : Row) (m : Lists) (before after : List ℕ) : Type 0 where
  pub taken : TakenAll q (xs ++ r ∷ []) m
  pub text : after ≡ before ++ closed_by q (substream q (list_of q r) xs) r

-- some rows come so
pub record RowsCome (q : Tree) (xs rs : List Row) (ps : List Made) (m : Lists) : Type 0 where
  pub asks : Asks q
  pub fits : RowsFit q no_rows (xs ++ rs)
  pub made : ArePieces q xs rs ps
  pub taken : TakenAll q xs m

pub record RowsCame (q : Tree) (xs rs : List Row) (m : Lists) (before after : List ℕ) : Type 0 where
  pub taken : TakenAll q (xs ++ rs) m
  pub text : after ≡ before ++ closed_in_turn q xs rs

-- and then the end of the input, if it comes here
pub record EndCame (q : Tree) (xs : List Row) (ended : Bool) (m : Lists) (before after : List ℕ) : Type 0 where
  pub taken : TakenBy ended q xs m
  pub text : after ≡ before ++ (if ended then closed_at_last q xs else [])

-- ---- a task

-- the rows of a task are made, and whether the input ends behind them
pub record HasSeen (q : Tree) (s : Sight) (ps : List Made) (ended : Bool) : Type 0 where
  pub made : AreMade q s.rows s.places ps
  pub ended_is : ended ≡ s.ended

-- the arrivals of an input before position x are taken in, and these are the rows of those up to y
pub record Follow (q : Tree) (r : Input) (x y : ℕ) (ps : List Made) (ended : Bool) (m : Lists) : Type 0 where
  pub fits : RowsFit q no_rows r.rows
  pub rises : x ≤ y
  pub taken : TakenIn q (first_arrivals r x) m
  pub of_is : IsOf q r x y ps ended

-- they are taken in too
pub record Followed (q : Tree) (r : Input) (x y : ℕ) (m : Lists) (before after : List ℕ) : Type 0 where
  pub taken : TakenIn q (first_arrivals r y) m
  pub text : after ≡ before ++ list_added q r x y
