-- What a store can be given next.
use Rattle.std.specs.Prelude.{◌≡◌, ◌≤◌, ℕ, List, ◌++◌}
use Rattle.saber_plan.specs.Inputs.{Input, first_arrivals}
use Rattle.saber_plan.specs.Trees.{Tree}
use Rattle.saber_plan.specs.Answers.{frame}
use Rattle.saber_plan.specs.GivenRows.{RowsFit}
use Rattle.saber_plan.specs.Windows.{Fits, no_rows}
use Rattle.saber_plan.specs.Tasks.{Parts, Kept, unclosed, kept_behind, added_text}
use Rattle.saber_plan.specs.Shares.{Shares, shares_between}

-- the parts are those that the arrivals before a position leave open, and these are the shares of the arrivals from it up to another
pub record Continues (q : Tree) (parts : Parts) (s : Shares) : Type 0 where
  pub input : Input
  pub from : ℕ
  pub to : ℕ
  pub windows : Fits (frame q)
  pub fits : RowsFit q no_rows input.rows
  pub rises : from ≤ to
  pub unclosed_is : parts ≡ unclosed q (first_arrivals input from)
  pub shares_are : s ≡ shares_between q input from to

-- The store has taken in the arrivals before a position, and keeps what is to be kept of them, and the piece is of those from it up to another.
pub record Follows (q : Tree) (kept : Kept) (taken : Input → Type 0) (of : Input → ℕ → ℕ → Type 0) (r : Input) (from to : ℕ) : Type 0 where
  pub windows : Fits (frame q)
  pub fits : RowsFit q no_rows r.rows
  pub rises : from ≤ to
  pub kept_is : kept ≡ kept_behind q (first_arrivals r from)
  pub taken_is : taken (first_arrivals r from)
  pub of_is : of r from to

module _ (q : Tree) (kept : Kept) (taken : Input → Type 0) (of : Input → ℕ → ℕ → Type 0) where
  -- there is an input in which the piece follows what the store has taken in
  abbrev pub CanTakeIn : Type 0
  CanTakeIn = (r : Input) × (x : ℕ) × (y : ℕ) × Follows q kept taken of r x y

  -- whichever input that is, so it is with the piece's arrivals
  abbrev pub OfArrivals : (Input → ℕ → ℕ → Type 0) → Type 0
  OfArrivals P = (r : Input) (x y : ℕ) → Follows q kept taken of r x y → P r x y

  -- what they add is behind the text
  abbrev pub AddsText : List ℕ → List ℕ → Type 0
  AddsText old new = OfArrivals (λ r x y. new ≡ old ++ added_text q r x y)

  -- what is to be kept behind them is kept
  abbrev pub LeavesKept : Kept → Type 0
  LeavesKept new = OfArrivals (λ r x y. new ≡ kept_behind q (first_arrivals r y))

  -- all up to the end of the piece is taken in then
  abbrev pub TakesIn : (Input → Type 0) → Type 0
  TakesIn now = OfArrivals (λ r x y. now (first_arrivals r y))
