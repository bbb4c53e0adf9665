-- Stores of queries that print what windows gain or lose.
use Rattle.std.specs.Prelude.{◌≡◌, ℕ, ◌+◌, ◌≤◌, ◌<◌, List, [], ◌∷◌, ◌++◌}
use Rattle.saber_plan.specs.Trees.{Tree}
use Rattle.saber_plan.specs.Inputs.{Input, first_arrivals}
use Rattle.saber_plan.specs.Windows.{Fits, no_rows}
use Rattle.saber_plan.specs.GivenRows.{RowsFit}
use Rattle.saber_plan.specs.Answers.{Answers, frame}
use Rattle.saber_plan.specs.Parts.{Part, part_answers}
use Rattle.saber_plan.specs.Tasks.{Parts, unclosed, closed_at, last_answers, change_added}
use Rattle.saber_plan.specs.Shares.{Shares, handed_between}
use Rattle.saber_changes.specs.declared.cancel.Change.{Change}
use Rattle.saber_changes.specs.declared.walk.Walk.{Walk}
use Rattle.saber_changes.specs.Counts.{change_of}
use Rattle.saber_changes.specs.Walks.{NoneFrom}

-- the windows of these parts rise, from number a on and below b
abbrev pub Rises : ℕ → ℕ → List (ℕ × Part) → Type 0
Rises a b [] = a ≤ b
Rises a b (e ∷ es) = (a ≤ e.0) × (e.0 < b) × Rises (e.0 + 1) b es

-- and they tell the answers of all windows from a up to b
abbrev pub Tells : Tree → (ℕ → Answers) → ℕ → ℕ → List (ℕ × Part) → Type 0
Tells q at a b [] = NoneFrom at a b
Tells q at a b (e ∷ es) = NoneFrom at a e.0 × (at e.0 ≡ part_answers q e.1) × Tells q at (e.0 + 1) b es

-- a store's parts and its walk stand behind the arrivals before position x, and what is handed on is of those from it up to y
pub record Hands (q : Tree) (parts : Parts) (walk : Walk) (s : Shares) (r : Input) (x y : ℕ) : Type 0 where
  pub windows : Fits (frame q)
  pub fits : RowsFit q no_rows r.rows
  pub rises : x ≤ y
  pub unclosed_is : parts ≡ unclosed q (first_arrivals r x)
  pub next_is : walk.next ≡ closed_at q r x
  pub last_is : walk.last ≡ last_answers q (first_arrivals r x)
  pub handed_is : s ≡ handed_between q r x y

-- there are such arrivals
abbrev pub CanHand : Tree → Parts → Walk → Shares → Type 0
CanHand q parts walk s = (r : Input) × (x : ℕ) × (y : ℕ) × Hands q parts walk s r x y

-- the text has what they change, and the store stands behind them
pub record Handed (change : Change) (q : Tree) (parts : Parts) (walk : Walk) (before after : List ℕ) (r : Input) (x y : ℕ) : Type 0 where
  pub text : after ≡ before ++ change_added (change_of change) q r x y
  pub stays : parts ≡ unclosed q (first_arrivals r y)
  pub next : walk.next ≡ closed_at q r y
  pub last : walk.last ≡ last_answers q (first_arrivals r y)
