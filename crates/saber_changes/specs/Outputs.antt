-- What closed windows print, of any answers by window.
use Rattle.std.specs.Prelude.{◌≡◌, ℕ, ◌-◌, ◌≤◌, List, [], ◌++◌, flat_map, Option, Some, None}
use Rattle.saber_plan.specs.Windows.{from}
use Rattle.saber_plan.specs.Answers.{Answers, Way, alike, by_change, answer_lines}
use Rattle.saber_changes.specs.declared.cancel.Change.{Change}
use Rattle.saber_changes.specs.Counts.{change_of}
use Rattle.saber_changes.specs.Walks.{change_at, Stands}
use Rattle.saber_changes.specs.declared.output.Output.{Output}
use Rattle.saber_changes.specs.declared.output.Output.TheVariants.{Each, Delta}

-- the change that is printed, if windows don't print their lines
abbrev pub change_in : Output → Option Change
change_in Each = None
change_in (Delta change walk) = Some change

-- how a query answers that prints it
abbrev pub way_by : Option Change → Way
way_by None = alike
way_by (Some change) = by_change (change_of change)

-- what window i prints
abbrev pub printed_at : Option Change → (ℕ → Answers) → ℕ → List ℕ
printed_at None at i = answer_lines i (at i)
printed_at (Some change) at i = change_at change at i

-- what the windows from a up to b print
abbrev pub printed_from : Option Change → (ℕ → Answers) → ℕ → ℕ → List ℕ
printed_from c at a b = flat_map (printed_at c at) (from a (b - a))

-- window n is the next, or one that comes no later
abbrev pub IsBefore : Output → ℕ → Type 0
IsBefore Each n = Unit {0}
IsBefore (Delta change walk) n = walk.next ≡ n

abbrev pub IsUpTo : Output → ℕ → Type 0
IsUpTo Each n = Unit {0}
IsUpTo (Delta change walk) n = walk.next ≤ n

-- what is kept of the window before the next one
abbrev pub last_in : Output → Answers
last_in Each = []
last_in (Delta change walk) = walk.last

-- that are its answers
abbrev pub StandsIn : (ℕ → Answers) → Output → Type 0
StandsIn at Each = Unit {0}
StandsIn at (Delta change walk) = Stands at walk

-- the windows from a up to b have been passed, and the text has what they print
pub record Passed (at : ℕ → Answers) (old new : Output) (a b : ℕ) (before after : List ℕ) : Type 0 where
  pub text : after ≡ before ++ printed_from (change_in old) at a b
  pub same : change_in new ≡ change_in old
  pub stands : StandsIn at new
