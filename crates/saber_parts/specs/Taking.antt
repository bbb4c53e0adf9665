-- What a store of parts keeps and takes in, whatever is printed of its windows.
use Rattle.std.specs.Prelude.{◌≡◌, ℕ}
use Rattle.std.specs.FinMap.{empty}
use Rattle.saber_plan.specs.Trees.{Tree}
use Rattle.saber_plan.specs.Inputs.{Input}
use Rattle.saber_plan.specs.Windows.{last_mark, closed_count}
use Rattle.saber_plan.specs.Answers.{frame, way, by_way}
use Rattle.saber_plan.specs.Shares.{Shares, shares_between, handed_between}
use Rattle.saber_plan.specs.Tasks.{Parts, Kept}
use Rattle.saber_changes.specs.declared.output.Output.{Output}
use Rattle.saber_changes.specs.Outputs.{change_in, way_by, last_in, IsBefore}

-- what a task's piece is: its shares of windows that print their lines, and of others what is handed on
abbrev pub given_between : Tree → Input → ℕ → ℕ → Shares
given_between q r x y = by_way (way q) (shares_between q r x y) (shares_between q r x y) (λ change. handed_between q r x y)

abbrev pub IsGiven : Tree → Shares → Input → ℕ → ℕ → Type 0
IsGiven q s r x y = s ≡ given_between q r x y

-- what a store keeps, by its parts and its output
abbrev pub kept_by : Parts → Output → Kept
kept_by parts output = record { parts = parts; lists = empty; answers = last_in output }

-- and what it knows of its input beside that
pub record HasTaken (q : Tree) (output : Output) (r : Input) : Type 0 where
  pub way_is : way q ≡ way_by (change_in output)
  pub is_before : IsBefore output (closed_count (frame q) (last_mark r))
