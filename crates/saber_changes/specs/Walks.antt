-- The walk over closed windows, of any answers by window.
use Rattle.std.specs.Prelude.{◌≡◌, ℕ, ◌-◌, ◌≤◌, ◌<◌, List, [], ◌++◌, flat_map}
use Rattle.saber_plan.specs.Windows.{from}
use Rattle.saber_plan.specs.Answers.{Answers, before_window, answer_lines}
use Rattle.saber_changes.specs.declared.cancel.Change.{Change}
use Rattle.saber_changes.specs.declared.walk.Walk.{Walk}
use Rattle.saber_changes.specs.Counts.{change_of}

-- the answers kept are those of the window before the next one
abbrev pub Stands : (ℕ → Answers) → Walk → Type 0
Stands at w = w.last ≡ before_window at w.next

-- these windows have none
abbrev pub NoneFrom : (ℕ → Answers) → ℕ → ℕ → Type 0
NoneFrom at a b = (i : ℕ) → a ≤ i → i < b → at i ≡ []

-- what a window has gained or lost, as its lines
abbrev pub change_at : Change → (ℕ → Answers) → ℕ → List ℕ
change_at change at i = answer_lines i (change_of change (before_window at i) (at i))

-- of the windows from number a up to b
abbrev pub changes_from : Change → (ℕ → Answers) → ℕ → ℕ → List ℕ
changes_from change at a b = flat_map (change_at change at) (from a (b - a))

-- a walk has passed the windows up to a number, and written what they have gained or lost
pub record Walks (change : Change) (at : ℕ → Answers) (old new : Walk) (to : ℕ) (before after : List ℕ) : Type 0 where
  pub text : after ≡ before ++ changes_from change at old.next to
  pub stands : Stands at new
