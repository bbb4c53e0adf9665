-- Lines that lie in one list of numbers.
use Rattle.std.specs.Prelude.{◌≡◌, ℕ, ◌≤◌, ◌-◌, List, ◌++◌, length, map, take, drop, ℤ}
use Rattle.std.specs.List.{AllByRecursion}
use Rattle.saber_plan.specs.Answers.{Answers}

-- the numbers from one place up to another
abbrev pub line_in : List ℤ → ℕ × ℕ → List ℤ
line_in ns s = take (s.1 - s.0) (drop s.0 ns)

abbrev pub lines_in : List ℤ → List (ℕ × ℕ) → Answers
lines_in ns ss = map (line_in ns) ss

-- each begins and ends within them
abbrev pub IsWithin : List ℤ → ℕ × ℕ → Type 0
IsWithin ns s = (s.0 ≤ s.1) × (s.1 ≤ length ns)

abbrev pub AreWithin : List ℤ → List (ℕ × ℕ) → Type 0
AreWithin ns ss = AllByRecursion (IsWithin ns) ss

-- numbers have come behind others
pub record Grown (ns ms : List ℤ) : Type 0 where
  pub more : List ℤ
  pub all : ms ≡ ns ++ more
