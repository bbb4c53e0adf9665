-- How often each key list came.
use Rattle.std.specs.Prelude.{ℕ, List, ℤ}
use Rattle.std.specs.Option.{unwrap_or}
use Rattle.std.specs.FinMap.{FinMap, get}
use Rattle.saber_plan.specs.Answers.{key_cmp}

abbrev pub Tallies : Type 0
Tallies = FinMap key_cmp ℕ

-- how often: never, where it isn't there
abbrev pub count_of : Tallies → List ℤ → ℕ
count_of m k = unwrap_or (get m k) 0
