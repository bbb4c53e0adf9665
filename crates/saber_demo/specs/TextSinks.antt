-- The sink in memory for the text of a run, as its callers see it.
use Rattle.std.specs.Prelude.{ℕ, List}

-- its text, and how many writes there were
pub record TextState : Type 0 where
  pub written : List ℕ
  pub writes : ℕ
