-- Texts that grow at their end.
use Rattle.std.specs.Prelude.{◌≡◌, ℕ, List, ◌++◌}

-- a text with something behind it, or nothing
pub record Behind (old new : List ℕ) : Type 0 where
  pub more : List ℕ
  pub all : new ≡ old ++ more
