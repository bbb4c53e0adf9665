-- What is seen of the sink that a chain's answer goes to.
use Rattle.std.specs.Prelude.{ℕ, List, Option}

-- what it has written, where it tells, and how many writes there were
pub record SinkSeen : Type 0 where
  pub written : Option (List ℕ)
  pub writes : ℕ

abbrev pub seen_of : {K : Type 0} → (K → Option (List ℕ)) → (K → ℕ) → K → SinkSeen
seen_of written writes sink = record { written = written sink; writes = writes sink }
