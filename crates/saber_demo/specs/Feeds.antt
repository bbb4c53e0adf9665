-- Texts with and without line feeds.
use Rattle.std.specs.Prelude.{◌≡◌, ◌⊎◌, ◌==◌, ℕ, List, [], ◌∷◌, ◌++◌, not, true}
use Rattle.std.specs.List.{list_all}

-- no byte is a line feed
abbrev pub HasNoFeed : List ℕ → Type 0
HasNoFeed text = list_all (λ b. not (b == 10)) text ≡ true

-- it is empty, or its last byte is a line feed
abbrev pub IsFed : List ℕ → Type 0
IsFed text = (text ≡ []) ⊎ ((before : List ℕ) × (text ≡ before ++ 10 ∷ []))

-- what stands behind the last line feed of a text
pub record IsBehindFeeds (text tail : List ℕ) : Type 0 where
  pub before : List ℕ
  pub all : text ≡ before ++ tail
  pub fed : IsFed before
  pub plain : HasNoFeed tail
