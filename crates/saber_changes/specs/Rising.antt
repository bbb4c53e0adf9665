-- Lines that rise, as the answers of groups do whose items begin with the key.
use Rattle.std.specs.Prelude.{◌≡◌, List, [], ◌∷◌, Bool, false, ℤ}
use Rattle.std.specs.Ordering.{is_lt}
use Rattle.std.specs.List.{AllByRecursion}
use Rattle.saber_plan.specs.Answers.{Answers, key_cmp, same_line}

-- a line comes before another
abbrev pub is_below : List ℤ → List ℤ → Bool
is_below k l = is_lt (key_cmp k l)

-- none of these is below the line
abbrev pub NoneBelow : List ℤ → Answers → Type 0
NoneBelow k ls = AllByRecursion (λ l. is_below l k ≡ false) ls

-- none is below one before it
abbrev pub Rises : Answers → Type 0
Rises [] = Unit {0}
Rises (k ∷ ks) = NoneBelow k ks × Rises ks

-- the first, if there is one, isn't below the line
abbrev pub Reaches : List ℤ → Answers → Type 0
Reaches k [] = Unit {0}
Reaches k (l ∷ ls) = is_below l k ≡ false

-- the first is the line
abbrev pub begins_with : List ℤ → Answers → Bool
begins_with k [] = false
begins_with k (l ∷ ls) = same_line k l
