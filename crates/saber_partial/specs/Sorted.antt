-- Entries in one list, by key.
use Rattle.std.specs.Prelude.{◌≡◌, ℕ, ◌<◌, ◌≤◌, T, List, [], ◌∷◌, length, get_or, ℤ, Some}
use Rattle.std.specs.declared.cmp.Ordering.TheVariants.{Less, Greater}
use Rattle.std.specs.FinMap.{from_entries, get, is_sorted}
use Rattle.std.specs.FinMap.Entries.{by_order}
use Rattle.saber_plan.specs.Answers.{key_cmp}
use Rattle.saber_plan.specs.Parts.{Part, Numbers, join_numbers}
use Rattle.saber_partial.specs.Tallies.{CanJoin}

-- what such a list is
abbrev pub part_of : List (List ℤ × Numbers) → Part
part_of es = from_entries {R = key_cmp} es

-- the part of one entry
abbrev pub alone : List ℤ × Numbers → Part
alone e = part_of (e ∷ [])

-- each key is below those behind it
abbrev pub Rises : List (List ℤ × Numbers) → Type 0
Rises es = T (is_sorted key_cmp es)

-- the key stands at place i
pub record IsAt (es : List (List ℤ × Numbers)) (k : List ℤ) (i : ℕ) : Type 0 where
  pub within : i < length es
  pub at : (d : List ℤ × Numbers) → (get_or es i d).0 ≡ k

-- the key isn't there, and belongs before place i
pub record IsGap (es : List (List ℤ × Numbers)) (k : List ℤ) (i : ℕ) : Type 0 where
  pub within : i ≤ length es
  pub below : (j : ℕ) (d : List ℤ × Numbers) → j < i → key_cmp (get_or es j d).0 k ≡ Less
  pub above : (j : ℕ) (d : List ℤ × Numbers) → i ≤ j → j < length es → key_cmp (get_or es j d).0 k ≡ Greater

-- the keys from place m up to place n are below this one
abbrev pub AllBelow : List (List ℤ × Numbers) → ℕ → ℕ → List ℤ → Type 0
AllBelow es m n k = (j : ℕ) (d : List ℤ × Numbers) → m ≤ j → j < n → key_cmp (get_or es j d).0 k ≡ Less

-- what both parts have of a key can be joined
pub record JoinsFit (m n : Part) : Type 0 where
  pub at : (k : List ℤ) (a b : Numbers) → get m k ≡ Some a → get n k ≡ Some b → CanJoin a b

-- what both lists have of a key can be joined
pub record CanJoinAll (es fs : List (List ℤ × Numbers)) : Type 0 where
  pub at : (i j : ℕ) (d e : List ℤ × Numbers) → i < length es → j < length fs
      → (get_or es i d).0 ≡ (get_or fs j e).0 → CanJoin (get_or es i d).1 (get_or fs j e).1

-- entries of the same keys, joined one by one
abbrev pub joined_each : List (List ℤ × Numbers) → List (List ℤ × Numbers) → List (List ℤ × Numbers)
joined_each [] fs = []
joined_each (e ∷ es) [] = e ∷ es
joined_each (e ∷ es) (f ∷ fs) = (e.0, join_numbers e.1 f.1) ∷ joined_each es fs

-- an entry among others, before what comes of the entries behind it
abbrev pub weave_in : List ℤ × Numbers → (List (List ℤ × Numbers) → List (List ℤ × Numbers)) → List (List ℤ × Numbers) → List (List ℤ × Numbers)
weave_in e rest [] = e ∷ rest []
weave_in e rest (f ∷ fs) = by_order (key_cmp e.0 f.0) (e ∷ rest (f ∷ fs)) ((e.0, join_numbers e.1 f.1) ∷ rest fs) (f ∷ weave_in e rest fs)

-- the entries of both by key, those that both have joined
abbrev pub weave : List (List ℤ × Numbers) → List (List ℤ × Numbers) → List (List ℤ × Numbers)
weave [] fs = fs
weave (e ∷ es) fs = weave_in e (weave es) fs
