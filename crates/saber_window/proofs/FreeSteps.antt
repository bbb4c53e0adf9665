-- The first block whose rows lie in a window that isn't closed, block by block.
use Rattle.std.proofs.Common.{◌≡◌, ◌≤◌, ◌<◌, ℕ, suc, zero, ◌+◌, List, [], ◌∷◌, length, drop, get_or, true, false, cond, Option, refl, ◌∙◌, ap, arith}
use Rattle.saber_plan.specs.Needs.{free_of, reaches}

-- what is left begins with the block at i
split_at : (d : Option ℕ) (ls : List (Option ℕ)) (i : ℕ) → i < length ls → drop i ls ≡ get_or ls i d ∷ drop (suc i) ls
split_at d [] i h = absurd (omega (arith, h))
split_at d (l ∷ ls) zero h = refl
split_at d (l ∷ ls) (suc i) h = split_at d ls i (omega (arith, h))

step : (first : ℕ) (l : Option ℕ) (ls : List (Option ℕ)) (closed : ℕ) → free_of first (l ∷ ls) closed ≡ cond (reaches l closed) first (free_of (first + 1) ls closed)
unfolding free_of
step first l ls closed = refl

none : (first closed : ℕ) → free_of first [] closed ≡ first
unfolding free_of
none first closed = refl

all_gone : (ls : List (Option ℕ)) (i : ℕ) → length ls ≤ i → drop i ls ≡ []
all_gone [] zero h = refl
all_gone [] (suc i) h = refl
all_gone (l ∷ ls) zero h = absurd (omega (arith, h))
all_gone (l ∷ ls) (suc i) h = all_gone ls i (omega (arith, h))

module _ (d : Option ℕ) (first : ℕ) (ls : List (Option ℕ)) (closed i : ℕ) where
  at_block : i < length ls → free_of (first + i) (drop i ls) closed ≡ cond (reaches (get_or ls i d) closed) (first + i) (free_of ((first + i) + 1) (drop (suc i) ls) closed)
  at_block h = ap (λ k. free_of (first + i) k closed) (split_at d ls i h) ∙ step (first + i) (get_or ls i d) (drop (suc i) ls) closed

  -- it is this one
  pub found : i < length ls → reaches (get_or ls i d) closed ≡ true → free_of (first + i) (drop i ls) closed ≡ first + i
  found h e = at_block h ∙ ap (λ b. cond b (first + i) (free_of ((first + i) + 1) (drop (suc i) ls) closed)) e

  -- it is a later one
  pub later : i < length ls → reaches (get_or ls i d) closed ≡ false → free_of (first + i) (drop i ls) closed ≡ free_of (first + (i + 1)) (drop (i + 1) ls) closed
  later h e =
      let a : (first + i) + 1 ≡ first + (i + 1) = omega arith in
      let b : suc i ≡ i + 1 = omega arith in
      at_block h ∙ ap (λ b. cond b (first + i) (free_of ((first + i) + 1) (drop (suc i) ls) closed)) e ∙ ap (λ k. free_of k (drop (suc i) ls) closed) a ∙ ap (λ k. free_of (first + (i + 1)) (drop k ls) closed) b

  -- there is none
  pub past : length ls ≤ i → free_of (first + i) (drop i ls) closed ≡ first + i
  past h = ap (λ k. free_of (first + i) k closed) (all_gone ls i h) ∙ none (first + i) closed
