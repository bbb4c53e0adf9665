-- Facts on what numbers in a row give, one after another. Any proof may cite them.
use Rattle.std.proofs.Common.{◌≡◌, ℕ, zero, suc, ◌+◌, ◌-◌, ◌≤◌, ◌<◌, List, [], ◌∷◌, ◌++◌, filter, flat_map, Bool, true, false, cond, Option, Some, None, option_map, refl, sym, ◌∙◌, ap, append-nil, arith}
use Rattle.std.proofs.lemmas.List.Concat.{flat_map-append}
use Rattle.std.specs.List.{filter_map, cons_option}
use Rattle.std.specs.Option.{option_map_or}
use Rattle.saber_plan.specs.Windows.{from}
use Rattle.saber_plan.specs.Tasks.{numbered_list}

pub from-append : (a m n : ℕ) → from a (m + n) ≡ from a m ++ from (a + m) n
unfolding from
from-append a zero n = let p : zero + n ≡ n = omega arith in let r : a ≡ a + zero = omega arith in ap (from a) p ∙ ap (λ b. from b n) r
from-append a (suc m) n =
    let p : suc m + n ≡ suc (m + n) = omega arith in
    let r : (a + 1) + m ≡ a + suc m = omega arith in
    ap (from a) p ∙ ap (λ l. a ∷ l) (from-append (a + 1) m n) ∙ ap (λ b. (a ∷ from (a + 1) m) ++ from b n) r

from_none : (a : ℕ) → from a (a - a) ≡ []
unfolding from
from_none a = let none : a - a ≡ 0 = omega arith in ap (from a) none

from_one : (a : ℕ) → from a 1 ≡ a ∷ []
unfolding from
from_one a = refl

-- from a up to n, and one more
from_step : (a n : ℕ) → a ≤ n → from a (n + 1 - a) ≡ from a (n - a) ++ n ∷ []
from_step a n h =
    let long : n + 1 - a ≡ (n - a) + 1 = omega (arith, h) in
    let last : a + (n - a) ≡ n = omega (arith, h) in
    ap (from a) long ∙ from-append a (n - a) 1 ∙ ap (λ l. from a (n - a) ++ l) (from_one (a + (n - a)) ∙ ap (λ k. k ∷ []) last)

pub from_more : (a n k : ℕ) → a ≤ n → n ≤ k → from a (k - a) ≡ from a (n - a) ++ from n (k - n)
from_more a n k h l =
    let long : k - a ≡ (n - a) + (k - n) = omega (arith, h, l) in
    let last : a + (n - a) ≡ n = omega (arith, h) in
    ap (from a) long ∙ from-append a (n - a) (k - n) ∙ ap (λ b. from a (n - a) ++ from b (k - n)) last

module _ {X : Type 0} where
  pub flat_map-from : (f g : ℕ → List X) (a n : ℕ) → ((i : ℕ) → a ≤ i → i < a + n → f i ≡ g i) → flat_map f (from a n) ≡ flat_map g (from a n)
  unfolding from
  flat_map-from f g a zero h = refl
  flat_map-from f g a (suc n) h = λ j. h a (omega arith) (omega arith) j ++ flat_map-from f g (a + 1) n (λ i p q. h i (omega arith) (omega arith)) j

  pub flat_none : (g : ℕ → List X) (a n : ℕ) → ((i : ℕ) → a ≤ i → i < a + n → g i ≡ []) → flat_map g (from a n) ≡ []
  unfolding from
  flat_none g a zero h = refl
  flat_none g a (suc n) h = λ j. h a (omega arith) (omega arith) j ++ flat_none g (a + 1) n (λ i p r. h i (omega arith) (omega arith)) j

  pub flat_nil : (g : ℕ → List X) (a : ℕ) → [] ≡ flat_map g (from a (a - a))
  flat_nil g a = sym (ap (flat_map g) (from_none a))

  pub flat_step : (g : ℕ → List X) (a n : ℕ) → a ≤ n → (l m : List X) → l ≡ flat_map g (from a (n - a)) → m ≡ g n → l ++ m ≡ flat_map g (from a (n + 1 - a))
  flat_step g a n h l m e p = (λ j. e j ++ p j) ∙ ap (λ r. flat_map g (from a (n - a)) ++ r) (sym (append-nil (g n)))
      ∙ sym (flat_map-append g (from a (n - a)) (n ∷ [])) ∙ sym (ap (flat_map g) (from_step a n h))

  -- numbers that give nothing may be left out
  pub flat_skip : (g : ℕ → List X) (a n k : ℕ) → a ≤ n → n ≤ k → ((i : ℕ) → n ≤ i → i < k → g i ≡ [])
      → (l : List X) → l ≡ flat_map g (from a (n - a)) → l ≡ flat_map g (from a (k - a))
  flat_skip g a n k h r none l e =
      e ∙ sym (ap (flat_map g) (from_more a n k h r)
      ∙ flat_map-append g (from a (n - a)) (from n (k - n))
      ∙ ap (λ m. flat_map g (from a (n - a)) ++ m) (flat_none g n (k - n) (λ i p s. none i p (omega (arith, s, r, p))))
      ∙ append-nil _)

  pub flat_filter : (g : ℕ → List X) (p : ℕ → Bool) (is : List ℕ) → flat_map (λ i. cond (p i) (g i) []) is ≡ flat_map g (filter p is)
  flat_filter g p [] = refl
  flat_filter g p (i ∷ is) =
      elim (p i) as (λ t. cond t (g i) [] ++ flat_map (λ i. cond (p i) (g i) []) is ≡ flat_map g (cond t (i ∷ filter p is) (filter p is))) [
        | true ↦ ap (λ l. g i ++ l) (flat_filter g p is)
        | false ↦ flat_filter g p is
      ]

  abbrev pub pair : ℕ → X → ℕ × X
  pair i x = (i, x)

  entry_case : (f : ℕ → Option X) (i : ℕ) (is : List ℕ) (o : Option X)
      → filter_map (λ i. option_map (pair i) (f i)) is ≡ flat_map (λ i. option_map_or (λ x. pair i x ∷ []) (f i) []) is
      → cons_option (option_map (pair i) o) (filter_map (λ i. option_map (pair i) (f i)) is)
      ≡ option_map_or (λ x. pair i x ∷ []) o [] ++ flat_map (λ i. option_map_or (λ x. pair i x ∷ []) (f i) []) is
  entry_case f i is None e = e
  entry_case f i is (Some x) e = ap (λ l. pair i x ∷ l) e

  listed : (f : ℕ → Option X) (is : List ℕ) → filter_map (λ i. option_map (pair i) (f i)) is ≡ flat_map (λ i. option_map_or (λ x. pair i x ∷ []) (f i) []) is
  listed f [] = refl
  listed f (i ∷ is) = entry_case f i is (f i) (listed f is)

  pub numbered_is : (f : ℕ → Option X) (a n : ℕ) → numbered_list a n f ≡ flat_map (λ i. option_map_or (λ x. pair i x ∷ []) (f i) []) (from a n)
  numbered_is f a n = listed f (from a n)
