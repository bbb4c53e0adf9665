-- How many of the first tasks have text, and so how many writes a run makes.
use Rattle.std.proofs.Common.{◌≡◌, ◌≢◌, ℕ, zero, suc, ◌+◌, ◌≤◌, ◌<◌, nat_lt, List, [], ◌∷◌, ◌++◌, filter, length, Bool, true, false, cond, refl, sym, ◌∙◌, ap, arith, append-nil, length-append}
use Rattle.std.proofs.lemmas.Bool.Decides.{nat_tests}
use Rattle.std.proofs.lemmas.List.Elements.{filter-append}
use Rattle.saber_plan.specs.Inputs.{Input}
use Rattle.saber_plan.specs.Trees.{Tree}
use Rattle.saber_plan.specs.Windows.{from}
use Rattle.saber_plan.specs.Answers.{text}
use Rattle.saber_plan.specs.Tasks.{upto}
use Rattle.saber_plan.specs.Outputs.{raised_count, raised_by}
use Rattle.saber_plan.specs.Runs.{has_text, tasks_with_text}
use Rattle.saber_laws.proofs.TaskCutLaws.{first_of_first}

one_more : (k : ℕ) → k + 1 ≡ suc k
one_more k = omega arith

from_none : (k : ℕ) → 0 + k ≡ k
from_none k = omega arith

at_none : (a : ℕ) → a ≡ a + 0
at_none a = omega arith

behind : (a n : ℕ) → a + 1 + n ≡ a + suc n
behind a n = omega arith

-- numbers in a row, and the next one
from_more : (a n : ℕ) → from a (suc n) ≡ from a n ++ (a + n) ∷ []
unfolding from
from_more a zero = ap (λ i. i ∷ []) (at_none a)
from_more a (suc n) = ap (λ l. a ∷ l) (from_more (a + 1) n ∙ ap (λ i. from (a + 1) n ++ i ∷ []) (behind a n))

-- tests that agree on them
filter_alike : (p t : ℕ → Bool) (a n : ℕ) → ((i : ℕ) → a ≤ i → i < a + n → p i ≡ t i) → filter p (from a n) ≡ filter t (from a n)
unfolding from
filter_alike p t a zero h = refl
filter_alike p t a (suc n) h =
    let rest = filter_alike p t (a + 1) n (λ i g l. h i (omega (arith, g)) (omega (arith, l))) in
    λ j. cond (h a (omega arith) (omega arith) j) (a ∷ rest j) (rest j)

-- how many of the first k pass, and of one more
passing_more : (p : ℕ → Bool) (k : ℕ) (b : Bool) → p k ≡ b → length (filter p (from 0 (k + 1))) ≡ length (filter p (from 0 k)) + length (cond b (k ∷ []) [])
passing_more p k b e =
    ap (λ m. length (filter p (from 0 m))) (one_more k)
    ∙ ap (λ l. length (filter p l)) (from_more 0 k ∙ ap (λ i. from 0 k ++ i ∷ []) (from_none k))
    ∙ ap length (filter-append p (from 0 k) (k ∷ []))
    ∙ length-append (filter p (from 0 k)) (filter p (k ∷ []))
    ∙ ap (λ c. length (filter p (from 0 k)) + length (cond c (k ∷ []) [])) e

and_none : (k : ℕ) → k + 0 ≡ k
and_none k = omega arith

-- ---- texts

longer : (xs : List ℕ) (y : ℕ) (ys : List ℕ) → nat_lt (length xs) (length (xs ++ y ∷ ys)) ≡ true
longer xs y ys = let e = length-append xs (y ∷ ys) in grind (arith, nat_tests, e)

as_long : (xs : List ℕ) → nat_lt (length xs) (length (xs ++ [])) ≡ false
as_long xs = let e = length-append xs [] in grind (arith, nat_tests, e)

-- no task has text before the first one
pub no_tasks_no_text : (q : Tree) (n : ℕ) (r : Input) → tasks_with_text q n r 0 ≡ 0
unfolding tasks_with_text from
no_tasks_no_text q n r = refl

-- of the first tasks of an input as many have text as of the first ones of its first d tasks
pub first_with_text : (q : Tree) (n : ℕ) (r : Input) (d k : ℕ) → k ≤ d → tasks_with_text q n (upto n r d) k ≡ tasks_with_text q n r k
unfolding tasks_with_text
first_with_text q n r d k le =
    ap length
    (filter_alike (has_text q n (upto n r d)) (has_text q n r) 0 k
    (λ i g l j. nat_lt (length (text q (first_of_first n r d i (omega (arith, l, le)) j))) (length (text q (first_of_first n r d (i + 1) (omega (arith, l, le)) j)))))

module _ (q : Tree) (n : ℕ) (r : Input) (k start old new : ℕ) where
  some_text : (y : ℕ) (ys : List ℕ) → text q (upto n r (k + 1)) ≡ text q (upto n r k) ++ y ∷ ys → tasks_with_text q n r (k + 1) ≡ suc (tasks_with_text q n r k)
  unfolding tasks_with_text
  some_text y ys more =
      passing_more (has_text q n r) k true (ap (λ l. nat_lt (length (text q (upto n r k))) (length l)) more ∙ longer (text q (upto n r k)) y ys)
      ∙ one_more (length (filter (has_text q n r) (from 0 k)))

  no_text : text q (upto n r (k + 1)) ≡ text q (upto n r k) ++ [] → tasks_with_text q n r (k + 1) ≡ tasks_with_text q n r k
  unfolding tasks_with_text
  no_text more =
      passing_more (has_text q n r) k false (ap (λ l. nat_lt (length (text q (upto n r k))) (length l)) more ∙ as_long (text q (upto n r k)))
      ∙ and_none (length (filter (has_text q n r) (from 0 k)))

  -- one task more: a count that rose by one where the task adds text, and else stayed, is right behind it too
  pub writes_go_on : (adds : List ℕ) → text q (upto n r (k + 1)) ≡ text q (upto n r k) ++ adds → old ≡ raised_by start (tasks_with_text q n r k)
      → (adds ≢ [] → new ≡ raised_count old) → (adds ≡ [] → new ≡ old) → new ≡ raised_by start (tasks_with_text q n r (k + 1))
  writes_go_on [] more was one none = none refl ∙ was ∙ ap (raised_by start) (sym (no_text more))
  writes_go_on (y ∷ ys) more was one none = one some ∙ ap raised_count was ∙ ap (raised_by start) (sym (some_text y ys more))
    where
      some : y ∷ ys ≡ [] → ⊥
      some e = cc
