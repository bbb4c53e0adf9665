-- Counts by the numbers of key lists.
use Rattle.std.proofs.Common.{◌≡◌, ◌<◌, ℕ, zero, suc, List, [], ◌∷◌, length, get_or, slice_get, ℤ, Bool, true, false, cond, Option, Some, None, unwrap_or, option_and_then, refl, ◌∙◌, ap, arith}
use Rattle.std.specs.Ordering.{eq_by_cmp}
use Rattle.std.specs.FinMap.{get, insert, get-insert}
use Rattle.saber_plan.specs.Answers.{key_cmp}
use Rattle.saber_plan.specs.Facts.Parts.{total}
use Rattle.saber_places.specs.Counts.{Tallies, count_of}
use Rattle.saber_places.specs.Numbering.{by_list, number_of}
use Rattle.saber_places.proofs.Numbering.{at_number}

got : (ns : List ℕ) (i n : ℕ) → i < length ns → get_or ns i n ≡ n → slice_get ns i ≡ Some n
got [] i n h e = absurd (omega (arith, h))
got (m ∷ ns) zero n h e = ap Some e
got (m ∷ ns) (suc i) n h e = got ns i n (omega (arith, h)) e

-- how often a list came is what stands at its number
pub count_at : (k : List ℤ) (ls : List (List ℤ)) (ns : List ℕ) (i n : ℕ) → number_of k ls ≡ Some i → i < length ns → get_or ns i n ≡ n → count_of (by_list ls ns) k ≡ n
count_at k ls ns i n number less e = ap (λ o. unwrap_or o 0) (at_number k ls ns ∙ ap (option_and_then (slice_get ns)) number ∙ got ns i n less e)

-- a list without a number never came
pub count_none : (k : List ℤ) (ls : List (List ℤ)) (ns : List ℕ) → number_of k ls ≡ None → count_of (by_list ls ns) k ≡ 0
count_none k ls ns none = ap (λ o. unwrap_or o 0) (at_number k ls ns ∙ ap (option_and_then (slice_get ns)) none)

by_test : (b : Bool) (n : ℕ) (o : Option ℕ) → unwrap_or (cond b (Some n) o) 0 ≡ cond b n (unwrap_or o 0)
by_test true n o = refl
by_test false n o = refl

-- how often each list came, where one was put
pub counted_at : (m : Tallies) (k q : List ℤ) (n : ℕ) → count_of (insert m k n) q ≡ cond (eq_by_cmp key_cmp q k) n (count_of m q)
counted_at m k q n = ap (λ o. unwrap_or o 0) (get-insert total m k n q) ∙ by_test (eq_by_cmp key_cmp q k) n (get m q)
