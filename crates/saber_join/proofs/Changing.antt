-- One window after another changed.
use Rattle.std.proofs.Common.{◌≡◌, ℕ, ◌+◌, ◌≤◌, ◌<◌, Bool, true, false, cond, ◌&&◌, nat_le, nat_lt, Some, unwrap_or, sym, ◌∙◌, ap, ⊎_elim, arith, nat_cmp}
use Rattle.std.proofs.lemmas.Bool.{cases_eq}
use Rattle.std.proofs.lemmas.Bool.Decides.{nat_tests}
use Rattle.std.specs.Cmp.{nat_cmp_total}
use Rattle.std.specs.Ordering.{eq_by_cmp}
use Rattle.std.specs.FinMap.{get, insert, get-insert}
use Rattle.saber_plan.specs.Parts.{Part, no_part}
use Rattle.saber_join.specs.Open.{Windows, pairs_in, Changed}

pub same_number : (i a : ℕ) → i ≡ a → eq_by_cmp nat_cmp i a ≡ true
same_number i a e = grind (arith, nat_tests)

pub other_number : (i a : ℕ) → (i ≡ a → ⊥) → eq_by_cmp nat_cmp i a ≡ false
other_number i a e = grind (arith, nat_tests)

pair_put : (m : Windows) (k : ℕ) (h : Part) (i : ℕ) (b : Bool) → eq_by_cmp nat_cmp i k ≡ b → pairs_in (insert m k h) i ≡ cond b h (pairs_in m i)
pair_put m k h i true e = ap (λ o. unwrap_or o no_part) (get-insert nat_cmp_total m k h i ∙ ap (λ b. cond b (Some h) (get m i)) e)
pair_put m k h i false e = ap (λ o. unwrap_or o no_part) (get-insert nat_cmp_total m k h i ∙ ap (λ b. cond b (Some h) (get m i)) e)

-- an empty range changes none
pub range_empty : (f : ℕ → Part → Part) (first past : ℕ) (m : Windows) → past ≤ first → Changed f first past m m
range_empty f first past m l = record { at = λ i. let none : (nat_le first i && nat_lt i past) ≡ false = grind (arith, nat_tests) in sym (ap (λ b. cond b (f i (pairs_in m i)) (pairs_in m i)) none) }

-- one window more
pub one_changed : (f : ℕ → Part → Part) (first k : ℕ) (m n : Windows) → first ≤ k → Changed f first k m n → Changed f first (k + 1) m (insert n k (f k (pairs_in n k)))
one_changed f first k m n l c = record {
  at = λ i. ⊎_elim
      (λ e.
      let out : (nat_le first k && nat_lt k k) ≡ false = grind (arith, nat_tests) in
      let in_range : (nat_le first i && nat_lt i (k + 1)) ≡ true = grind (arith, nat_tests) in
      pair_put n k (f k (pairs_in n k)) i true (same_number i k e) ∙ ap (f k) (c.at k ∙ ap (λ b. cond b (f k (pairs_in m k)) (pairs_in m k)) out) ∙ ap (λ j. f j (pairs_in m j)) (sym e) ∙ sym (ap (λ b. cond b (f i (pairs_in m i)) (pairs_in m i)) in_range))
      (λ e.
      let same : (nat_le first i && nat_lt i k) ≡ (nat_le first i && nat_lt i (k + 1)) = grind (arith, nat_tests) in
      pair_put n k (f k (pairs_in n k)) i false (other_number i k e) ∙ c.at i ∙ ap (λ b. cond b (f i (pairs_in m i)) (pairs_in m i)) same)
      (cases_eq i k);
}

-- and the range is done, also where it is empty
pub all_changed : (f : ℕ → Part → Part) (first k past : ℕ) (m n : Windows) → past ≤ k → first ≤ k → (first ≤ past → k ≤ past) → (past < first → k ≤ first) → Changed f first k m n → Changed f first past m n
all_changed f first k past m n l g h e c = record {
  at = λ i. let same : (nat_le first i && nat_lt i k) ≡ (nat_le first i && nat_lt i past) = grind (arith, nat_tests) in c.at i ∙ ap (λ b. cond b (f i (pairs_in m i)) (pairs_in m i)) same;
}

both_same : {X : Type 0} (b : Bool) (x : X) → x ≡ cond b x x
both_same true x = λ i. x
both_same false x = λ i. x

-- nothing that changes no part
pub none_changed : (f : ℕ → Part → Part) (first past : ℕ) (m : Windows) → ((i : ℕ) (p : Part) → f i p ≡ p) → Changed f first past m m
none_changed f first past m h = record { at = λ i. both_same (nat_le first i && nat_lt i past) (pairs_in m i) ∙ ap (λ p. cond (nat_le first i && nat_lt i past) p (pairs_in m i)) (sym (h i (pairs_in m i))) }

-- the same change
pub changed_same : (f g : ℕ → Part → Part) (first past : ℕ) (m n : Windows) → ((i : ℕ) (p : Part) → f i p ≡ g i p) → Changed f first past m n → Changed g first past m n
changed_same f g first past m n h c = record { at = λ i. c.at i ∙ ap (λ p. cond (nat_le first i && nat_lt i past) p (pairs_in m i)) (h i (pairs_in m i)) }
