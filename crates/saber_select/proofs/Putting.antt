-- One row more of a window after another.
use Rattle.std.proofs.Common.{◌≡◌, ℕ, ◌+◌, ◌≤◌, ◌<◌, List, [], ◌∷◌, ◌++◌, Bool, true, false, cond, ◌&&◌, nat_le, nat_lt, Some, unwrap_or, sym, ◌∙◌, ap, subst, ⊎_elim, arith, nat_cmp}
use Rattle.std.proofs.lemmas.Bool.{cases_eq}
use Rattle.std.proofs.lemmas.Bool.Decides.{nat_tests}
use Rattle.std.specs.Cmp.{nat_cmp_total}
use Rattle.std.specs.Ordering.{eq_by_cmp}
use Rattle.std.specs.FinMap.{get, insert, get-insert}
use Rattle.saber_select.specs.Found.{Found, AllBelow}
use Rattle.saber_select.specs.Open.{Windows, rows_in, AllEarlier, PutsAt, Puts}

pub same_number : (i a : ℕ) → i ≡ a → eq_by_cmp nat_cmp i a ≡ true
same_number i a e = grind (arith, nat_tests)

pub other_number : (i a : ℕ) → (i ≡ a → ⊥) → eq_by_cmp nat_cmp i a ≡ false
other_number i a e = grind (arith, nat_tests)

row_put : (m : Windows) (k : ℕ) (h : List Found) (i : ℕ) (b : Bool) → eq_by_cmp nat_cmp i k ≡ b → rows_in (insert m k h) i ≡ cond b h (rows_in m i)
row_put m k h i true e = ap (λ o. unwrap_or o []) (get-insert nat_cmp_total m k h i ∙ ap (λ b. cond b (Some h) (get m i)) e)
row_put m k h i false e = ap (λ o. unwrap_or o []) (get-insert nat_cmp_total m k h i ∙ ap (λ b. cond b (Some h) (get m i)) e)

-- an empty range changes none
pub range_empty : (es : List Found) (first : ℕ) (m : Windows) → Puts es first first m m
range_empty es first m = record { at = λ i. let none : (nat_le first i && nat_lt i first) ≡ false = grind (arith, nat_tests) in sym (ap (λ b. cond b (rows_in m i ++ es) (rows_in m i)) none) }

-- a window behind the range is as it was
pub not_yet : (es : List Found) (first k : ℕ) (m n : Windows) → Puts es first k m n → rows_in n k ≡ rows_in m k
not_yet es first k m n c = let out : (nat_le first k && nat_lt k k) ≡ false = grind (arith, nat_tests) in c.at k ∙ ap (λ b. cond b (rows_in m k ++ es) (rows_in m k)) out

pub still_below : (es : List Found) (first k p : ℕ) (m n : Windows) → Puts es first k m n → AllEarlier p m → AllBelow p (rows_in n k)
still_below es first k p m n c h = subst (AllBelow p) (sym (not_yet es first k m n c)) (h.at k)

-- one window more
pub one_put : (e : Found) (first k : ℕ) (m n o : Windows) → first ≤ k → Puts (e ∷ []) first k m n → PutsAt e k n o → Puts (e ∷ []) first (k + 1) m o
one_put e first k m n o l c put = record {
  at = λ i. ap (λ w. rows_in w i) put ∙ ⊎_elim
      (λ s.
      let in_range : (nat_le first i && nat_lt i (k + 1)) ≡ true = grind (arith, nat_tests) in
      row_put n k (rows_in n k ++ e ∷ []) i true (same_number i k s) ∙ ap (λ r. r ++ e ∷ []) (not_yet (e ∷ []) first k m n c) ∙ ap (λ j. rows_in m j ++ e ∷ []) (sym s) ∙ sym (ap (λ b. cond b (rows_in m i ++ e ∷ []) (rows_in m i)) in_range))
      (λ s.
      let same : (nat_le first i && nat_lt i k) ≡ (nat_le first i && nat_lt i (k + 1)) = grind (arith, nat_tests) in
      row_put n k (rows_in n k ++ e ∷ []) i false (other_number i k s) ∙ c.at i ∙ ap (λ b. cond b (rows_in m i ++ e ∷ []) (rows_in m i)) same)
      (cases_eq i k);
}

-- and the range is done, also where it is empty
pub all_put : (es : List Found) (first k past : ℕ) (m n : Windows) → past ≤ k → first ≤ k → (first ≤ past → k ≤ past) → (past < first → k ≤ first) → Puts es first k m n → Puts es first past m n
all_put es first k past m n l g h e c = record {
  at = λ i. let same : (nat_le first i && nat_lt i k) ≡ (nat_le first i && nat_lt i past) = grind (arith, nat_tests) in c.at i ∙ ap (λ b. cond b (rows_in m i ++ es) (rows_in m i)) same;
}
