-- What cancels none, by counts.
use Rattle.std.proofs.Common.{◌≡◌, ℕ, suc, ◌+◌, ◌-◌, ◌≤◌, ◌<◌, List, [], ◌∷◌, ◌++◌, length, drop, get_or, Bool, true, false, ◌||◌, cond, nat_lt, ℤ, pos, refl, sym, ◌∙◌, ap, subst, append_assoc, arith}
use Rattle.std.proofs.lemmas.Bool.{both_ways, lt-ltb}
use Rattle.std.proofs.lemmas.List.{drop_more}
use Rattle.std.specs.Cmp.{tied_itself}
use Rattle.std.specs.Ordering.{is_eq}
use Rattle.std.specs.List.{list_any}
use Rattle.saber_plan.specs.Answers.{Answers, line, same_line, without, uncancelled_answers, answer_lines}
use Rattle.saber_plan.specs.Facts.Maps.{equal_if}
use Rattle.saber_plan.specs.Facts.Parts.{total, exact}
use Rattle.saber_changes.specs.Counts.{times, one_less, by_counts}

-- ---- equal lines

pub same : (k l : List ℤ) → same_line k l ≡ true → k ≡ l
same k l e = exact k l (equal_if _ e)

pub itself : (k : List ℤ) → same_line k k ≡ true
itself k = ap is_eq (tied_itself total k)

-- ---- one line less

-- a line is among others where it comes at least once
any_is : (k : List ℤ) (ls : Answers) → list_any (same_line k) ls ≡ nat_lt 0 (times k ls)
any_is k [] = refl
any_is k (l ∷ ls) = elim (same_line k l) as (λ b. b || list_any (same_line k) ls ≡ nat_lt 0 (cond b (suc (times k ls)) (times k ls))) [
  | true ↦ sym (lt-ltb 0 (suc (times k ls)) (omega arith))
  | false ↦ any_is k ls
]

none_less : (b : Bool) → 0 ≡ cond b (0 - 1) 0
none_less true = refl
none_less false = refl

same_less : (b : Bool) (t : ℕ) → t ≡ cond b (cond b (suc t) t - 1) (cond b (suc t) t)
same_less true t = omega arith
same_less false t = refl

other_less : (b c : Bool) (t u : ℕ) → (b ≡ true → c ≡ true → ⊥) → u ≡ cond b (t - 1) t → cond c (suc u) u ≡ cond b (cond c (suc t) t - 1) (cond c (suc t) t)
other_less true true t u h e = absurd (h refl refl)
other_less true false t u h e = e
other_less false c t u h e = ap (λ n. cond c (suc n) n) e

apart : (k l m : List ℤ) → same_line k m ≡ false → same_line l k ≡ true → same_line l m ≡ true → ⊥
apart k l m f a b = both_ways _ (sym (subst (λ x. same_line x m ≡ true) (same l k a) b) ∙ f) refl

less_case : (k l m : List ℤ) (ms : Answers) (b : Bool) → same_line k m ≡ b → times l (without k ms) ≡ one_less (λ x. times x ms) k l
    → times l (cond b ms (m ∷ without k ms)) ≡ one_less (λ x. times x (m ∷ ms)) k l
less_case k l m ms true e h = subst (λ x. times l ms ≡ cond (same_line l k) (cond (same_line l x) (suc (times l ms)) (times l ms) - 1) (cond (same_line l x) (suc (times l ms)) (times l ms))) (same k m e) (same_less (same_line l k) (times l ms))
less_case k l m ms false e h = other_less (same_line l k) (same_line l m) (times l ms) (times l (without k ms)) (apart k l m e) h

-- how often a line comes, once one of a line is taken out
without_is : (k l : List ℤ) (ls : Answers) → times l (without k ls) ≡ one_less (λ x. times x ls) k l
without_is k l [] = none_less (same_line l k)
without_is k l (m ∷ ms) = less_case k l m ms (same_line k m) refl (without_is k l ms)

-- the definition, by counts
pub counts_cancel : (ks others : Answers) → uncancelled_answers ks others ≡ by_counts ks (λ k. times k others)
counts_cancel [] others = refl
counts_cancel (k ∷ ks) others = λ i. cond (any_is k others i)
    ((counts_cancel ks (without k others) ∙ ap (by_counts ks) (λ j l. without_is k l others j)) i)
    (k ∷ counts_cancel ks others i)

-- no line comes more often than there are lines
pub few : (k : List ℤ) (ls : Answers) → times k ls ≤ length ls
few k [] = omega arith
few k (l ∷ ls) = let rest = few k ls in elim (same_line k l) as (λ b. cond b (suc (times k ls)) (times k ls) ≤ suc (length ls)) [
  | true ↦ omega (arith, rest)
  | false ↦ omega (arith, rest)
]

-- ---- one line after another

-- the next of some lines, and those behind it
pub next_line : (ls : Answers) (i : ℕ) (x : List ℤ) → i < length ls → x ≡ get_or ls i x → drop i ls ≡ x ∷ drop (i + 1) ls
next_line ls i x h e = drop_more ls i x h ∙ ap (λ y. y ∷ drop (i + 1) ls) (sym e)

-- it cancels one that is left
pub cancels : (w : ℕ) (out all_out : List ℕ) (k : List ℤ) (all ks : Answers) (n m : List ℤ → ℕ) → all ≡ k ∷ ks → true ≡ nat_lt 0 (n k) → ((l : List ℤ) → m l ≡ one_less n k l)
    → out ++ answer_lines w (by_counts all n) ≡ all_out → out ++ answer_lines w (by_counts ks m) ≡ all_out
cancels w out all_out k all ks n m a e h t =
    ap (λ ls. out ++ answer_lines w ls) (ap (by_counts ks) (λ i l. h l i) ∙ sym (ap (λ ls. by_counts ls n) a ∙ ap (λ b. cond b (by_counts ks (one_less n k)) (k ∷ by_counts ks n)) (sym e))) ∙ t

-- or it is written
pub is_written : (w : ℕ) (out new all_out : List ℕ) (k : List ℤ) (all ks : Answers) (n m : List ℤ → ℕ) → all ≡ k ∷ ks → false ≡ nat_lt 0 (n k) → ((l : List ℤ) → m l ≡ n l)
    → new ≡ out ++ line (pos w ∷ k) → out ++ answer_lines w (by_counts all n) ≡ all_out → new ++ answer_lines w (by_counts ks m) ≡ all_out
is_written w out new all_out k all ks n m a e h written t =
    ap (λ o. o ++ answer_lines w (by_counts ks m)) written ∙ append_assoc out (line (pos w ∷ k)) (answer_lines w (by_counts ks m))
    ∙ ap (λ ls. out ++ answer_lines w ls) (ap (λ f. k ∷ by_counts ks f) (λ i l. h l i) ∙ sym (ap (λ ls. by_counts ls n) a ∙ ap (λ b. cond b (by_counts ks (one_less n k)) (k ∷ by_counts ks n)) (sym e))) ∙ t

-- so no line that is counted so far fills the count
pub few_here : (k : List ℤ) (whole all ks : Answers) (n : List ℤ → ℕ) → all ≡ k ∷ ks → n k + times k all ≡ times k whole → n k < length whole
few_here k whole all ks n a e =
    let most = few k whole in
    let one : times k all ≡ suc (times k ks) = ap (times k) a ∙ ap (λ b. cond b (suc (times k ks)) (times k ks)) (itself k) in
    omega (arith, most, one, e)
