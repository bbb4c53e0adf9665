-- A whole row at the front of some bytes.
use Rattle.std.proofs.Common.{◌≡◌, ℕ, zero, suc, ◌+◌, ◌-◌, ◌<◌, ◌≤◌, List, [], ◌∷◌, ◌++◌, length, take, drop, get_or, slice_index, Bool, true, false, not, ◌==◌, cond, ℤ, inl, inr, refl, sym, ◌∙◌, ap, subst, arith, add-one}
use Rattle.std.proofs.Math.Seq.{take-suc, take-add, take-append_seam}
use Rattle.std.proofs.lemmas.List.{length-take-le}
use Rattle.std.proofs.lemmas.List.Folds.{list_all-append}
use Rattle.std.proofs.lemmas.Bool.Decides.{nat_tests}
use Rattle.std.proofs.lemmas.Grind.{common_steps}
use Rattle.std.specs.List.{list_all}
use Rattle.saber_plan.specs.Rows.{in_range, without_cr, onto_line}
use Rattle.saber_rows.specs.LineFeeds.{IsLine}
use Rattle.saber_rows.specs.QuickRows.{is_clear, IsNumberAt, Begun, IsRow, IsRowAt, IsFeedBehind}
use Rattle.saber_rows.proofs.Digits.{both_true}
use Rattle.saber_rows.proofs.LineFeedsLemmas.{Scanned, no_feed, scanned_line}
use Rattle.saber_rows.proofs.QuickNumbers.{and_true}
use Rattle.saber_rows.proofs.QuickFields.{all_clear, row_field}

abbrev not_feed : ℕ → Bool
not_feed b = not (b == 10)

clear_not_feed : (c : ℕ) → is_clear c ≡ true → not_feed c ≡ true
clear_not_feed c e = grind (arith, nat_tests)

clear_not_cr : (c : ℕ) → is_clear c ≡ true → (c == 13) ≡ false
clear_not_cr c e = grind (arith, nat_tests)

all_not_feed : (xs : List ℕ) → list_all is_clear xs ≡ true → list_all not_feed xs ≡ true
all_not_feed [] e = refl
all_not_feed (c ∷ cs) e = and_true _ _ (clear_not_feed c (both_true _ _ e).0) (all_not_feed cs (both_true _ _ e).1)

at_each : (xs : List ℕ) (i : ℕ) → list_all is_clear xs ≡ true → i < length xs → is_clear (get_or xs i 0) ≡ true
at_each [] i e h = absurd (omega arith)
at_each (x ∷ xs) zero e h = (both_true _ _ e).0
at_each (x ∷ xs) (suc i) e h = at_each xs i (both_true _ _ e).1 (omega arith)

not_true : (b : Bool) → not b ≡ true → b ≡ false
not_true true e = cc
not_true false e = refl

scanned_clear : (held : List ℕ) (i : ℕ) → list_all not_feed (take i held) ≡ true → Scanned held i
scanned_clear held zero e z = refl
scanned_clear [] (suc i) e z = refl
scanned_clear (c ∷ cs) (suc i) e z = no_feed c (cs ++ z) (not_true _ (both_true _ _ e).0) ∙ ap (λ ls. onto_line c ls) (scanned_clear cs i (both_true _ _ e).1 z)

a_line : (held : List ℕ) (i : ℕ) → i < length held → get_or held i 0 ≡ 10 → list_all not_feed (take i held) ≡ true → IsLine held i
a_line held i h feed e = scanned_line held i h (grind (arith, nat_tests)) (scanned_clear held i e)

no_cr : (xs : List ℕ) → list_all is_clear xs ≡ true → 1 ≤ length xs → without_cr xs ≡ xs
no_cr xs e h = ap (λ b. cond b (take (length xs - 1) xs) xs) (clear_not_cr _ (at_each xs (length xs - 1) e (omega arith)))

last_of : (xs : List ℕ) (c : ℕ) → get_or (xs ++ c ∷ []) (length xs) 0 ≡ c
last_of [] c = refl
last_of (x ∷ xs) c = last_of xs c

a_cr : (xs : List ℕ) → without_cr (xs ++ 13 ∷ []) ≡ xs
a_cr xs =
    let len : length (xs ++ 13 ∷ []) - 1 ≡ length xs = grind (arith, common_steps) in
    let cr : slice_index (xs ++ 13 ∷ []) (length (xs ++ 13 ∷ []) - 1) ≡ 13 = ap (λ i. get_or (xs ++ 13 ∷ []) i 0) len ∙ last_of xs 13 in
    let is_cr : (slice_index (xs ++ 13 ∷ []) (length (xs ++ 13 ∷ []) - 1) == 13) ≡ true = grind (arith, nat_tests) in
    ap (λ b. cond b (take (length (xs ++ 13 ∷ []) - 1) (xs ++ 13 ∷ [])) (xs ++ 13 ∷ [])) is_cr ∙ ap (λ k. take k (xs ++ 13 ∷ [])) len ∙ take-append_seam xs (13 ∷ [])

-- a row whose content ends here, and the line behind it
row_line : (columns : ℕ) (held : List ℕ) (vs : List ℤ) (end feed : ℕ) → end ≤ length held → list_all is_clear (take end held) ≡ true → IsRow columns (take end held) vs → IsFeedBehind held end feed → IsRowAt columns held vs feed
row_line columns held vs end feed within clear row behind = elim behind.behind as (λ _. IsRowAt columns held vs feed) [
  | inl e ↦ plain e
  | inr e ↦ with_cr e.0 e.1
] where
  plain : feed ≡ end → IsRowAt columns held vs feed
  plain e = record {
    inside = behind.inside;
    line = a_line held feed behind.inside behind.feed (ap (λ k. list_all not_feed (take k held)) e ∙ all_not_feed (take end held) clear);
    row = subst (λ x. IsRow columns x vs) (sym (ap (λ k. without_cr (take k held)) e ∙ no_cr (take end held) clear row.some)) row;
  }

  with_cr : feed ≡ end + 1 → get_or held end 0 ≡ 13 → IsRowAt columns held vs feed
  with_cr e cr =
      let inside : end < length held = omega (arith, behind.inside) in
      let front : take feed held ≡ take end held ++ 13 ∷ [] = ap (λ k. take k held) e ∙ rw add-one (take-suc held end 0 inside ∙ ap (λ x. take end held ++ x ∷ []) cr) in
      record {
        inside = behind.inside;
        line = a_line held feed behind.inside behind.feed (ap (list_all not_feed) front ∙ list_all-append not_feed (take end held) (13 ∷ []) ∙ and_true _ _ (all_not_feed (take end held) clear) refl);
        row = subst (λ x. IsRow columns x vs) (sym (ap without_cr front ∙ a_cr (take end held))) row;
      }

pub row_ends : (columns : ℕ) (held : List ℕ) (vs : List ℤ) (v : ℤ) (at n feed : ℕ) → Begun (take at held) columns vs → at + n ≤ length held → IsNumberAt (drop at held) v n → in_range columns v ≡ true → at + n ≤ 4096 → IsFeedBehind held (at + n) feed → IsRowAt columns held (vs ++ v ∷ []) feed
row_ends columns held vs v at n feed b within d range most behind =
    let f : List ℕ = take n (drop at held) in
    let front : take (at + n) held ≡ take at held ++ f = take-add at n held in
    let joined : length (take at held ++ f) ≡ at + n = ap length (sym front) ∙ length-take-le (at + n) held within in
    let some : 1 ≤ length f = omega (arith, d.some, length-take-le n (drop at held) d.within) in
    let row = row_field (take at held) f columns vs v b d.plain d.number range some (omega (arith, joined)) in
    let clear : list_all is_clear (take (at + n) held) ≡ true = ap (list_all is_clear) front ∙ list_all-append is_clear (take at held) f ∙ and_true _ _ b.clear (all_clear f d.plain) in
    row_line columns held (vs ++ v ∷ []) (at + n) feed within clear (subst (λ x. IsRow columns x (vs ++ v ∷ [])) (sym front) row) behind
