-- Fields at the front of some bytes, one after another.
use Rattle.std.proofs.Common.{◌≡◌, ℕ, ◌+◌, ◌<◌, ◌≤◌, List, [], ◌∷◌, ◌++◌, length, take, drop, get_or, true, false, ◌==◌, cond, is_some, unwrap_or, Some, None, ℤ, pos, refl, sym, ◌∙◌, ap, subst, arith, add-one, append_assoc}
use Rattle.std.proofs.Math.Seq.{take-suc, take-add}
use Rattle.std.proofs.lemmas.List.Folds.{list_all-append}
use Rattle.std.proofs.lemmas.Bool.Decides.{nat_tests}
use Rattle.std.proofs.lemmas.Grind.{common_steps}
use Rattle.std.specs.List.{list_all}
use Rattle.saber_plan.specs.Rows.{in_range, number_of, fields_of, onto_field, bad_field, numbers, wide_field}
use Rattle.saber_rows.specs.QuickRows.{is_plain, is_clear, IsNumberAt, Begun, IsRow}
use Rattle.saber_rows.proofs.Digits.{both_true}
use Rattle.saber_rows.proofs.FieldsLemmas.{fields_no_comma, fields_comma}
use Rattle.saber_rows.proofs.QuickNumbers.{and_true, or_left}

not_comma : (c : ℕ) → is_plain c ≡ true → (c == 44) ≡ false
not_comma c e = grind (arith, nat_tests)

fields_field : (f z : List ℕ) → list_all is_plain f ≡ true → fields_of (f ++ 44 ∷ z) ≡ f ∷ fields_of z
fields_field [] z e = fields_comma 44 z refl
fields_field (c ∷ cs) z e = fields_no_comma c (cs ++ 44 ∷ z) (not_comma c (both_true _ _ e).0) ∙ ap (onto_field c) (fields_field cs z (both_true _ _ e).1)

last_field : (f : List ℕ) → list_all is_plain f ≡ true → fields_of f ≡ f ∷ []
unfolding fields_of
last_field [] e = refl
last_field (c ∷ cs) e = fields_no_comma c cs (not_comma c (both_true _ _ e).0) ∙ ap (onto_field c) (last_field cs (both_true _ _ e).1)

pub all_clear : (f : List ℕ) → list_all is_plain f ≡ true → list_all is_clear f ≡ true
all_clear [] e = refl
all_clear (c ∷ cs) e =
    let h = both_true (is_plain c) (list_all is_plain cs) e in
    and_true _ _ (or_left (is_plain c) (c == 44) h.0) (all_clear cs h.1)

module _ (front f : List ℕ) (next : ℕ) (vs : List ℤ) (v : ℤ) (b : Begun front next vs) (plain : list_all is_plain f ≡ true) (number : number_of f ≡ Some v) (range : in_range next v ≡ true) where
  joined : (z : List ℕ) → (front ++ (f ++ 44 ∷ [])) ++ z ≡ front ++ (f ++ 44 ∷ z)
  joined z = append_assoc front (f ++ 44 ∷ []) z ∙ ap (λ x. front ++ x) (append_assoc f (44 ∷ []) z)

  begun_field : Begun (front ++ (f ++ 44 ∷ [])) (next + 1) (vs ++ v ∷ [])
  begun_field = record {
    clear = list_all-append is_clear front (f ++ 44 ∷ []) ∙ and_true _ _ b.clear (list_all-append is_clear f (44 ∷ []) ∙ and_true _ _ (all_clear f plain) refl);
    count = λ z. ap (λ x. length (fields_of x) + 1) (joined z) ∙ b.count (f ++ 44 ∷ z) ∙ ap (λ fs. next + length fs) (fields_field f z plain) ∙ omega arith;
    good = λ z. ap (λ x. bad_field 1 (fields_of x)) (joined z) ∙ b.good (f ++ 44 ∷ z) ∙ ap (bad_field next) (fields_field f z plain)
        ∙ ap (λ o. cond (is_some o) (bad_field (next + 1) (fields_of z)) (Some next)) number;
    values = λ z. ap (λ x. numbers (fields_of x)) (joined z) ∙ b.values (f ++ 44 ∷ z) ∙ ap (λ fs. vs ++ numbers fs) (fields_field f z plain)
        ∙ ap (λ o. vs ++ (unwrap_or o (pos 0) ∷ numbers (fields_of z))) number ∙ sym (append_assoc vs (v ∷ []) (numbers (fields_of z)));
    wide = λ z. ap (λ x. wide_field 1 (numbers (fields_of x))) (joined z) ∙ b.wide (f ++ 44 ∷ z) ∙ ap (λ fs. wide_field next (numbers fs)) (fields_field f z plain)
        ∙ ap (λ o. wide_field next (unwrap_or o (pos 0) ∷ numbers (fields_of z))) number
        ∙ ap (λ t. cond t (wide_field (next + 1) (numbers (fields_of z))) (Some next)) range;
  }

  pub row_field : 1 ≤ length f → length (front ++ f) ≤ 4096 → IsRow next (front ++ f) (vs ++ v ∷ [])
  row_field some most =
      let one = last_field f plain in
      let given : numbers (fields_of (front ++ f)) ≡ vs ++ v ∷ [] = b.values f ∙ ap (λ fs. vs ++ numbers fs) one ∙ ap (λ o. vs ++ (unwrap_or o (pos 0) ∷ [])) number in
      let count : length (fields_of f) ≡ 1 = ap length one in
      record {
        some = grind (arith, common_steps);
        most = most;
        count = omega (arith, b.count f, count);
        good = b.good f ∙ ap (bad_field next) one ∙ ap (λ o. cond (is_some o) None (Some next)) number;
        given = given;
        wide = ap (wide_field 1) (sym given) ∙ b.wide f ∙ ap (λ fs. wide_field next (numbers fs)) one
            ∙ ap (λ o. wide_field next (unwrap_or o (pos 0) ∷ [])) number ∙ ap (λ t. cond t None (Some next)) range;
      }

pub begun_more : (held : List ℕ) (at n next : ℕ) (vs : List ℤ) (v : ℤ) → Begun (take at held) next vs → IsNumberAt (drop at held) v n → in_range next v ≡ true → n < length (drop at held) → get_or (drop at held) n 0 ≡ 44 → Begun (take (at + (n + 1)) held) (next + 1) (vs ++ v ∷ [])
begun_more held at n next vs v b d range within here =
    let front : take (at + (n + 1)) held ≡ take at held ++ (take n (drop at held) ++ 44 ∷ []) =
    take-add at (n + 1) held ∙ ap (λ x. take at held ++ x) (rw add-one (take-suc (drop at held) n 0 within ∙ ap (λ x. take n (drop at held) ++ x ∷ []) here)) in
    subst (λ x. Begun x (next + 1) (vs ++ v ∷ [])) (sym front) (begun_field (take at held) (take n (drop at held)) next vs v b d.plain d.number range)
