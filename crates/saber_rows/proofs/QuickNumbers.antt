-- Digits and numbers at the front of some bytes.
use Rattle.std.proofs.Common.{◌≡◌, ◌≢◌, ℕ, zero, suc, ◌+◌, ◌-◌, ◌*◌, ◌%◌, ◌^◌, ◌<◌, ◌≤◌, List, [], ◌∷◌, length, take, drop, get_or, Bool, true, false, ◌&&◌, ◌||◌, ◌==◌, cond, Some, ℤ, pos, neg_ℤ, int_le, ◌-ℤ◌, to_z, of_z, w64, subst, refl, sym, ◌∙◌, ap, arith, add-one, length-take}
use Rattle.std.proofs.lemmas.List.{length-take-le, take-take, get_or-take}
use Rattle.std.proofs.lemmas.List.Folds.{list_all_more}
use Rattle.std.proofs.lemmas.Int.{ints, to_z_pos, to_z-of_z}
use Rattle.std.proofs.lemmas.Int.Digits.{digits_value_more}
use Rattle.std.proofs.lemmas.Bool.Decides.{nat_tests}
use Rattle.std.proofs.lemmas.Str.{digit_value_digit}
use Rattle.std.proofs.lemmas.Str.Parse.{IsDigitsTest, numerals_by_value, digits_value_short}
use Rattle.std.specs.Char.{is_ascii_digit}
use Rattle.std.specs.Int.{IsInRange}
use Rattle.std.specs.List.{list_all}
use Rattle.std.specs.Str.Parse.{digits_value}
use Rattle.saber_plan.specs.Rows.{in_range, is_digits, if_digits, number_of}
use Rattle.saber_rows.specs.QuickRows.{AreDigits, EndDigits, is_plain, IsNumberAt}
use Rattle.saber_rows.proofs.Digits.{both_true, in_digits, if_digits_true}

pub and_true : (a b : Bool) → a ≡ true → b ≡ true → a && b ≡ true
and_true a b e f = rw (e, f) refl

pub or_left : (a b : Bool) → a ≡ true → a || b ≡ true
or_left a b e = rw e refl

is_digit : (c : ℕ) → IsInRange 48 57 c → is_ascii_digit c ≡ true
is_digit c h = grind (arith, nat_tests)

tests : IsDigitsTest (λ ds. list_all is_ascii_digit ds ≡ true)
tests = record {
  empty = refl;
  parts = λ c cs e. (in_digits c (both_true _ _ e).0, (both_true _ _ e).1);
  more = λ c cs k e. and_true _ _ (is_digit c k) e;
}

digits_small : (ds : List ℕ) → list_all is_ascii_digit ds ≡ true → length ds ≤ 18 → digits_value 10 ds < 10 ^ 18
digits_small ds e h = digits_value_short (numerals_by_value (λ ds. list_all is_ascii_digit ds ≡ true) tests) ds 18 e h

one_digit_more : (bytes : List ℕ) (size i : ℕ) → AreDigits bytes size i → i < length bytes → i + 1 ≤ 18 → is_ascii_digit (get_or bytes i 0) ≡ true → AreDigits bytes (size * 10 + (get_or bytes i 0 - 48)) (i + 1)
one_digit_more bytes size i d h k e =
    let all : list_all is_ascii_digit (take (i + 1) bytes) ≡ true = list_all_more is_ascii_digit bytes i 0 h ∙ and_true _ _ d.digits e in
    let digit : IsInRange 48 57 (get_or bytes i 0) = in_digits (get_or bytes i 0) e in
    let value : size * 10 + (get_or bytes i 0 - 48) ≡ digits_value 10 (take (i + 1) bytes) = omega (arith, d.value, digits_value_more 10 bytes i h, digit_value_digit (get_or bytes i 0) digit, digit) in
    record {
      within = omega arith;
      digits = all;
      value = value;
      small = omega (arith, value, digits_small (take (i + 1) bytes) all (omega (arith, length-take (i + 1) bytes)));
    }

-- the same as the code writes the number: it does not wrap
pub digit_more : (held : List ℕ) (i size digit : ℕ) → AreDigits held size i → i < length held → i + 1 ≤ 18
    → get_or held i 0 < 256 → digit ≡ (get_or held i 0 + 18446744073709551568) % 2 ^ 64 → digit ≤ 9 → AreDigits held ((size * 10 % 2 ^ 64 + digit) % 2 ^ 64) (i + 1)
digit_more held i size digit d inside few byte own low =
    let range : IsInRange 48 57 (get_or held i 0) = (omega (arith, byte, own, low), omega (arith, byte, own, low)) in
    let number : size * 10 + (get_or held i 0 - 48) ≡ (size * 10 % 2 ^ 64 + digit) % 2 ^ 64 = omega (arith, d.small, own, range) in
    subst (λ n. AreDigits held n (i + 1)) number (one_digit_more held size i d inside few (is_digit _ range))

-- digits among the first so many bytes are digits of all
pub digits_of_front : (k : ℕ) (held : List ℕ) (size n next : ℕ) → EndDigits (take k held) size n next → EndDigits held size n next
digits_of_front k held size n next d =
    let small : n < k = omega (arith, d.inside, length-take k held) in
    let same : take n (take k held) ≡ take n held = take-take n k held (omega arith) in
    let len : length (take k held) ≤ length held = omega (arith, length-take k held) in
    record {
      inside = omega (arith, d.inside, len);
      digits = record {
        within = omega (arith, d.inside, len);
        digits = ap (list_all is_ascii_digit) (sym same) ∙ d.digits.digits;
        value = d.digits.value ∙ ap (digits_value 10) same;
        small = d.digits.small;
      };
      next_is = d.next_is ∙ get_or-take k held n 0 small;
    }

-- ---- numbers

all_plain : (ds : List ℕ) → list_all is_ascii_digit ds ≡ true → list_all is_plain ds ≡ true
all_plain [] e = refl
all_plain (c ∷ cs) e =
    let h = both_true (is_ascii_digit c) (list_all is_ascii_digit cs) e in
    and_true _ _ (or_left (is_ascii_digit c) (c == 45) h.0) (all_plain cs h.1)

some_digits : (ds : List ℕ) → 1 ≤ length ds → list_all is_ascii_digit ds ≡ true → is_digits ds ≡ true
some_digits ds h e = and_true _ _ (grind (arith, nat_tests)) e

number_plain : (f : List ℕ) → 1 ≤ length f → list_all is_ascii_digit f ≡ true → number_of f ≡ Some (pos (digits_value 10 f))
number_plain [] h e = absurd (omega arith)
number_plain (c ∷ cs) h e =
    let digit : IsInRange 48 57 c = in_digits c (both_true (is_ascii_digit c) (list_all is_ascii_digit cs) e).0 in
    let minus : (c == 45) ≡ false = grind (arith, nat_tests) in
    ap (λ b. cond b (if_digits (drop 1 (c ∷ cs)) (neg_ℤ (pos (digits_value 10 (drop 1 (c ∷ cs)))))) (if_digits (c ∷ cs) (pos (digits_value 10 (c ∷ cs))))) minus
    ∙ if_digits_true (c ∷ cs) _ (some_digits (c ∷ cs) h e)

number_minus : (ds : List ℕ) → 1 ≤ length ds → list_all is_ascii_digit ds ≡ true → number_of (45 ∷ ds) ≡ Some (neg_ℤ (pos (digits_value 10 ds)))
number_minus ds h e = if_digits_true ds _ (some_digits ds h e)

plain_range : (n : ℕ) → n < 10 ^ 18 → in_range 2 (pos n) ≡ true
plain_range n h = grind (arith, ints, nat_tests)

plain_time : (n : ℕ) → n < 10 ^ 18 → in_range 1 (pos n) ≡ true
plain_time n h = grind (arith, ints, nat_tests)

minus_range : (n : ℕ) → n < 10 ^ 18 → in_range 2 (neg_ℤ (pos n)) ≡ true
minus_range n h = grind (arith, ints, nat_tests)

minus_time : (n : ℕ) → int_le (pos 0) (neg_ℤ (pos n)) ≡ true → in_range 1 (neg_ℤ (pos n)) ≡ true
minus_time zero e = refl
minus_time (suc n) e = grind (arith, ints, nat_tests)

plain_number : (bytes : List ℕ) (size n : ℕ) → AreDigits bytes size n → n ≢ 0 → IsNumberAt bytes (pos size) n
plain_number bytes size n d h =
    let len : length (take n bytes) ≡ n = length-take-le n bytes d.within in
    record {
      within = d.within;
      some = omega arith;
      plain = all_plain (take n bytes) d.digits;
      number = number_plain (take n bytes) (omega arith) d.digits ∙ ap (λ k. Some (pos k)) (sym d.value);
      range = plain_range size d.small;
      time = λ _. plain_time size d.small;
    }

minus_number : (bytes : List ℕ) (size n : ℕ) → 0 < length bytes → get_or bytes 0 0 ≡ 45 → AreDigits (drop 1 bytes) size n → n ≢ 0 → IsNumberAt bytes (neg_ℤ (pos size)) (n + 1)
minus_number [] size n some first d h = absurd (omega arith)
minus_number (c ∷ cs) size n some first d h =
    let len : length (take n cs) ≡ n = length-take-le n cs d.within in
    let front : take (n + 1) (c ∷ cs) ≡ 45 ∷ take n cs = rw add-one (ap (λ x. x ∷ take n cs) first) in
    record {
      within = omega (arith, d.within);
      some = omega arith;
      plain = ap (list_all is_plain) front ∙ all_plain (take n cs) d.digits;
      number = ap number_of front ∙ number_minus (take n cs) (omega arith) d.digits ∙ ap (λ k. Some (neg_ℤ (pos k))) (sym d.value);
      range = minus_range size d.small;
      time = minus_time size;
    }

in_other : (k : ℕ) (z : ℤ) → k ≢ 1 → in_range k z ≡ in_range 2 z
in_other k z h =
    let other : (k == 1) ≡ false = grind (arith, nat_tests) in
    ap (λ b. cond b (in_range 1 z) (in_range 2 z)) other

in_column : (bytes : List ℕ) (z : ℤ) (n k : ℕ) → IsNumberAt bytes z n → (k ≡ 1 → int_le (pos 0) z ≡ true) → in_range k z ≡ true
in_column bytes z n k d h = by_test (k == 1) refl where
  by_test : (b : Bool) → (k == 1) ≡ b → in_range k z ≡ true
  by_test true e = let one : k ≡ 1 = grind (arith, nat_tests) in ap (λ j. in_range j z) one ∙ d.time (h one)
  by_test false e = in_other k z (grind (arith, nat_tests)) ∙ d.range

-- what the code writes for a number behind a minus
minus_value : (n : ℕ) → n < 10 ^ 18 → to_z w64 (of_z w64 (pos 0 -ℤ to_z w64 n)) ≡ neg_ℤ (pos n)
minus_value n h =
    let small : n < 2 ^ 63 = omega arith in
    ap (λ z. to_z w64 (of_z w64 (pos 0 -ℤ z))) (to_z_pos w64 n small) ∙ to_z-of_z w64 (pos 0 -ℤ pos n) (grind (arith, ints)) ∙ grind (arith, ints)

-- ---- fields

pub plain_field : (bytes : List ℕ) (size n k : ℕ) → AreDigits bytes size n → n ≢ 0 → IsNumberAt bytes (to_z w64 size) n × (in_range k (to_z w64 size) ≡ true)
plain_field bytes size n k d h =
    let number = plain_number bytes size n d h in
    let value : pos size ≡ to_z w64 size = sym (to_z_pos w64 size (omega (arith, d.small))) in
    subst (λ z. IsNumberAt bytes z n × (in_range k z ≡ true)) value (number, in_column bytes (pos size) n k number (λ _. grind (arith, ints, nat_tests)))

pub minus_field : (bytes : List ℕ) (size n k : ℕ) → 0 < length bytes → get_or bytes 0 0 ≡ 45 → n ≢ 0 → k ≢ 1 → AreDigits (drop 1 bytes) size n
    → IsNumberAt bytes (to_z w64 (of_z w64 (pos 0 -ℤ to_z w64 size))) (n + 1) × (in_range k (to_z w64 (of_z w64 (pos 0 -ℤ to_z w64 size))) ≡ true)
minus_field bytes size n k inside first some other d =
    let number = minus_number bytes size n inside first d some in
    subst (λ z. IsNumberAt bytes z (n + 1) × (in_range k z ≡ true)) (sym (minus_value size d.small)) (number, in_column bytes (neg_ℤ (pos size)) (n + 1) k number (λ one. absurd (other one)))
