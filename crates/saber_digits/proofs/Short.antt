-- Numbers below 1,000 as the table has them, and bytes written one behind another.
use Rattle.std.proofs.Common.{◌≡◌, ℕ, zero, suc, ◌+◌, ◌-◌, ◌*◌, ◌/◌, ◌%◌, ◌^◌, ◌≤◌, ◌<◌, Bool, true, false, ◌&&◌, T, eqb, List, [], ◌∷◌, ◌++◌, length, length-set, get_or, take, drop, set, inl, inr, refl, subst, append-nil, eq-zero-or-pos, eqb→eq, sym, ◌∙◌, ap, append_assoc, arith}
use lib.Ieee.Fits.{and_l, and_r}
use Rattle.std.proofs.lemmas.Fmt.{decimal_digit, decimal_step}
use borrow.Rule.Slice.PartMut.{put_mid}
use Rattle.std.proofs.Math.Seq.{take-append-add}
use Rattle.std.proofs.lemmas.List.{get_or-drop, length-take-le, take-set-le, take-take}
use Rattle.std.proofs.lemmas.Slice.{take-put_mid}
use Rattle.std.proofs.lemmas.Grind.{take-set_at}
use Rattle.std.specs.Fmt.{decimal}
use Rattle.itoa.proofs.Decimal.{decimal_two, decimal_pair}
use Rattle.saber_digits.specs.declared.lines.TheConstants.{SHORT}

-- a byte of what the table has of a number
abbrev pub byte : ℕ → ℕ → ℕ
byte n k = get_or SHORT (n * 4 + k) 0

abbrev pub four_of : ℕ → List ℕ
four_of n = get_or SHORT (n * 4) 0 ∷ byte n 1 ∷ byte n 2 ∷ byte n 3 ∷ []

-- a test of four bytes of the table and the number that they are of
abbrev Test : Type 0
Test = ℕ → ℕ → ℕ → ℕ → ℕ → Bool

-- one walk over the table: the test of each number from n on, four bytes behind those of the one before
abbrev are_all : Test → ℕ → ℕ → List ℕ → Bool
are_all test zero n bytes = true
are_all test (suc m) n (a ∷ b ∷ d ∷ e ∷ bytes) = test n a b d e && are_all test m (n + 1) bytes
are_all test (suc m) n _ = false

-- the test of the number whose bytes are the first of these
abbrev IsAt : Test → ℕ → List ℕ → Type 0
IsAt test n bytes = T (test n (get_or bytes 0 0) (get_or bytes 1 0) (get_or bytes 2 0) (get_or bytes 3 0))

each : (test : Test) (count n : ℕ) (bytes : List ℕ) → T (are_all test count n bytes) → (k : ℕ) → k < count → IsAt test (n + k) (drop (k * 4) bytes)
each test zero n bytes all k less = absurd (omega (arith, less))
each test (suc m) n [] all k less = absurd all
each test (suc m) n (a ∷ []) all k less = absurd all
each test (suc m) n (a ∷ b ∷ []) all k less = absurd all
each test (suc m) n (a ∷ b ∷ d ∷ []) all k less = absurd all
each test (suc m) n (a ∷ b ∷ d ∷ e ∷ bytes) all zero less =
    let here : n ≡ n + zero = omega arith in
    subst (λ i. IsAt test i (a ∷ b ∷ d ∷ e ∷ bytes)) here (and_l _ (are_all test m (n + 1) bytes) all)
each test (suc m) n (a ∷ b ∷ d ∷ e ∷ bytes) all (suc k) less =
    let next : n + 1 + k ≡ n + suc k = omega arith in
    let place : suc (suc (suc (suc (k * 4)))) ≡ suc k * 4 = omega arith in
    let there = each test m (n + 1) bytes (and_r _ (are_all test m (n + 1) bytes) all) k (omega (arith, less)) in
    subst (λ p. IsAt test (n + suc k) (drop p (a ∷ b ∷ d ∷ e ∷ bytes))) place (subst (λ i. IsAt test i (drop (k * 4) bytes)) next there)

-- the test of a number of the table, by its place there
at_byte : (test : Test) (n first k : ℕ) → first + k ≡ n → IsAt test n (drop (k * 4) (drop (first * 4) SHORT)) → T (test n (get_or SHORT (n * 4) 0) (byte n 1) (byte n 2) (byte n 3))
at_byte test n first k is there =
    let step : (j : ℕ) → get_or (drop (k * 4) (drop (first * 4) SHORT)) j 0 ≡ get_or SHORT (n * 4 + j) 0 = λ j.
    let place : first * 4 + (k * 4 + j) ≡ n * 4 + j = omega arith in
    get_or-drop (k * 4) (drop (first * 4) SHORT) j 0 ∙ get_or-drop (first * 4) SHORT (k * 4 + j) 0 ∙ ap (λ p. get_or SHORT p 0) place in
    let front : n * 4 + 0 ≡ n * 4 = omega arith in
    let bytes = drop (k * 4) (drop (first * 4) SHORT) in
    subst (λ x. T (test n x (byte n 1) (byte n 2) (byte n 3))) (step 0 ∙ ap (λ p. get_or SHORT p 0) front)
    (subst (λ x. T (test n (get_or bytes 0 0) x (byte n 2) (byte n 3))) (step 1)
    (subst (λ x. T (test n (get_or bytes 0 0) (get_or bytes 1 0) x (byte n 3))) (step 2)
    (subst (λ x. T (test n (get_or bytes 0 0) (get_or bytes 1 0) (get_or bytes 2 0) x)) (step 3) there)))

-- tests of numbers of one digit, of two and of three
abbrev is_one : Test
is_one n a b d e = eqb a (48 + n) && eqb e 49

abbrev is_two : Test
is_two n a b d e = (eqb a (48 + n / 10) && eqb b (48 + n % 10)) && eqb e 50

abbrev is_three : Test
is_three n a b d e = ((eqb a (48 + n / 100) && eqb b (48 + n % 100 / 10)) && eqb d (48 + n % 100 % 10)) && eqb e 51

-- what the table has of a number
pub record Short (n : ℕ) : Type 0 where
  pub count : ℕ
  pub last : byte n 3 ≡ 48 + count
  pub few : (1 ≤ count) × (count ≤ 3)
  pub digits : take count (four_of n) ≡ decimal n

one_digit : (n : ℕ) → n < 10 → get_or SHORT (n * 4) 0 ≡ 48 + n → byte n 3 ≡ 49 → Short n
one_digit n high first last = record { count = 1; last = last; few = (omega arith, omega arith); digits = ap (λ x. x ∷ []) first ∙ sym (decimal_digit n high) }

two_digits : (n : ℕ) → 10 ≤ n → n < 100 → get_or SHORT (n * 4) 0 ≡ 48 + n / 10 → byte n 1 ≡ 48 + n % 10 → byte n 3 ≡ 50 → Short n
two_digits n low high first second last = record {
  count = 2;
  last = last;
  few = (omega arith, omega arith);
  digits = (λ i. first i ∷ second i ∷ []) ∙ sym (decimal_two n low high);
}

three_digits : (n : ℕ) → 100 ≤ n → n < 1000 → get_or SHORT (n * 4) 0 ≡ 48 + n / 100 → byte n 1 ≡ 48 + n % 100 / 10 → byte n 2 ≡ 48 + n % 100 % 10 → byte n 3 ≡ 51 → Short n
three_digits n low high first second third last = record {
  count = 3;
  last = last;
  few = (omega arith, omega arith);
  digits = rw (first, second, third, decimal_pair n low (omega arith), decimal_digit (n / 100) (omega arith)) refl;
}

short_one : (n : ℕ) → n < 10 → Short n
short_one n high =
    let there = each is_one 10 0 (drop (0 * 4) SHORT) tt n high in
    let same : 0 + n ≡ n = omega arith in
    let a = at_byte is_one n 0 n same (subst (λ i. IsAt is_one i (drop (n * 4) (drop (0 * 4) SHORT))) same there) in
    one_digit n high (eqb→eq _ _ (and_l _ _ a)) (eqb→eq _ _ (and_r _ _ a))

short_two : (n : ℕ) → 10 ≤ n → n < 100 → Short n
short_two n low high =
    let same : 10 + (n - 10) ≡ n = omega arith in
    let there = each is_two 90 10 (drop (10 * 4) SHORT) tt (n - 10) (omega arith) in
    let a = at_byte is_two n 10 (n - 10) same (subst (λ i. IsAt is_two i (drop ((n - 10) * 4) (drop (10 * 4) SHORT))) same there) in
    let b = and_l _ _ a in
    two_digits n low high (eqb→eq _ _ (and_l _ _ b)) (eqb→eq _ _ (and_r _ _ b)) (eqb→eq _ _ (and_r _ _ a))

short_three : (n : ℕ) → 100 ≤ n → n < 1000 → Short n
short_three n low high =
    let same : 100 + (n - 100) ≡ n = omega arith in
    let there = each is_three 900 100 (drop (100 * 4) SHORT) tt (n - 100) (omega arith) in
    let a = at_byte is_three n 100 (n - 100) same (subst (λ i. IsAt is_three i (drop ((n - 100) * 4) (drop (100 * 4) SHORT))) same there) in
    let b = and_l _ _ a in
    let d = and_l _ _ b in
    three_digits n low high (eqb→eq _ _ (and_l _ _ d)) (eqb→eq _ _ (and_r _ _ d)) (eqb→eq _ _ (and_r _ _ b)) (eqb→eq _ _ (and_r _ _ a))

pub short_at : (n : ℕ) → n < 1000 → Short n
short_at n h =
    elim (eq-zero-or-pos (n - 9)) [
      | inl z ↦ short_one n (omega arith)
      | inr g ↦ elim (eq-zero-or-pos (n - 99)) [
        | inl z ↦ short_two n (omega arith) (omega arith)
        | inr g' ↦ short_three n (omega arith) (omega arith)
      ]
    ]

-- ---- bytes at a place

four_is : (four : List ℕ) → length four ≡ 4 → four ≡ get_or four 0 0 ∷ get_or four 1 0 ∷ get_or four 2 0 ∷ get_or four 3 0 ∷ []
four_is [] h = absurd (omega (arith, h))
four_is (a ∷ []) h = absurd (omega (arith, h))
four_is (a ∷ b ∷ []) h = absurd (omega (arith, h))
four_is (a ∷ b ∷ c ∷ []) h = absurd (omega (arith, h))
four_is (a ∷ b ∷ c ∷ d ∷ []) h = refl
four_is (a ∷ b ∷ c ∷ d ∷ e ∷ l) h = absurd (omega (arith, h))

module _ (xs : List ℕ) (at a b d e : ℕ) (room : at + 4 ≤ length xs) where
  abbrev pub one : List ℕ
  one = set xs at a

  abbrev pub two : List ℕ
  two = set one (at + 1) b

  abbrev pub three : List ℕ
  three = set two (at + 2) d

  long_one : length one ≡ length xs
  long_one = length-set xs at a

  long_two : length two ≡ length xs
  long_two = length-set one (at + 1) b ∙ long_one

  long_three : length three ≡ length xs
  long_three = length-set two (at + 2) d ∙ long_two

  written_one : take (at + 1) one ≡ take at xs ++ a ∷ []
  written_one = take-set_at xs at (at + 1) a refl (omega arith)

  written_two : take (at + 2) two ≡ take at xs ++ a ∷ b ∷ []
  written_two = take-set_at one (at + 1) (at + 2) b (omega arith) (omega (arith, long_one)) ∙ ap (λ l. l ++ b ∷ []) written_one ∙ append_assoc (take at xs) (a ∷ []) (b ∷ [])

  written_three : take (at + 3) three ≡ take at xs ++ a ∷ b ∷ d ∷ []
  written_three = take-set_at two (at + 2) (at + 3) d (omega arith) (omega (arith, long_two)) ∙ ap (λ l. l ++ d ∷ []) written_two ∙ append_assoc (take at xs) (a ∷ b ∷ []) (d ∷ [])

  pub put_bytes : (k : ℕ) → k ≤ 4 → take (at + k) (set three (at + 3) e) ≡ take at xs ++ take k (a ∷ b ∷ d ∷ e ∷ [])
  put_bytes zero h =
      take-set-le (at + 0) three (at + 3) e (omega arith) ∙ take-set-le (at + 0) two (at + 2) d (omega arith) ∙ take-set-le (at + 0) one (at + 1) b (omega arith)
      ∙ take-set-le (at + 0) xs at a (omega arith) ∙ ap (λ n. take n xs) (omega arith) ∙ sym (append-nil (take at xs))
  put_bytes (suc zero) h =
      take-set-le (at + 1) three (at + 3) e (omega arith) ∙ take-set-le (at + 1) two (at + 2) d (omega arith) ∙ take-set-le (at + 1) one (at + 1) b (omega arith) ∙ written_one
  put_bytes (suc (suc zero)) h = take-set-le (at + 2) three (at + 3) e (omega arith) ∙ take-set-le (at + 2) two (at + 2) d (omega arith) ∙ written_two
  put_bytes (suc (suc (suc zero))) h = take-set-le (at + 3) three (at + 3) e (omega arith) ∙ written_three
  put_bytes (suc (suc (suc (suc zero)))) h =
      take-set_at three (at + 3) (at + 4) e (omega arith) (omega (arith, long_three)) ∙ ap (λ l. l ++ e ∷ []) written_three ∙ append_assoc (take at xs) (a ∷ b ∷ d ∷ []) (e ∷ [])
  put_bytes (suc (suc (suc (suc (suc k))))) h = absurd (omega (arith, h))

pub put_list : (xs four : List ℕ) (at k : ℕ) → length four ≡ 4 → at + 4 ≤ length xs → k ≤ 4
    → take (at + k) (set (set (set (set xs at (get_or four 0 0)) (at + 1) (get_or four 1 0)) (at + 2) (get_or four 2 0)) (at + 3) (get_or four 3 0)) ≡ take at xs ++ take k four
put_list xs four at k long room few =
    put_bytes xs at (get_or four 0 0) (get_or four 1 0) (get_or four 2 0) (get_or four 3 0) room k few ∙ ap (λ l. take at xs ++ take k l) (sym (four_is four long))

-- a number's digits but the last three, and the last three
pub three_behind : (front all last : List ℕ) (n : ℕ) → 1000 ≤ n → n < 2 ^ 64 → last ≡ (48 + n % 1000 / 100) ∷ (48 + n % 1000 % 100 / 10) ∷ (48 + n % 1000 % 100 % 10) ∷ []
    → all ≡ (front ++ decimal (n / 1000)) ++ last → all ≡ front ++ decimal n
three_behind front all last n low high e f =
    let a : n / 100 / 10 ≡ n / 1000 = omega arith in
    let b : n / 100 % 10 ≡ n % 1000 / 100 = omega arith in
    let c : n % 100 / 10 ≡ n % 1000 % 100 / 10 = omega arith in
    let d : n % 100 % 10 ≡ n % 1000 % 100 % 10 = omega arith in
    let whole : decimal n ≡ decimal (n / 1000) ++ last =
    rw (e, decimal_pair n (omega arith) high, decimal_step (n / 100) (omega arith) (omega arith), append_assoc, a, b, c, d) refl in
    f ∙ append_assoc front (decimal (n / 1000)) last ∙ ap (λ l. front ++ l) (sym whole)

-- the front of a text written at a place
pub text_at : (xs text : List ℕ) (at count : ℕ) → length text ≡ 128 → at ≤ length xs → count ≤ 24
    → take (at + count) (put_mid at (at + 24 - at) xs (take 24 text)) ≡ take at xs ++ take count text
text_at xs text at count long room few =
    let part : length (take 24 text) ≡ 24 = length-take-le 24 text (omega (arith, long)) in
    let front : length (take at xs) ≡ at = length-take-le at xs room in
    let whole = put_mid at (at + 24 - at) xs (take 24 text) in
    let all : take (at + 24) whole ≡ take at xs ++ take 24 text = take-put_mid at (at + 24 - at) xs (take 24 text) (at + 24) (omega (arith, part)) room in
    sym (take-take (at + count) (at + 24) whole (omega (arith, few)))
    ∙ ap (take (at + count)) all
    ∙ ap (λ n. take (n + count) (take at xs ++ take 24 text)) (sym front)
    ∙ take-append-add (take at xs) (take 24 text) count
    ∙ ap (λ l. take at xs ++ l) (take-take count 24 text few)
