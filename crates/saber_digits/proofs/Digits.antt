-- The digits of numbers, two by two.
use Rattle.std.proofs.Common.{◌≡◌, ℕ, zero, suc, ◌+◌, ◌-◌, ◌*◌, ◌/◌, ◌%◌, ◌^◌, ◌≤◌, ◌<◌, Bool, true, ◌&&◌, T, eqb, List, [], ◌∷◌, ◌++◌, get_or, inl, inr, refl, eq-zero-or-pos, eqb→eq, sym, ◌∙◌, ap, append_assoc, arith}
use lib.Ieee.Fits.{and_l, and_r}
use Rattle.std.proofs.lemmas.Fmt.{decimal_digit}
use Rattle.std.specs.Fmt.{decimal}
use Rattle.itoa.proofs.Decimal.{decimal_two, decimal_pair, decimal_four}
use Rattle.saber_digits.specs.declared.numbers.TheConstants.{PAIRS}

-- the table has the digits of each number below 100

abbrev are_pairs : ℕ → Bool
are_pairs zero = true
are_pairs (suc p) = (eqb (get_or PAIRS (p * 2) 0) (48 + p / 10) && eqb (get_or PAIRS (p * 2 + 1) 0) (48 + p % 10)) && are_pairs p

below : (n p : ℕ) → T (are_pairs n) → p < n → (get_or PAIRS (p * 2) 0 ≡ 48 + p / 10) × (get_or PAIRS (p * 2 + 1) 0 ≡ 48 + p % 10)
below zero p t h = absurd (omega arith)
below (suc n) p t h =
    elim (eq-zero-or-pos (n - p)) [
      | inl z ↦ let e : p ≡ n = omega arith in let a = and_l _ (are_pairs n) t in rw e (eqb→eq _ _ (and_l _ _ a), eqb→eq _ _ (and_r _ _ a))
      | inr g ↦ below n p (and_r _ (are_pairs n) t) (omega arith)
    ]

pub pair_at : (p : ℕ) → p < 100 → (get_or PAIRS (p * 2) 0 ≡ 48 + p / 10) × (get_or PAIRS (p * 2 + 1) 0 ≡ 48 + p % 10)
pair_at p h = below 100 p tt h

-- ---- cells, from their digits

pub one_cell : (n : ℕ) → n < 10 → 44 ∷ (48 + n) ∷ [] ≡ 44 ∷ decimal n
one_cell n high = ap (λ l. 44 ∷ l) (sym (decimal_digit n high))

pub two_cell : (n a b : ℕ) → 10 ≤ n → n < 100 → a ≡ 48 + n / 10 → b ≡ 48 + n % 10 → 44 ∷ a ∷ b ∷ [] ≡ 44 ∷ decimal n
two_cell n a b low high ea eb = rw (ea, eb, decimal_two n low high) refl

pub three_cell : (n a b : ℕ) → 100 ≤ n → n < 1000 → a ≡ 48 + n % 100 / 10 → b ≡ 48 + n % 100 % 10 → 44 ∷ (48 + n / 100) ∷ a ∷ b ∷ [] ≡ 44 ∷ decimal n
three_cell n a b low high ea eb = rw (ea, eb, decimal_pair n low (omega arith), decimal_digit (n / 100) (omega arith)) refl

pub four_cell : (n a b c d : ℕ) → 1000 ≤ n → n < 10000 → a ≡ 48 + n / 100 / 10 → b ≡ 48 + n / 100 % 10 → c ≡ 48 + n % 100 / 10 → d ≡ 48 + n % 100 % 10 → 44 ∷ a ∷ b ∷ c ∷ d ∷ [] ≡ 44 ∷ decimal n
four_cell n a b c d low high ea eb ec ed = rw (ea, eb, ec, ed, decimal_pair n (omega arith) (omega arith), decimal_two (n / 100) (omega arith) (omega arith)) refl

-- behind a text, the digits but the last four, and the last four
pub four_behind : (out front more all last : List ℕ) (n : ℕ) → 10000 ≤ n → n < 2 ^ 64 → more ≡ out ++ (front ++ decimal (n / 10000))
    → last ≡ (48 + n % 10000 / 100 / 10) ∷ (48 + n % 10000 / 100 % 10) ∷ (48 + n % 10000 % 100 / 10) ∷ (48 + n % 10000 % 100 % 10) ∷ []
    → all ≡ more ++ last → all ≡ out ++ (front ++ decimal n)
four_behind out front more all last n low high e f g =
    g ∙ (λ i. e i ++ f i) ∙ append_assoc out (front ++ decimal (n / 10000)) _ ∙ ap (λ l. out ++ l) (append_assoc front (decimal (n / 10000)) _ ∙ ap (λ l. front ++ l) (sym (decimal_four n low high)))
