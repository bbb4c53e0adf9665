-- What is read of an option that takes a number.
use Rattle.std.proofs.Common.{◌≡◌, ◌∙◌, ◌≤◌, ◌&&◌, ◌^◌, ◌<◌, ℕ, refl, sym, ap, subst, Bool, true, false, cond, nat_le, List, Option, Some, None, Result, Ok, Err, true≢false}
use Rattle.std.specs.Prelude.{option_and_then}
use Rattle.std.specs.Str.Parse.{ParsesUnsigned, IsNumeral, digits_value, without_leading_plus}
use Rattle.std.proofs.lemmas.Bool.{le-leb, leb-true}
use Rattle.clap.specs.Walk.{Row, Text, one_of}
use Rattle.clap.specs.ValueTests.{accepts}
use Rattle.clap.specs.Matches.{ReadsOne, one_text}
use Rattle.clap.specs.Words.{rows_of}
use Rattle.clap.specs.declared.parser.matches.Found.{Found}
use Rattle.clap.proofs.WalkLemmas.{both, one_text-rows}
use Rattle.clap.proofs.ValueTestLemmas.{Accepts-accepts, accepts-Accepts}
use Rattle.saber_words.specs.Numbers.{Numeric, number_by, number_in, parser_of, within}

-- the number that a value writes is within the bounds
number_in_bounds : (o : Numeric) (text : Text) (n : ℕ) → number_in o text ≡ Some n → (o.least ≤ n) × (n ≤ o.most)
number_in_bounds o text n is = go (accepts false (parser_of o) text) refl is
  where
    go : (b : Bool) → accepts false (parser_of o) text ≡ b → cond b (Some (digits_value 10 (without_leading_plus text))) None ≡ Some n → (o.least ≤ n) × (n ≤ o.most)
    go true holds same =
        let fits = accepts-Accepts false (parser_of o) text holds in
        let is : digits_value 10 (without_leading_plus text) ≡ n = cc in
        subst (λ k. (o.least ≤ k) × (k ≤ o.most)) is (fits.2, fits.3)
    go false fails same = cc

-- and so is the option's number
pub number_bounds : (o : Numeric) (rows : List Row) (n : ℕ) → number_by o rows ≡ Some n → (o.least ≤ n) × (n ≤ o.most)
number_bounds o rows n is = go (one_of o.name rows) is
  where
    go : (text : Option Text) → option_and_then (number_in o) text ≡ Some n → (o.least ≤ n) × (n ≤ o.most)
    go None same = cc
    go (Some text) same = number_in_bounds o text n same

-- the number that a value writes, where that is n, is n within the bounds
read_within : (o : Numeric) (text : Text) (n : ℕ) → IsNumeral 10 (without_leading_plus text) → digits_value 10 (without_leading_plus text) < 2 ^ 64
    → n ≡ digits_value 10 (without_leading_plus text) → number_in o text ≡ within o n
read_within o text n numeral fits is = go (accepts false (parser_of o) text) refl
  where
    value : ℕ
    value = digits_value 10 (without_leading_plus text)

    refused : (b : Bool) → (nat_le o.least n && nat_le n o.most) ≡ b → accepts false (parser_of o) text ≡ false → None ≡ cond b (Some n) None
    refused true holds fails =
        let parts = both _ _ holds in
        let least : o.least ≤ value = subst (λ k. o.least ≤ k) is (leb-true _ _ parts.0) in
        let most : value ≤ o.most = subst (λ k. k ≤ o.most) is (leb-true _ _ parts.1) in
        let taken = Accepts-accepts false (parser_of o) text (numeral, fits, least, most) in
        absurd (true≢false (sym taken ∙ fails))
    refused false holds fails = refl

    go : (b : Bool) → accepts false (parser_of o) text ≡ b → cond b (Some value) None ≡ within o n
    go true holds =
        let taken = accepts-Accepts false (parser_of o) text holds in
        let least : o.least ≤ n = subst (λ k. o.least ≤ k) (sym is) taken.2 in
        let most : n ≤ o.most = subst (λ k. k ≤ o.most) (sym is) taken.3 in
        rw (le-leb _ _ least, le-leb _ _ most, is) refl
    go false fails = refused (nat_le o.least n && nat_le n o.most) refl fails

-- no number is read of a value that `u64` refuses
refused_number : (o : Numeric) (text : Text) → (IsNumeral 10 (without_leading_plus text) × (digits_value 10 (without_leading_plus text) < 2 ^ 64) → ⊥) → number_in o text ≡ None
refused_number o text bad = go (accepts false (parser_of o) text) refl
  where
    go : (b : Bool) → accepts false (parser_of o) text ≡ b → cond b (Some (digits_value 10 (without_leading_plus text))) None ≡ None
    go true holds = let taken = accepts-Accepts false (parser_of o) text holds in absurd (bad (taken.0, taken.1))
    go false fails = refl

-- what the getter read, within the bounds, is the option's number
pub number_read : (E : Type 0) (G : Text → Result ℕ E → Type 0) (o : Numeric) (f : Found) (r : Option ℕ)
    → ((text : Text) (x : Result ℕ E) → G text x → ParsesUnsigned 64 10 text x)
    → (one_text f o.name ≡ None → r ≡ None) → ((text : Text) → one_text f o.name ≡ Some text → ReadsOne G text r)
    → number_by o (rows_of f) ≡ option_and_then (within o) r
number_read E G o f r only none some = ap (option_and_then (number_in o)) (sym (one_text-rows f o.name)) ∙ go (one_text f o.name) refl
  where
    step : (text : Text) (x : Option ℕ) → ReadsOne G text x → number_in o text ≡ option_and_then (within o) x
    step text (Some n) h = let p = only text (Ok n) h in read_within o text n p.0.0 p.0.1 p.1
    step text None h = refused_number o text (only text (Err h.0) h.1)

    go : (t : Option Text) → one_text f o.name ≡ t → option_and_then (number_in o) t ≡ option_and_then (within o) r
    go None e = ap (option_and_then (within o)) (sym (none e))
    go (Some text) e = step text r (some text e)
