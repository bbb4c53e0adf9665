-- Facts on lines that are too long. Any proof may cite them.
use Rattle.std.proofs.Common.{◌≡◌, ℕ, ◌+◌, ◌-◌, ◌<◌, ◌≤◌, List, length, take, slice_index, ◌==◌, Bool, true, false, cond, not, ◌&&◌, ◌||◌, nat_lt, refl, sym, ◌∙◌, ap, arith, length-take}
use Rattle.std.proofs.lemmas.Bool.Decides.{nat_tests}
use Rattle.saber_plan.specs.declared.rows.RowCause.TheVariants.{TooManyLines, TooLong}
use Rattle.saber_plan.specs.Rows.{Line, is_known, refused, judge, without_cr}

pub length-without_cr : (xs : List ℕ) → length xs ≤ length (without_cr xs) + 1
length-without_cr xs = shorter (slice_index xs (length xs - 1) == 13) where
  shorter : (b : Bool) → length xs ≤ length (cond b (take (length xs - 1) xs) xs) + 1
  shorter true = omega (arith, length-take (length xs - 1) xs)
  shorter false = omega arith

-- a long line behind the limit of lines is one line too many
pub judge_many : (columns most number : ℕ) (content : List ℕ) → most < number → judge columns most number content ≡ refused TooManyLines
unfolding judge
judge_many columns most number content h = grind (arith, nat_tests)

-- and else it is too long
pub judge_long : (columns most number : ℕ) (content : List ℕ) → number ≤ most → 4096 < length content → judge columns most number content ≡ refused TooLong
unfolding judge
judge_long columns most number content h k = grind (arith, nat_tests)

above : (m n : ℕ) → nat_lt m n ≡ true → m < n
above m n e = grind (arith, nat_tests)

not_above : (m n : ℕ) → nat_lt m n ≡ false → n ≤ m
not_above m n e = grind (arith, nat_tests)

is_long : (n : ℕ) → 4097 < n → nat_lt 4097 n ≡ true
is_long n h = grind (arith, nat_tests)

-- a line is known that no end makes shorter
pub long_known : (partial : Bool) (l : Line) → 4097 < length l.content → (partial && not (is_known l)) ≡ false
long_known partial l h = ap (λ b. partial && not (l.whole || b)) (is_long (length l.content) h) ∙ by_bools partial l.whole where
  by_bools : (p w : Bool) → (p && not (w || true)) ≡ false
  by_bools true true = refl
  by_bools true false = refl
  by_bools false w = refl

pub judged_long : (columns most number : ℕ) (content : List ℕ) → 4096 < length content
    → judge columns most number content ≡ refused (cond (nat_lt most number) TooManyLines TooLong)
judged_long columns most number content h = by_limit (nat_lt most number) refl where
  by_limit : (b : Bool) → nat_lt most number ≡ b → judge columns most number content ≡ refused (cond b TooManyLines TooLong)
  by_limit true e = judge_many columns most number content (above most number e)
  by_limit false e = judge_long columns most number content (not_above most number e) h

-- a line that is known and lacks its line feed is too long
pub long_open : (l : Line) → l.whole ≡ false → is_known l ≡ true → 4097 < length l.content
long_open l e k = let long : nat_lt 4097 (length l.content) ≡ true = sym (ap (λ b. b || nat_lt 4097 (length l.content)) e) ∙ k in grind (arith, nat_tests)
