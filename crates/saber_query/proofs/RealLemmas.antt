-- The tokens of a text are real ones, and no more than its bytes.
use Rattle.std.proofs.Common.{◌≡◌, ℕ, suc, ◌+◌, ◌-◌, ◌*◌, ◌^◌, ◌≤◌, List, [], ◌∷◌, ◌++◌, map, length, length-append, Option, Some, None, Bool, true, false, cond, ◌&&◌, Result, Ok, Err, refl, ◌∙◌, ap, subst, arith}
use Rattle.std.proofs.lemmas.Bool.Decides.{nat_tests}
use Rattle.std.specs.Prelude.{nat_le, ◌==◌}
use Rattle.std.specs.Char.{is_ascii_digit}
use Rattle.std.specs.List.{list_all}
use Rattle.saber_query.specs.declared.token.Keyword.{Keyword}
use Rattle.saber_query.specs.declared.token.Sign.{Sign}
use Rattle.saber_query.specs.declared.token.Token.TheVariants.{Mark, Number}
use Rattle.saber_query.specs.declared.token.Placed.{Placed}
use Rattle.saber_query.specs.declared.lexer.Pending.{Pending}
use Rattle.saber_query.specs.declared.lexer.Pending.TheVariants as p
use Rattle.saber_query.specs.declared.fault.QueryFault.{QueryFault}
use Rattle.saber_query.specs.Tokens.{keyword_of, word_or, word_of}
use Rattle.saber_query.specs.Reading.{token_of}
use Rattle.saber_query.specs.Real.{is_name_text, IsReal, AllReal}
use Rattle.saber_query.specs.Lexing.{is_letter, is_name_byte, is_space, single, double, angle, placed_token, Step, goes, fails, after, if_single, begin, number_more, if_double, step, last_token, onto, follow, lex_from, lexed_text}

abbrev pub all_name_bytes : List ℕ → Bool
all_name_bytes bs = list_all is_name_byte bs

pub by_test : (c : Bool) (P : Step → Type 0) (x y : Step) → (c ≡ true → P x) → (c ≡ false → P y) → P (cond c x y)
by_test true P x y f g = f refl
by_test false P x y f g = g refl

-- whether a token is pending, as a number
abbrev weight : Pending → ℕ
weight p.Nothing = 0
weight (p.Name start bs) = 1
weight (p.Number start n) = 1
weight (p.Angle start greater) = 1

abbrev IsPart : Pending → Type 0
IsPart p.Nothing = Unit {0}
IsPart (p.Name start bs) = is_name_text bs ≡ true
IsPart (p.Number start n) = n ≤ 2 ^ 63
IsPart (p.Angle start greater) = Unit {0}

-- no more tokens than these, and real ones
abbrev Fine : ℕ → Step → Type 0
Fine w (goes ts q) = (length ts + weight q ≤ w) × AllReal (map token_of ts) × IsPart q
Fine w (fails f) = Unit {0}

single_fine : (at : ℕ) (o : Option Sign) → Fine 1 (if_single at o)
single_fine at None = tt
single_fine at (Some sign) = (omega arith, (tt, tt), tt)

digit_small : (b : ℕ) → is_ascii_digit b ≡ true → b - 48 ≤ 2 ^ 63
digit_small b e = grind (arith, nat_tests)

first_byte : (b : ℕ) → is_letter b ≡ true → is_name_text (b ∷ []) ≡ true
first_byte b e = ap (λ c. c && true) e

begin_fine : (at b : ℕ) → Fine 1 (begin at b)
unfolding begin
begin_fine at b =
    by_test (is_letter b) (Fine 1) _ _ (λ e. (omega arith, tt, first_byte b e))
    (λ _. by_test (is_ascii_digit b) (Fine 1) _ _ (λ e. (omega arith, tt, digit_small b e))
    (λ _. by_test (b == 60) (Fine 1) _ _ (λ e. (omega arith, tt, tt))
    (λ _. by_test (b == 62) (Fine 1) _ _ (λ e. (omega arith, tt, tt))
    (λ _. by_test (is_space b) (Fine 1) _ _ (λ e. (omega arith, tt, tt))
    (λ _. single_fine at (single b))))))

after_fine : (t : Placed) (s : Step) → IsReal t.token → Fine 1 s → Fine 2 (after t s)
after_fine t (goes ts q) r (h, h', h'') = (omega arith, (r, h'), h'')
after_fine t (fails f) r h = tt

below : (a b : ℕ) → nat_le a b ≡ true → a ≤ b
below a b e = grind (arith, nat_tests)

number_fine : (start n : ℕ) → Fine 2 (number_more start n)
unfolding number_more
number_fine start n = by_test (nat_le n (2 ^ 63)) (Fine 2) _ _ (λ e. (omega arith, tt, below n (2 ^ 63) e)) (λ _. tt)

bytes_more : (bs : List ℕ) (b : ℕ) → is_name_byte b ≡ true → all_name_bytes bs ≡ true → all_name_bytes (bs ++ b ∷ []) ≡ true
bytes_more [] b e h = ap (λ c. c && true) e
bytes_more (c ∷ bs) b e h = let (h', h'') = both _ _ h in ap (λ d. d && all_name_bytes (bs ++ b ∷ [])) h' ∙ bytes_more bs b e h'' where
  both : (x y : Bool) → x && y ≡ true → (x ≡ true) × (y ≡ true)
  both true y k = (refl, k)
  both false y k = cc

name_more : (bs : List ℕ) (b : ℕ) → is_name_byte b ≡ true → is_name_text bs ≡ true → is_name_text (bs ++ b ∷ []) ≡ true
name_more [] b e h = cc
name_more (c ∷ bs) b e h = let (h', h'') = both _ _ h in ap (λ d. d && all_name_bytes (bs ++ b ∷ [])) h' ∙ bytes_more bs b e h'' where
  both : (x y : Bool) → x && y ≡ true → (x ≡ true) × (y ≡ true)
  both true y k = (refl, k)
  both false y k = cc

pub word_real : (bs : List ℕ) → is_name_text bs ≡ true → IsReal (word_of bs)
word_real bs h = real (keyword_of bs) refl where
  real : (o : Option Keyword) → keyword_of bs ≡ o → IsReal (word_or bs o)
  real None e = (h, e)
  real (Some w) e = tt

double_fine : (at start : ℕ) (greater : Bool) (b : ℕ) (o : Option Sign) → Fine 2 (if_double at start greater b o)
double_fine at start greater b None = after_fine (placed_token start (Mark (angle greater))) (begin at b) tt (begin_fine at b)
double_fine at start greater b (Some sign) = (omega arith, (tt, tt), tt)

more : (s : Step) → Fine 1 s → Fine 2 s
more (goes ts q) (h, h', h'') = (omega arith, h', h'')
more (fails f) h = tt

step_fine : (at : ℕ) (q : Pending) (b : ℕ) → IsPart q → Fine (weight q + 1) (step at q b)
unfolding step
step_fine at p.Nothing b h = begin_fine at b
step_fine at (p.Name start bs) b h =
    by_test (is_name_byte b) (Fine 2) _ _ (λ e. (omega arith, tt, name_more bs b e h)) (λ _. after_fine (placed_token start (word_of bs)) (begin at b) (word_real bs h) (begin_fine at b))
step_fine at (p.Number start n) b h =
    by_test (is_ascii_digit b) (Fine 2) _ _ (λ _. number_fine start (10 * n + (b - 48))) (λ _. after_fine (placed_token start (Number n)) (begin at b) h (begin_fine at b))
step_fine at (p.Angle start greater) b h = double_fine at start greater b (double greater b)

-- so many real tokens
abbrev Tokens_fine : ℕ → Result (List Placed) QueryFault → Type 0
Tokens_fine w (Ok ts) = (length ts ≤ w) × AllReal (map token_of ts)
Tokens_fine w (Err f) = Unit {0}

ended_fine : (q : Pending) → IsPart q → Tokens_fine (weight q + 0) (Ok (last_token q))
unfolding last_token
ended_fine p.Nothing h = (omega arith, tt)
ended_fine (p.Name start bs) h = (omega arith, (word_real bs h, tt))
ended_fine (p.Number start n) h = (omega arith, (h, tt))
ended_fine (p.Angle start greater) h = (omega arith, (tt, tt))

real_append : (ts us : List Placed) → AllReal (map token_of ts) → AllReal (map token_of us) → AllReal (map token_of (ts ++ us))
real_append [] us h h' = h'
real_append (t ∷ ts) us (h, h') h'' = (h, real_append ts us h' h'')

onto_fine : (w v n : ℕ) (ts : List Placed) (r : Result (List Placed) QueryFault) → length ts + v ≤ w + 1 → AllReal (map token_of ts) → Tokens_fine (v + n) r → Tokens_fine (w + suc n) (onto ts r)
onto_fine w v n ts (Ok us) h h' (g, g') = (omega (arith, length-append ts us), real_append ts us h' g')
onto_fine w v n ts (Err f) h h' g = tt

follow_fine : (w n : ℕ) (s : Step) (rest : Pending → Result (List Placed) QueryFault) → Fine (w + 1) s → ((q : Pending) → IsPart q → Tokens_fine (weight q + n) (rest q)) → Tokens_fine (w + suc n) (follow s rest)
follow_fine w n (goes ts q) rest (h, h', h'') g = onto_fine w (weight q) n ts (rest q) h h' (g q h'')
follow_fine w n (fails f) rest h g = tt

lex_fine : (text : List ℕ) (at : ℕ) (q : Pending) → IsPart q → Tokens_fine (weight q + length text) (lex_from at q text)
unfolding lex_from
lex_fine [] at q h = ended_fine q h
lex_fine (b ∷ bs) at q h = follow_fine (weight q) (length bs) (step at q b) _ (step_fine at q b h) (λ r g. lex_fine bs (at + 1) r g)

pub lexed_fine : (text : List ℕ) (ps : List Placed) → lexed_text text ≡ Ok ps → (length ps ≤ length text) × AllReal (map token_of ps)
lexed_fine text ps e =
    let Q : ℕ → Type 0 = λ n. Tokens_fine n (lexed_text text) in
    let h : 0 + length text ≡ length text = omega arith in
    let P : Result (List Placed) QueryFault → Type 0 = Tokens_fine (length text) in
    subst P e (subst Q h (lex_fine text 0 p.Nothing tt))
