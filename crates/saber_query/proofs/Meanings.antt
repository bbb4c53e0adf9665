-- Each text means a query or has a fault.
use Rattle.std.proofs.Common.{◌≡◌, ℕ, ◌+◌, ◌-◌, ◌*◌, ◌≤◌, ◌<◌, ◌^◌, List, [], ◌∷◌, map, length, Option, Some, None, Bool, true, false, Result, Ok, Err, refl, sym, ◌∙◌, ap, arith, ◌⊎◌, inl, inr}
use Rattle.std.proofs.lemmas.List.{length-map}
use Rattle.std.proofs.lemmas.Bool.Decides.{nat_tests}
use Rattle.std.specs.Prelude.{nat_le, ◌==◌}
use Rattle.std.specs.Char.{is_ascii_digit}
use Rattle.saber_query.specs.declared.token.Sign.{Sign}
use Rattle.saber_query.specs.declared.token.Token.TheVariants.{Mark, Number}
use Rattle.saber_query.specs.declared.token.Placed.{Placed}
use Rattle.saber_query.specs.declared.lexer.Pending.{Pending}
use Rattle.saber_query.specs.declared.lexer.Pending.TheVariants as p
use Rattle.saber_query.specs.declared.fault.Cause.{Cause}
use Rattle.saber_query.specs.declared.fault.Cause.TheVariants.{TooLong, Syntax, Depth}
use Rattle.saber_query.specs.declared.fault.QueryFault.{QueryFault}
use Rattle.saber_query.specs.declared.fault.QueryFault.TheVariants.{NoMemory, At}
use Rattle.saber_query.specs.Tokens.{word_of}
use Rattle.saber_query.specs.Small.{IsLexCause, byte_at}
use Rattle.saber_query.specs.Reading.{token_of}
use Rattle.saber_query.specs.Machine.{Fate, fits, stops, deepens, fate, start}
use Rattle.saber_query.specs.Words.{IsSyntax, IsDeep, words}
use Rattle.saber_query.specs.Trees.{query_of, depth}
use Rattle.saber_query.specs.Parsed.{Parsed, IsParsed}
use Rattle.saber_query.specs.Means.{MeansTree, TextFault, byte_of}
use Rattle.saber_query.specs.Lexing.{is_letter, is_name_byte, is_space, single, double, angle, placed_token, Step, goes, fails, after, if_single, begin, number_more, if_double, step, onto, follow, lex_from, lexed_text}
use Rattle.saber_query.proofs.RealLemmas.{by_test, lexed_fine}
use Rattle.saber_query.proofs.Back.{to_query}
use Rattle.saber_query.proofs.Exact.{Walk, walk, syntax_found, deep_found}
use Rattle.saber_query.proofs.TextLemmas.{lex_fails, stops_at, parsed_by, means_by}
use Rattle.saber_query.proofs.Made.{select_for}

-- ---- tokens fail by two causes

abbrev IsBad : QueryFault → Type 0
IsBad NoMemory = ⊥
IsBad (At b c) = IsLexCause c

abbrev FailsBadly : Step → Type 0
FailsBadly (goes ts q) = Unit {0}
FailsBadly (fails f) = IsBad f

single_bad : (at : ℕ) (o : Option Sign) → FailsBadly (if_single at o)
single_bad at None = tt
single_bad at (Some sign) = tt

begin_bad : (at b : ℕ) → FailsBadly (begin at b)
unfolding begin
begin_bad at b =
    by_test (is_letter b) FailsBadly _ _ (λ _. tt)
    (λ _. by_test (is_ascii_digit b) FailsBadly _ _ (λ _. tt)
    (λ _. by_test (b == 60) FailsBadly _ _ (λ _. tt)
    (λ _. by_test (b == 62) FailsBadly _ _ (λ _. tt)
    (λ _. by_test (is_space b) FailsBadly _ _ (λ _. tt)
    (λ _. single_bad at (single b))))))

after_bad : (t : Placed) (s : Step) → FailsBadly s → FailsBadly (after t s)
after_bad t (goes ts q) h = tt
after_bad t (fails f) h = h

number_bad : (start n : ℕ) → FailsBadly (number_more start n)
unfolding number_more
number_bad start n = by_test (nat_le n (2 ^ 63)) FailsBadly _ _ (λ _. tt) (λ _. tt)

double_bad : (at start : ℕ) (greater : Bool) (b : ℕ) (o : Option Sign) → FailsBadly (if_double at start greater b o)
double_bad at start greater b None = after_bad (placed_token start (Mark (angle greater))) (begin at b) (begin_bad at b)
double_bad at start greater b (Some sign) = tt

step_bad : (at : ℕ) (q : Pending) (b : ℕ) → FailsBadly (step at q b)
unfolding step
step_bad at p.Nothing b = begin_bad at b
step_bad at (p.Name start bs) b = by_test (is_name_byte b) FailsBadly _ _ (λ _. tt) (λ _. after_bad (placed_token start (word_of bs)) (begin at b) (begin_bad at b))
step_bad at (p.Number start n) b = by_test (is_ascii_digit b) FailsBadly _ _ (λ _. number_bad start (10 * n + (b - 48))) (λ _. after_bad (placed_token start (Number n)) (begin at b) (begin_bad at b))
step_bad at (p.Angle start greater) b = double_bad at start greater b (double greater b)

abbrev IsBadly : Result (List Placed) QueryFault → Type 0
IsBadly (Ok ts) = Unit {0}
IsBadly (Err f) = IsBad f

onto_bad : (ts : List Placed) (r : Result (List Placed) QueryFault) → IsBadly r → IsBadly (onto ts r)
onto_bad ts (Ok us) h = tt
onto_bad ts (Err f) h = h

follow_bad : (s : Step) (rest : Pending → Result (List Placed) QueryFault) → FailsBadly s → ((q : Pending) → IsBadly (rest q)) → IsBadly (follow s rest)
follow_bad (goes ts q) rest h g = onto_bad ts (rest q) (g q)
follow_bad (fails f) rest h g = h

pub lex_bad : (text : List ℕ) (at : ℕ) (q : Pending) → IsBadly (lex_from at q text)
unfolding lex_from
lex_bad [] at q = tt
lex_bad (b ∷ bs) at q = follow_bad (step at q b) _ (step_bad at q b) (λ r. lex_bad bs (at + 1) r)

-- ---- what a text comes to

abbrev pub IsTold : List ℕ → Type 0
IsTold text = ((q : Parsed) × IsParsed q.select q.starts × MeansTree text q) ⊎ ((byte : ℕ) × (cause : Cause) × TextFault cause byte text)

by_fate : (text : List ℕ) (ps : List Placed) → length text ≤ 65536 → lexed_text text ≡ Ok ps → (w : Fate) → Walk (start 64) (map token_of ps) w → IsTold text
by_fate text ps short lex fits m =
    let (q, shallow, is) = to_query 64 (map token_of ps) m in
    let few : length (words q) ≤ 65536 = omega (arith, (lexed_fine text ps lex).0, ap length is, length-map ps token_of) in
    let (s, same) = select_for q few in
    let spoken : words (query_of s) ≡ map token_of ps = ap words same ∙ sym is in
    let low : depth (query_of s) ≤ 64 = omega (arith, shallow, ap depth same) in
    inl (
      record { select = s; starts = map byte_of ps },
      parsed_by text ps (map token_of ps) (map byte_of ps) s short lex refl refl spoken low,
      means_by text ps (map token_of ps) (map byte_of ps) s (record { select = s; starts = map byte_of ps }) short lex refl refl spoken low refl,
    )
by_fate text ps short lex (stops rest) w =
    let byte = byte_at (map byte_of ps) (length rest) (length text) in
    inr (byte, Syntax, stops_at (IsSyntax 64) text (map token_of ps) rest ps (map byte_of ps) (length rest) byte short lex refl refl (syntax_found 64 (map token_of ps) rest w) refl refl)
by_fate text ps short lex (deepens rest) w =
    let byte = byte_at (map byte_of ps) (length rest) (length text) in
    inr (byte, Depth, stops_at (IsDeep 64) text (map token_of ps) rest ps (map byte_of ps) (length rest) byte short lex refl refl (deep_found 64 (map token_of ps) rest w) refl refl)

by_tokens : (text : List ℕ) → length text ≤ 65536 → (r : Result (List Placed) QueryFault) → lexed_text text ≡ r → IsBadly r → IsTold text
by_tokens text short (Ok ps) lex h = by_fate text ps short lex (fate (start 64) (map token_of ps)) (walk (map token_of ps) (start 64))
by_tokens text short (Err NoMemory) lex h = absurd h
by_tokens text short (Err (At b c)) lex h = inr (b, c, lex_fails (At b c) text short h lex)

is_short : (n : ℕ) → nat_le n 65536 ≡ true → n ≤ 65536
is_short n e = grind (arith, nat_tests)

is_long : (n : ℕ) → nat_le n 65536 ≡ false → 65536 < n
is_long n e = grind (arith, nat_tests)

by_length : (text : List ℕ) (b : Bool) → nat_le (length text) 65536 ≡ b → IsTold text
by_length text true e = by_tokens text (is_short (length text) e) (lexed_text text) refl (lex_bad text 0 p.Nothing)
by_length text false e = inr (65536, TooLong, (is_long (length text) e, refl))

pub told : (text : List ℕ) → IsTold text
told text = by_length text (nat_le (length text) 65536) refl
