-- Faults of a text.
use Rattle.std.proofs.Common.{◌≡◌, ℕ, suc, false, cond, ◌-◌, ◌≤◌, slice_index_or, List, [], ◌∷◌, ◌++◌, map, length, length-append, Ok, Err, refl, sym, ◌∙◌, ap, subst, arith}
use Rattle.std.proofs.lemmas.Bool.Decides.{nat_tests}
use Rattle.std.specs.Prelude.{◌==◌}
use Rattle.saber_query.specs.declared.token.Token.{Token}
use Rattle.saber_query.specs.declared.token.Placed.{Placed}
use Rattle.saber_query.specs.declared.fault.Cause.TheVariants.{TooLong, BadByte, NumberRange, Syntax, Depth, DuplicateName, UnknownStream, UnknownColumn, Ambiguous, TooMany, WindowRange, Overlap, Shape, NotGrouped, ExprTooWide, SumTooWide}
use Rattle.saber_query.specs.declared.fault.QueryFault.{QueryFault}
use Rattle.saber_query.specs.declared.fault.QueryFault.TheVariants.{NoMemory, At}
use Rattle.saber_query.specs.Small.{IsLexFault, byte_at}
use Rattle.saber_query.specs.Lexing.{lexed_text, LexGives}
use Rattle.saber_query.specs.Means.{MeansTree, ParseGives, StopsAt, byte_of, first_byte}
use Rattle.saber_query.specs.Reading.{token_of, StopsWith}
use Rattle.saber_query.specs.declared.tree.Select.{Select}
use Rattle.saber_query.specs.Trees.{query_of, depth}
use Rattle.saber_query.specs.Words.{words}
use Rattle.saber_query.specs.Real.{AllReal}
use Rattle.saber_query.specs.Parsed.{Parsed, IsParsed}
use Rattle.saber_query.proofs.RealLemmas.{lexed_fine}
use Rattle.saber_query.proofs.LongestLemmas.{reads_longest}

pub lex_fails : (e : QueryFault) (text : List ℕ) → length text ≤ 65536 → IsLexFault e → LexGives (Err e) (lexed_text text) → ParseGives (Err e) text
lex_fails NoMemory text h f g = tt
lex_fails (At b BadByte) text h f g = (h, (reads_longest text (Err (At b BadByte))).0 g)
lex_fails (At b NumberRange) text h f g = (h, (reads_longest text (Err (At b NumberRange))).0 g)
lex_fails (At b TooLong) text h f g = absurd f
lex_fails (At b Syntax) text h f g = absurd f
lex_fails (At b Depth) text h f g = absurd f
lex_fails (At b DuplicateName) text h f g = absurd f
lex_fails (At b UnknownStream) text h f g = absurd f
lex_fails (At b UnknownColumn) text h f g = absurd f
lex_fails (At b Ambiguous) text h f g = absurd f
lex_fails (At b TooMany) text h f g = absurd f
lex_fails (At b WindowRange) text h f g = absurd f
lex_fails (At b Overlap) text h f g = absurd f
lex_fails (At b Shape) text h f g = absurd f
lex_fails (At b NotGrouped) text h f g = absurd f
lex_fails (At b ExprTooWide) text h f g = absurd f
lex_fails (At b SumTooWide) text h f g = absurd f

same_length : (ps : List Placed) → length (map token_of ps) ≡ length (map byte_of ps)
same_length [] = refl
same_length (p ∷ ps) = omega (arith, same_length ps)

many : (qs : List Placed) → length (map byte_of qs) ≡ length qs
many [] = refl
many (p ∷ qs) = omega (arith, many qs)

mapped : (ps : List Placed) → length (map token_of ps) ≡ length ps
mapped [] = refl
mapped (p ∷ ps) = omega (arith, mapped ps)

pub stops_short : (Stops : List Token → List Token → Type 0) (ts rest : List Token) (ps : List Placed) (starts : List ℕ) → ts ≡ map token_of ps → starts ≡ map byte_of ps → StopsWith Stops ts rest → length rest ≤ length starts
stops_short Stops ts rest ps starts e e' (before, split, h) =
    let a : length ts ≡ length (before ++ rest) = ap length split in
    omega (arith, a, length-append before rest, ap length e, same_length ps, ap length e')

-- placed tokens part where their tokens do
record Parted (ps : List Placed) (before rest : List Token) : Type 0 where
  first : List Placed
  second : List Placed
  whole : ps ≡ first ++ second
  firsts : map token_of first ≡ before
  seconds : map token_of second ≡ rest

parted : (ps : List Placed) (before rest : List Token) → map token_of ps ≡ before ++ rest → Parted ps before rest
parted ps [] rest e = record { first = []; second = ps; whole = refl; firsts = refl; seconds = e }
parted [] (t ∷ before) rest e = cc
parted (p ∷ ps) (t ∷ before) rest e =
    let h = parted ps before rest cc in
    record { first = p ∷ h.first; second = h.second; whole = ap (λ z. p ∷ z) h.whole; firsts = cc; seconds = h.seconds }

byte_there : (bs rs : List Placed) (p : Placed) → slice_index_or (map byte_of (bs ++ p ∷ rs)) (length bs) 0 ≡ p.byte
byte_there [] rs p = refl
byte_there (b ∷ bs) rs p = byte_there bs rs p

not_zero : (n : ℕ) → (suc n == 0) ≡ false
not_zero n = grind (arith, nat_tests)

byte_counted : (bs rs : List Placed) (end : ℕ) → byte_at (map byte_of (bs ++ rs)) (length rs) end ≡ first_byte rs end
byte_counted bs [] end = refl
byte_counted bs (p ∷ rs) end =
    let e : length (map byte_of (bs ++ p ∷ rs)) - length (p ∷ rs) ≡ length bs = omega (arith, many (bs ++ p ∷ rs), length-append bs (p ∷ rs)) in
    ap (λ c. cond c end (slice_index_or (map byte_of (bs ++ p ∷ rs)) (length (map byte_of (bs ++ p ∷ rs)) - length (p ∷ rs)) 0)) (not_zero (length rs))
    ∙ ap (λ i. slice_index_or (map byte_of (bs ++ p ∷ rs)) i 0) e
    ∙ byte_there bs rs p

pub stops_at : (Stops : List Token → List Token → Type 0) (text : List ℕ) (ts rest : List Token) (ps : List Placed) (starts : List ℕ) (left byte : ℕ) → length text ≤ 65536 → lexed_text text ≡ Ok ps → ts ≡ map token_of ps → starts ≡ map byte_of ps →
    StopsWith Stops ts rest → left ≡ length rest → byte ≡ byte_at starts left (length text) → StopsAt Stops text byte
stops_at Stops text ts rest ps starts left byte short lex e e' (before, split, h) l b =
    let k = parted ps before rest (sym e ∙ split) in
    record {
      short = short;
      before = k.first;
      rest = k.second;
      lexed = (reads_longest text (Ok (k.first ++ k.second))).0 (lex ∙ ap (λ z. Ok z) k.whole);
      there = let P : List Token → Type 0 = λ z. Stops z (map token_of k.second) in subst P (sym k.firsts) (let Q : List Token → Type 0 = Stops before in subst Q (sym k.seconds) h);
      place = b ∙ ap (λ z. byte_at z left (length text)) (e' ∙ ap (map byte_of) k.whole) ∙ ap (λ n. byte_at (map byte_of (k.first ++ k.second)) n (length text)) (l ∙ ap length (sym k.seconds) ∙ mapped k.second) ∙ byte_counted k.first k.second (length text);
    }

pub parsed_by : (text : List ℕ) (ps : List Placed) (ts : List Token) (starts : List ℕ) (q : Select) → length text ≤ 65536 → lexed_text text ≡ Ok ps → ts ≡ map token_of ps → starts ≡ map byte_of ps →
    words (query_of q) ≡ ts → depth (query_of q) ≤ 64 → IsParsed q starts
parsed_by text ps ts starts q h lex e e' w d =
    let (few, real) = lexed_fine text ps lex in
    record {
      each_word = ap length e' ∙ sym (same_length ps) ∙ ap length (sym e) ∙ ap length (sym w);
      short = omega (arith, h, few, ap length e', many ps);
      real = subst AllReal (sym (w ∙ e)) real;
      shallow = d;
    }

pub means_by : (text : List ℕ) (ps : List Placed) (ts : List Token) (starts : List ℕ) (q : Select) (p : Parsed) → length text ≤ 65536 → lexed_text text ≡ Ok ps → ts ≡ map token_of ps → starts ≡ map byte_of ps →
    words (query_of q) ≡ ts → depth (query_of q) ≤ 64 → p ≡ record { select = q; starts = starts } → MeansTree text p
means_by text ps ts starts q p h lex e e' w d is =
    subst (MeansTree text) (sym is) (record { short = h; placed = ps; lexed = (reads_longest text (Ok ps)).0 lex; words = w ∙ e; starts = e'; shallow = d })
