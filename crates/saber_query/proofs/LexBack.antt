-- Spelled tokens, lexed.
use Rattle.std.proofs.Common.{◌≡◌, ℕ, ◌+◌, ◌-◌, ◌*◌, ◌/◌, ◌%◌, ◌^◌, ◌<◌, ◌≤◌, List, [], ◌∷◌, ◌++◌, map, Bool, true, false, cond, ◌&&◌, Result, Ok, Err, refl, sym, ◌∙◌, ap, subst, arith, append_assoc}
use Rattle.std.proofs.lemmas.Bool.Decides.{nat_tests}
use Rattle.std.specs.Prelude.{nat_le, decimal}
use Rattle.std.proofs.lemmas.Fmt.{decimal_by_steps}
use Rattle.std.specs.Char.{is_ascii_digit}
use Rattle.saber_query.specs.declared.token.Keyword.{Keyword}
use Rattle.saber_query.specs.declared.token.Keyword.TheVariants as k
use Rattle.saber_query.specs.declared.token.Sign.{Sign}
use Rattle.saber_query.specs.declared.token.Sign.TheVariants as s
use Rattle.saber_query.specs.declared.token.Token.{Token}
use Rattle.saber_query.specs.declared.token.Token.TheVariants.{Word, Mark, Named, Number}
use Rattle.saber_query.specs.declared.token.Placed.{Placed}
use Rattle.saber_query.specs.declared.lexer.Pending.{Pending}
use Rattle.saber_query.specs.declared.lexer.Pending.TheVariants as p
use Rattle.saber_query.specs.declared.fault.QueryFault.{QueryFault}
use Rattle.saber_query.specs.Tokens.{text_of, sign_text, keyword_among, word_or, word_of}
use Rattle.saber_query.specs.Reading.{token_of}
use Rattle.saber_query.specs.Real.{is_name_text, IsReal, AllReal}
use Rattle.saber_query.specs.Lexing.{is_letter, is_name_byte, placed_token, Step, goes, begin, number_more, step, last_token, onto, follow, lex_from}
use Rattle.saber_query.specs.Spelling.{spell, spaced_text, spelled_text, HasTokens}
use Rattle.saber_query.proofs.RealLemmas.{all_name_bytes}
use Rattle.saber_query.proofs.LongestLemmas.{reads_longest}

abbrev Answer : Type 0
Answer = Result (List Placed) QueryFault

onto_nil : (r : Answer) → onto [] r ≡ r
onto_nil (Ok ts) = refl
onto_nil (Err f) = refl

-- nothing, or a space next
abbrev Apart : List ℕ → Type 0
Apart [] = Unit {0}
Apart (b ∷ bs) = b ≡ 32

-- what is pending ends as this token, before a space and at the end
abbrev Ends : Pending → Placed → Type 0
Ends q t = (m : ℕ) (rest : List ℕ) → Apart rest → lex_from m q rest ≡ onto (t ∷ []) (lex_from m p.Nothing rest)

name_ends : (at : ℕ) (bs : List ℕ) → Ends (p.Name at bs) (placed_token at (word_of bs))
unfolding lex_from step begin last_token
name_ends at bs m [] h = refl
name_ends at bs m (b ∷ rest) h = by_space m b rest h where
  by_space : (m b : ℕ) (rest : List ℕ) → b ≡ 32 → lex_from m (p.Name at bs) (b ∷ rest) ≡ onto (placed_token at (word_of bs) ∷ []) (lex_from m p.Nothing (b ∷ rest))
  by_space m b rest h =
      let P : ℕ → Type 0 = λ c. lex_from m (p.Name at bs) (c ∷ rest) ≡ onto (placed_token at (word_of bs) ∷ []) (lex_from m p.Nothing (c ∷ rest)) in
      subst P (sym h) (ap (onto (placed_token at (word_of bs) ∷ [])) (sym (onto_nil (lex_from (m + 1) p.Nothing rest))))

number_ends : (at n : ℕ) → Ends (p.Number at n) (placed_token at (Number n))
unfolding lex_from step begin last_token
number_ends at n m [] h = refl
number_ends at n m (b ∷ rest) h =
    let P : ℕ → Type 0 = λ c. lex_from m (p.Number at n) (c ∷ rest) ≡ onto (placed_token at (Number n) ∷ []) (lex_from m p.Nothing (c ∷ rest)) in
    subst P (sym h) (ap (onto (placed_token at (Number n) ∷ [])) (sym (onto_nil (lex_from (m + 1) p.Nothing rest))))

less_ends : (at : ℕ) → Ends (p.Angle at false) (placed_token at (Mark s.Less))
unfolding lex_from step begin last_token
less_ends at m [] h = refl
less_ends at m (b ∷ rest) h =
    let P : ℕ → Type 0 = λ c. lex_from m (p.Angle at false) (c ∷ rest) ≡ onto (placed_token at (Mark s.Less) ∷ []) (lex_from m p.Nothing (c ∷ rest)) in
    subst P (sym h) (ap (onto (placed_token at (Mark s.Less) ∷ [])) (sym (onto_nil (lex_from (m + 1) p.Nothing rest))))

greater_ends : (at : ℕ) → Ends (p.Angle at true) (placed_token at (Mark s.Greater))
unfolding lex_from step begin last_token
greater_ends at m [] h = refl
greater_ends at m (b ∷ rest) h =
    let P : ℕ → Type 0 = λ c. lex_from m (p.Angle at true) (c ∷ rest) ≡ onto (placed_token at (Mark s.Greater) ∷ []) (lex_from m p.Nothing (c ∷ rest)) in
    subst P (sym h) (ap (onto (placed_token at (Mark s.Greater) ∷ [])) (sym (onto_nil (lex_from (m + 1) p.Nothing rest))))

-- ---- names and keywords

both : (x y : Bool) → x && y ≡ true → (x ≡ true) × (y ≡ true)
both true y h = (refl, h)
both false y h = cc

cond_true : (c : Bool) (x y : Step) → c ≡ true → cond c x y ≡ x
cond_true c x y h = ap (λ d. cond d x y) h

cond_false : (c : Bool) (x y : Step) → c ≡ false → cond c x y ≡ y
cond_false c x y h = ap (λ d. cond d x y) h

-- a step that ends nothing
stepped : (m : ℕ) (q r : Pending) (b : ℕ) (bs : List ℕ) → step m q b ≡ goes [] r → lex_from m q (b ∷ bs) ≡ lex_from (m + 1) r bs
unfolding lex_from
stepped m q r b bs e = ap (λ s. follow s (λ u. lex_from (m + 1) u bs)) e ∙ onto_nil (lex_from (m + 1) r bs)

name_step : (at : ℕ) (cs : List ℕ) (m b : ℕ) → is_name_byte b ≡ true → step m (p.Name at cs) b ≡ goes [] (p.Name at (cs ++ b ∷ []))
unfolding step
name_step at cs m b h = cond_true (is_name_byte b) _ _ h

letter_step : (m b : ℕ) → is_letter b ≡ true → step m p.Nothing b ≡ goes [] (p.Name m (b ∷ []))
unfolding step begin
letter_step m b h = cond_true (is_letter b) _ _ h

-- bytes that lead from one pending part to another
abbrev Leads : List ℕ → Pending → Pending → Type 0
Leads bs q r = (m : ℕ) (rest : List ℕ) → (n : ℕ) × (lex_from m q (bs ++ rest) ≡ lex_from n r rest)

append_nil : (bs : List ℕ) → bs ++ [] ≡ bs
append_nil [] = refl
append_nil (b ∷ bs) = ap (λ z. b ∷ z) (append_nil bs)

name_leads : (bs : List ℕ) (at : ℕ) (cs : List ℕ) → all_name_bytes bs ≡ true → Leads bs (p.Name at cs) (p.Name at (cs ++ bs))
name_leads [] at cs h m rest = (m, ap (λ z. lex_from m (p.Name at z) rest) (sym (append_nil cs)))
name_leads (b ∷ bs) at cs h m rest =
    let (h', h'') = both _ _ h in
    let (n, e) = name_leads bs at (cs ++ b ∷ []) h'' (m + 1) rest in
    (n, stepped m (p.Name at cs) (p.Name at (cs ++ b ∷ [])) b (bs ++ rest) (name_step at cs m b h') ∙ e ∙ ap (λ z. lex_from n (p.Name at z) rest) (append_assoc cs (b ∷ []) bs))

-- the bytes are this token, before a space and at the end
abbrev Lexes : List ℕ → Token → Type 0
Lexes bs t = (m : ℕ) (rest : List ℕ) → Apart rest → (n : ℕ) × (lex_from m p.Nothing (bs ++ rest) ≡ onto (placed_token m t ∷ []) (lex_from n p.Nothing rest))

name_lexes : (bs : List ℕ) → is_name_text bs ≡ true → Lexes bs (word_of bs)
name_lexes [] h m rest a = cc
name_lexes (b ∷ bs) h m rest a =
    let (h', h'') = both _ _ h in
    let (n, e) = name_leads bs m (b ∷ []) h'' (m + 1) rest in
    (n, stepped m p.Nothing (p.Name m (b ∷ [])) b (bs ++ rest) (letter_step m b h') ∙ e ∙ name_ends m (b ∷ bs) n rest a)

keyword_lexes : (w : Keyword) → (is_name_text (text_of w) ≡ true) × (word_of (text_of w) ≡ Word w)
unfolding keyword_among
keyword_lexes k.Stream = (refl, refl)
keyword_lexes k.Select = (refl, refl)
keyword_lexes k.From = (refl, refl)
keyword_lexes k.Where = (refl, refl)
keyword_lexes k.Group = (refl, refl)
keyword_lexes k.By = (refl, refl)
keyword_lexes k.And = (refl, refl)
keyword_lexes k.Or = (refl, refl)
keyword_lexes k.Not = (refl, refl)
keyword_lexes k.Rows = (refl, refl)
keyword_lexes k.Range = (refl, refl)
keyword_lexes k.Slide = (refl, refl)
keyword_lexes k.Count = (refl, refl)
keyword_lexes k.Sum = (refl, refl)
keyword_lexes k.Min = (refl, refl)
keyword_lexes k.Max = (refl, refl)
keyword_lexes k.Partition = (refl, refl)
keyword_lexes k.Rstream = (refl, refl)
keyword_lexes k.Istream = (refl, refl)
keyword_lexes k.Dstream = (refl, refl)

-- ---- numbers

abbrev Digits : ℕ → List ℕ → Type 0
Digits n ds = n ≤ 2 ^ 63 → (m : ℕ) (rest : List ℕ) → (k : ℕ) × (lex_from m p.Nothing (ds ++ rest) ≡ lex_from k (p.Number m n) rest)

digit_is : (d : ℕ) → d < 10 → (is_letter (48 + d) ≡ false) × (is_ascii_digit (48 + d) ≡ true)
digit_is d h = (grind (arith, nat_tests), grind (arith, nat_tests))

first_step : (m d : ℕ) → d < 10 → step m p.Nothing (48 + d) ≡ goes [] (p.Number m d)
unfolding step begin
first_step m d h =
    let (h', h'') = digit_is d h in
    let e : 48 + d - 48 ≡ d = omega arith in
    cond_false (is_letter (48 + d)) _ _ h' ∙ cond_true (is_ascii_digit (48 + d)) _ _ h'' ∙ ap (λ n. goes [] (p.Number m n)) e

le_test : (a b : ℕ) → a ≤ b → nat_le a b ≡ true
le_test a b h = grind (arith, nat_tests)

more_step : (m at v d : ℕ) → d < 10 → 10 * v + d ≤ 2 ^ 63 → step m (p.Number at v) (48 + d) ≡ goes [] (p.Number at (10 * v + d))
unfolding step number_more
more_step m at v d h h' =
    let e : 48 + d - 48 ≡ d = omega arith in
    cond_true (is_ascii_digit (48 + d)) _ _ (digit_is d h).1
    ∙ ap (λ n. number_more at (10 * v + n)) e
    ∙ cond_true (nat_le (10 * v + d) (2 ^ 63)) _ _ (le_test (10 * v + d) (2 ^ 63) h')

one_digit : (n : ℕ) → n < 10 → Digits n ((48 + n) ∷ [])
one_digit n h g m rest = (m + 1, stepped m p.Nothing (p.Number m n) (48 + n) rest (first_step m n h))

more_digits : (n : ℕ) (ds : List ℕ) → 10 ≤ n → Digits (n / 10) ds → Digits n (ds ++ ((48 + n % 10) ∷ []))
more_digits n ds h go g m rest =
    let small : n % 10 < 10 = omega arith in
    let whole : 10 * (n / 10) + n % 10 ≡ n = omega arith in
    let (k, e) = go (omega arith) m ((48 + n % 10) ∷ rest) in
    let P : ℕ → Type 0 = λ v. lex_from k (p.Number m (n / 10)) ((48 + n % 10) ∷ rest) ≡ lex_from (k + 1) (p.Number m v) rest in (
      k + 1,
      ap (lex_from m p.Nothing) (append_assoc ds ((48 + n % 10) ∷ []) rest) ∙ e
          ∙ subst P whole (stepped k (p.Number m (n / 10)) (p.Number m (10 * (n / 10) + n % 10)) (48 + n % 10) rest (more_step k m (n / 10) (n % 10) small (omega (arith, whole, g)))),
    )

number_lexes : (n : ℕ) → n ≤ 2 ^ 63 → Lexes (decimal n) (Number n)
number_lexes n h m rest a =
    let (k, e) = decimal_by_steps Digits one_digit more_digits n (omega arith) h m rest in
    (k, e ∙ number_ends m n k rest a)

-- ---- signs

sign_lexes : (sign : Sign) → Lexes (sign_text sign) (Mark sign)
unfolding lex_from step begin
sign_lexes s.Open m rest a = (m + 1, refl)
sign_lexes s.Close m rest a = (m + 1, refl)
sign_lexes s.OpenBracket m rest a = (m + 1, refl)
sign_lexes s.CloseBracket m rest a = (m + 1, refl)
sign_lexes s.Comma m rest a = (m + 1, refl)
sign_lexes s.Semicolon m rest a = (m + 1, refl)
sign_lexes s.Dot m rest a = (m + 1, refl)
sign_lexes s.Star m rest a = (m + 1, refl)
sign_lexes s.Plus m rest a = (m + 1, refl)
sign_lexes s.Minus m rest a = (m + 1, refl)
sign_lexes s.Equal m rest a = (m + 1, refl)
sign_lexes s.Unequal m rest a = (m + 1 + 1, onto_nil (onto (placed_token m (Mark s.Unequal) ∷ []) (lex_from (m + 1 + 1) p.Nothing rest)))
sign_lexes s.AtMost m rest a = (m + 1 + 1, onto_nil (onto (placed_token m (Mark s.AtMost) ∷ []) (lex_from (m + 1 + 1) p.Nothing rest)))
sign_lexes s.AtLeast m rest a = (m + 1 + 1, onto_nil (onto (placed_token m (Mark s.AtLeast) ∷ []) (lex_from (m + 1 + 1) p.Nothing rest)))
sign_lexes s.Less m rest a = (m + 1, onto_nil (lex_from (m + 1) (p.Angle m false) rest) ∙ less_ends m (m + 1) rest a)
sign_lexes s.Greater m rest a = (m + 1, onto_nil (lex_from (m + 1) (p.Angle m true) rest) ∙ greater_ends m (m + 1) rest a)

token_lexes : (t : Token) → IsReal t → Lexes (spell t) t
unfolding spell
token_lexes (Word w) h = let (h', e) = keyword_lexes w in subst (Lexes (text_of w)) e (name_lexes (text_of w) h')
token_lexes (Mark sign) h = sign_lexes sign
token_lexes (Named n) (h, e) = subst (Lexes n) (ap (word_or n) e) (name_lexes n h)
token_lexes (Number n) h = number_lexes n h

-- ---- many tokens

apart : (ts : List Token) → Apart (spaced_text ts)
apart [] = tt
apart (t ∷ ts) = refl

abbrev LexesAll : List ℕ → List Token → Type 0
LexesAll bs ts = (m : ℕ) → (ps : List Placed) × (lex_from m p.Nothing bs ≡ Ok ps) × (map token_of ps ≡ ts)

space_step : (m : ℕ) (bs : List ℕ) → lex_from m p.Nothing (32 ∷ bs) ≡ lex_from (m + 1) p.Nothing bs
unfolding lex_from step begin
space_step m bs = onto_nil (lex_from (m + 1) p.Nothing bs)

at_end : (m : ℕ) → lex_from m p.Nothing [] ≡ Ok []
unfolding lex_from last_token
at_end m = refl

first_then : (t : Token) (ts : List Token) → IsReal t → LexesAll (spaced_text ts) ts → LexesAll (spell t ++ spaced_text ts) (t ∷ ts)
first_then t ts h go m =
    let (n, e) = token_lexes t h m (spaced_text ts) (apart ts) in
    let (ps, e', e'') = go n in
    (placed_token m t ∷ ps, e ∙ ap (onto (placed_token m t ∷ [])) e', ap (λ z. t ∷ z) e'')

spaced_lexes : (ts : List Token) → AllReal ts → LexesAll (spaced_text ts) ts
spaced_lexes [] h m = ([], at_end m, refl)
spaced_lexes (t ∷ ts) (h, h') m =
    let (ps, e, e') = first_then t ts h (spaced_lexes ts h') (m + 1) in
    (ps, space_step m (spell t ++ spaced_text ts) ∙ e, e')

pub spelled_lexes : (ts : List Token) → AllReal ts → HasTokens (spelled_text ts) ts
spelled_lexes [] h = record { placed = []; lexed = (reads_longest [] (Ok [])).0 (at_end 0); same = refl }
spelled_lexes (t ∷ ts) (h, h') =
    let (ps, e, e') = first_then t ts h (spaced_lexes ts h') 0 in
    record { placed = ps; lexed = (reads_longest (spelled_text (t ∷ ts)) (Ok ps)).0 e; same = e' }
