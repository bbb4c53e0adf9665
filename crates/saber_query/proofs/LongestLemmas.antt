-- The tokens that the machine reads are those of longest match, and there are no others.
use Rattle.std.proofs.Common.{◌≡◌, ℕ, ◌+◌, ◌-◌, ◌*◌, ◌^◌, ◌<◌, ◌≤◌, List, [], ◌∷◌, ◌++◌, map, length, length-append, Option, Some, None, Bool, true, false, cond, ◌&&◌, Ok, Err, refl, sym, ◌∙◌, ap, subst, arith, append_assoc, ◌⊎◌, inl, inr, ◌↔◌, if◌then◌else◌}
use Rattle.std.proofs.lemmas.Bool.Decides.{nat_tests}
use Rattle.std.specs.Prelude.{nat_le, ◌==◌}
use Rattle.std.specs.Char.{is_ascii_digit, digit_value}
use Rattle.std.specs.List.{list_all}
use Rattle.std.specs.Str.Parse.{digits_value, digits_value_after}
use Rattle.saber_query.specs.declared.token.Sign.{Sign}
use Rattle.saber_query.specs.declared.token.Sign.TheVariants as s
use Rattle.saber_query.specs.declared.token.Token.{Token}
use Rattle.saber_query.specs.declared.token.Token.TheVariants.{Mark, Number}
use Rattle.saber_query.specs.declared.token.Placed.{Placed}
use Rattle.saber_query.specs.declared.lexer.Pending.{Pending}
use Rattle.saber_query.specs.declared.lexer.Pending.TheVariants as p
use Rattle.saber_query.specs.declared.fault.Cause.{Cause}
use Rattle.saber_query.specs.declared.fault.Cause.TheVariants.{BadByte, NumberRange}
use Rattle.saber_query.specs.declared.fault.QueryFault.TheVariants.{At}
use Rattle.saber_query.specs.Tokens.{word_of, sign_text}
use Rattle.saber_query.specs.Real.{is_name_text, IsReal, AllReal}
use Rattle.saber_query.specs.Lexing.{is_letter, is_name_byte, is_space, single, double, angle, placed_token, Step, goes, fails, after, if_single, begin, number_more, if_double, step, last_token, onto, follow, lex_from, lexed_text}
use Rattle.saber_query.specs.Longest.{Answer, is_number_text, Spells, a_word, a_number, a_sign, IsLongest, BeginsNone, Matches, at_end, passed, taken, too_great, bad}
use Rattle.saber_query.specs.Reading.{token_of}
use Rattle.saber_query.proofs.RealLemmas.{all_name_bytes, by_test, word_real, lexed_fine}

abbrev all_digits : List ℕ → Bool
all_digits bs = list_all is_ascii_digit bs

-- ---- first bytes

abbrev head : List ℕ → ℕ
head [] = 0
head (b ∷ bs) = b

both : (x y : Bool) → x && y ≡ true → (x ≡ true) × (y ≡ true)
both true y h = (refl, h)
both false y h = cc

letter_no_digit : (b : ℕ) → is_letter b ≡ true → is_ascii_digit b ≡ false
letter_no_digit b h = grind (arith, nat_tests)

space_no_letter : (b : ℕ) → is_space b ≡ true → is_letter b ≡ false
space_no_letter b h = grind (arith, nat_tests)

space_no_digit : (b : ℕ) → is_space b ≡ true → is_ascii_digit b ≡ false
space_no_digit b h = grind (arith, nat_tests)

abbrev Sign_head : ℕ → Type 0
Sign_head b = (is_letter b ≡ false) × (is_ascii_digit b ≡ false) × (is_space b ≡ false)

sign_head : (sign : Sign) → Sign_head (head (sign_text sign))
sign_head s.Open = (refl, refl, refl)
sign_head _ = (refl, refl, refl)

headed : (sign : Sign) (b : ℕ) (bs : List ℕ) → b ∷ bs ≡ sign_text sign → Sign_head b
headed sign b bs e = subst Sign_head (sym (ap head e)) (sign_head sign)

no_empty : (t : Token) → ¬ (Spells [] t)
no_empty t (a_word h e) = cc
no_empty t (a_number h e) = cc
no_empty t (a_sign sign h e) = none sign h where
  none : (sign : Sign) → [] ≡ sign_text sign → ⊥
  none s.Open e = cc
  none _ e = cc

true_false : {P : Type 0} (b : Bool) → b ≡ true → b ≡ false → P
true_false b h g = cc

no_space : (b : ℕ) (bs : List ℕ) → is_space b ≡ true → (t : Token) → ¬ (Spells (b ∷ bs) t)
no_space b bs h t (a_word g e) = true_false (is_letter b) (both (is_letter b) (all_name_bytes bs) g).0 (space_no_letter b h)
no_space b bs h t (a_number g e) = true_false (is_ascii_digit b) (both (is_ascii_digit b) (all_digits bs) g).0 (space_no_digit b h)
no_space b bs h t (a_sign sign g e) = true_false (is_space b) h (headed sign b bs g).2

-- ---- longest fronts

longest_end : (bs : List ℕ) → IsLongest bs []
longest_end bs [] left t e l = refl
longest_end bs (b ∷ more) left t e l = cc

longest_before : (bs : List ℕ) (b : ℕ) (rest : List ℕ) → ((more : List ℕ) (t : Token) → ¬ (Spells (bs ++ b ∷ more) t)) → IsLongest bs (b ∷ rest)
longest_before bs b rest h [] left t e l = refl
longest_before bs b rest h (c ∷ more) left t e l =
    let same : c ≡ b = ap head (sym e) in
    let P : ℕ → Type 0 = λ x. Spells (bs ++ x ∷ more) t in
    absurd (h more t (subst P same l))

names_stop : (bs : List ℕ) (b : ℕ) (more : List ℕ) → is_name_byte b ≡ false → all_name_bytes (bs ++ b ∷ more) ≡ false
names_stop [] b more h = ap (λ x. x && all_name_bytes more) h
names_stop (c ∷ bs) b more h = ap (λ x. is_name_byte c && x) (names_stop bs b more h) ∙ none (is_name_byte c) where
  none : (x : Bool) → x && false ≡ false
  none true = refl
  none false = refl

digits_stop : (bs : List ℕ) (b : ℕ) (more : List ℕ) → is_ascii_digit b ≡ false → all_digits (bs ++ b ∷ more) ≡ false
digits_stop [] b more h = ap (λ x. x && all_digits more) h
digits_stop (c ∷ bs) b more h = ap (λ x. is_ascii_digit c && x) (digits_stop bs b more h) ∙ none (is_ascii_digit c) where
  none : (x : Bool) → x && false ≡ false
  none true = refl
  none false = refl

name_stops : (bs : List ℕ) (b : ℕ) → is_name_text bs ≡ true → is_name_byte b ≡ false → (more : List ℕ) (t : Token) → ¬ (Spells (bs ++ b ∷ more) t)
name_stops [] b h g more t l = cc
name_stops (c ∷ cs) b h g more t (a_word k e) = true_false (all_name_bytes (cs ++ b ∷ more)) (both (is_letter c) (all_name_bytes (cs ++ b ∷ more)) k).1 (names_stop cs b more g)
name_stops (c ∷ cs) b h g more t (a_number k e) = true_false (is_ascii_digit c) (both (is_ascii_digit c) (all_digits (cs ++ b ∷ more)) k).0 (letter_no_digit c (both (is_letter c) (all_name_bytes cs) h).0)
name_stops (c ∷ cs) b h g more t (a_sign sign k e) = true_false (is_letter c) (both (is_letter c) (all_name_bytes cs) h).0 (headed sign c (cs ++ b ∷ more) k).0

number_stops : (bs : List ℕ) (b : ℕ) → is_number_text bs ≡ true → is_ascii_digit b ≡ false → (more : List ℕ) (t : Token) → ¬ (Spells (bs ++ b ∷ more) t)
number_stops [] b h g more t l = cc
number_stops (c ∷ cs) b h g more t (a_word k e) = true_false (is_ascii_digit c) (both (is_ascii_digit c) (all_digits cs) h).0 (letter_no_digit c (both (is_letter c) (all_name_bytes (cs ++ b ∷ more)) k).0)
number_stops (c ∷ cs) b h g more t (a_number k e) = true_false (all_digits (cs ++ b ∷ more)) (both (is_ascii_digit c) (all_digits (cs ++ b ∷ more)) k).1 (digits_stop cs b more g)
number_stops (c ∷ cs) b h g more t (a_sign sign k e) = true_false (is_ascii_digit c) (both (is_ascii_digit c) (all_digits cs) h).0 (headed sign c (cs ++ b ∷ more) k).1

-- ---- signs

some_of : (b n : ℕ) (sign : Sign) → n ∷ [] ≡ sign_text sign → (b == n) ≡ true → (t : Sign) → Some sign ≡ Some t → b ∷ [] ≡ sign_text t
some_of b n sign e h t g = let same : b ≡ n = grind (arith, nat_tests) in let k : sign ≡ t = cc in ap (λ x. x ∷ []) same ∙ e ∙ ap sign_text k

by_sign : (c : Bool) (P : Option Sign → Type 0) (x y : Option Sign) → (c ≡ true → P x) → (c ≡ false → P y) → P (cond c x y)
by_sign true P x y f g = f refl
by_sign false P x y f g = g refl

single_text : (b : ℕ) (t : Sign) → single b ≡ Some t → b ∷ [] ≡ sign_text t
single_text b =
    let P : Option Sign → Type 0 = λ o. (t : Sign) → o ≡ Some t → b ∷ [] ≡ sign_text t in
    by_sign (b == 40) P _ _ (some_of b 40 s.Open refl)
    (λ _. by_sign (b == 41) P _ _ (some_of b 41 s.Close refl)
    (λ _. by_sign (b == 91) P _ _ (some_of b 91 s.OpenBracket refl)
    (λ _. by_sign (b == 93) P _ _ (some_of b 93 s.CloseBracket refl)
    (λ _. by_sign (b == 44) P _ _ (some_of b 44 s.Comma refl)
    (λ _. by_sign (b == 59) P _ _ (some_of b 59 s.Semicolon refl)
    (λ _. by_sign (b == 46) P _ _ (some_of b 46 s.Dot refl)
    (λ _. by_sign (b == 42) P _ _ (some_of b 42 s.Star refl)
    (λ _. by_sign (b == 43) P _ _ (some_of b 43 s.Plus refl)
    (λ _. by_sign (b == 45) P _ _ (some_of b 45 s.Minus refl)
    (λ _. by_sign (b == 61) P _ _ (some_of b 61 s.Equal refl) (λ _ t e. cc)))))))))))

-- a sign of two bytes begins with none of one byte
long_sign : (t : Sign) (c x : ℕ) (more : List ℕ) → c ∷ x ∷ more ≡ sign_text t → single c ≡ None
long_sign s.Unequal c x more e = ap single (ap head e)
long_sign s.AtMost c x more e = ap single (ap head e)
long_sign s.AtLeast c x more e = ap single (ap head e)
long_sign _ c x more e = cc

single_stops : (c : ℕ) (t : Sign) → single c ≡ Some t → (x : ℕ) (more : List ℕ) (u : Token) → ¬ (Spells (c ∷ x ∷ more) u)
single_stops c t h x more u (a_word k e) = true_false (is_letter c) (both (is_letter c) (all_name_bytes (x ∷ more)) k).0 (headed t c [] (single_text c t h)).0
single_stops c t h x more u (a_number k e) = true_false (is_ascii_digit c) (both (is_ascii_digit c) (all_digits (x ∷ more)) k).0 (headed t c [] (single_text c t h)).1
single_stops c t h x more u (a_sign v k e) = let n : single c ≡ None = long_sign v c x more k in cc

longest_single : (c : ℕ) (t : Sign) → single c ≡ Some t → (rest : List ℕ) → IsLongest (c ∷ []) rest
longest_single c t h [] = longest_end (c ∷ [])
longest_single c t h (x ∷ rest) = longest_before (c ∷ []) x rest (λ more. single_stops c t h x more)

no_sign : (t : Sign) (b : ℕ) → b ≡ head (sign_text t) → single b ≡ None → (b == 60) ≡ false → (b == 62) ≡ false → ⊥
no_sign s.Less b e h f g = let k : (b == 60) ≡ true = ap (λ x. x == 60) e in cc
no_sign s.AtMost b e h f g = let k : (b == 60) ≡ true = ap (λ x. x == 60) e in cc
no_sign s.Unequal b e h f g = let k : (b == 60) ≡ true = ap (λ x. x == 60) e in cc
no_sign s.Greater b e h f g = let k : (b == 62) ≡ true = ap (λ x. x == 62) e in cc
no_sign s.AtLeast b e h f g = let k : (b == 62) ≡ true = ap (λ x. x == 62) e in cc
no_sign t b e h f g = let k : single b ≡ single (head (sign_text t)) = ap single e in cc

begins_none : (b : ℕ) (rest : List ℕ) → is_letter b ≡ false → is_ascii_digit b ≡ false → single b ≡ None → (b == 60) ≡ false → (b == 62) ≡ false → BeginsNone (b ∷ rest)
begins_none b rest h d n f g [] left t e l = no_empty t l
begins_none b rest h d n f g (c ∷ cs) left t e l = by (subst (λ (x : ℕ). Spells (x ∷ cs) t) (ap head (sym e)) l) where
  by : ¬ (Spells (b ∷ cs) t)
  by (a_word k j) = true_false (is_letter b) (both (is_letter b) (all_name_bytes cs) k).0 h
  by (a_number k j) = true_false (is_ascii_digit b) (both (is_ascii_digit b) (all_digits cs) k).0 d
  by (a_sign u k j) = no_sign u b (ap head k) n f g

abbrev angle_byte : Bool → ℕ
angle_byte false = 60
angle_byte true = 62

double_text : (greater : Bool) (b : ℕ) (t : Sign) → double greater b ≡ Some t → angle_byte greater ∷ b ∷ [] ≡ sign_text t
double_text false b =
    let P : Option Sign → Type 0 = λ o. (t : Sign) → o ≡ Some t → 60 ∷ b ∷ [] ≡ sign_text t in
    by_sign (b == 61) P _ _ (λ e t h. let same : b ≡ 61 = grind (arith, nat_tests) in let k : s.AtMost ≡ t = cc in ap (λ x. 60 ∷ x ∷ []) same ∙ ap sign_text k)
    (λ _. by_sign (b == 62) P _ _ (λ e t h. let same : b ≡ 62 = grind (arith, nat_tests) in let k : s.Unequal ≡ t = cc in ap (λ x. 60 ∷ x ∷ []) same ∙ ap sign_text k) (λ _ t h. cc))
double_text true b =
    let P : Option Sign → Type 0 = λ o. (t : Sign) → o ≡ Some t → 62 ∷ b ∷ [] ≡ sign_text t in
    by_sign (b == 61) P _ _ (λ e t h. let same : b ≡ 61 = grind (arith, nat_tests) in let k : s.AtLeast ≡ t = cc in ap (λ x. 62 ∷ x ∷ []) same ∙ ap sign_text k) (λ _ t h. cc)

angle_text : (greater : Bool) → angle_byte greater ∷ [] ≡ sign_text (angle greater)
angle_text false = refl
angle_text true = refl

angle_head : (greater : Bool) → Sign_head (angle_byte greater)
angle_head false = (refl, refl, refl)
angle_head true = (refl, refl, refl)

no_three : (t : Sign) (a b c : ℕ) (more : List ℕ) → a ∷ b ∷ c ∷ more ≡ sign_text t → ⊥
no_three s.Open a b c more e = cc
no_three _ a b c more e = cc

double_stops : (greater : Bool) (b x : ℕ) (more : List ℕ) (t : Token) → ¬ (Spells (angle_byte greater ∷ b ∷ x ∷ more) t)
double_stops greater b x more t (a_word k e) = true_false (is_letter (angle_byte greater)) (both (is_letter (angle_byte greater)) (all_name_bytes (b ∷ x ∷ more)) k).0 (angle_head greater).0
double_stops greater b x more t (a_number k e) = true_false (is_ascii_digit (angle_byte greater)) (both (is_ascii_digit (angle_byte greater)) (all_digits (b ∷ x ∷ more)) k).0 (angle_head greater).1
double_stops greater b x more t (a_sign u k e) = no_three u (angle_byte greater) b x more k

longest_double : (greater : Bool) (b : ℕ) (rest : List ℕ) → IsLongest (angle_byte greater ∷ b ∷ []) rest
longest_double greater b [] = longest_end (angle_byte greater ∷ b ∷ [])
longest_double greater b (x ∷ rest) = longest_before (angle_byte greater ∷ b ∷ []) x rest (λ more. double_stops greater b x more)

differ : {P : Type 0} (a b : ℕ) → a ≡ b → ¬ (a ≡ b) → P
differ a b e n = absurd (n e)

doubled : (greater : Bool) (t : Sign) (b : ℕ) (more : List ℕ) → angle_byte greater ∷ b ∷ more ≡ sign_text t → double greater b ≡ Some t
doubled false s.AtMost b more e = ap (double false) (let k : b ≡ 61 = cc in k)
doubled false s.Unequal b more e = ap (double false) (let k : b ≡ 62 = cc in k)
doubled true s.AtLeast b more e = ap (double true) (let k : b ≡ 61 = cc in k)
doubled false s.AtLeast b more e = differ 60 62 (ap head e) (omega arith)
doubled true s.AtMost b more e = differ 62 60 (ap head e) (omega arith)
doubled true s.Unequal b more e = differ 62 60 (ap head e) (omega arith)
doubled false _ b more e = cc
doubled true _ b more e = cc

angle_stops : (greater : Bool) (b : ℕ) → double greater b ≡ None → (more : List ℕ) (t : Token) → ¬ (Spells (angle_byte greater ∷ b ∷ more) t)
angle_stops greater b h more t (a_word k e) = true_false (is_letter (angle_byte greater)) (both (is_letter (angle_byte greater)) (all_name_bytes (b ∷ more)) k).0 (angle_head greater).0
angle_stops greater b h more t (a_number k e) = true_false (is_ascii_digit (angle_byte greater)) (both (is_ascii_digit (angle_byte greater)) (all_digits (b ∷ more)) k).0 (angle_head greater).1
angle_stops greater b h more t (a_sign u k e) = let j : double greater b ≡ Some u = doubled greater u b more k in cc

-- ---- what the machine reads

onto_nil : (r : Answer) → onto [] r ≡ r
onto_nil (Ok ts) = refl
onto_nil (Err f) = refl

onto_onto : (t : Placed) (ts : List Placed) (r : Answer) → onto (t ∷ ts) r ≡ onto (t ∷ []) (onto ts r)
onto_onto t ts (Ok us) = refl
onto_onto t ts (Err f) = refl

follow_after : (t : Placed) (x : Step) (rest : Pending → Answer) → follow (after t x) rest ≡ onto (t ∷ []) (follow x rest)
follow_after t (goes ts q) rest = onto_onto t ts (rest q)
follow_after t (fails f) rest = refl

-- a token is taken, and the rest is read from behind it
take : (start at : ℕ) (bs rest : List ℕ) (t : Token) (r : Answer) → Spells bs t → IsLongest bs rest → IsReal t → start + length bs ≡ at → Matches at rest r → Matches start (bs ++ rest) (onto (placed_token start t ∷ []) r)
take start at bs rest t r l longest real e m = taken start bs rest t r l longest real (subst (λ n. Matches n rest r) (sym e) m)

value_one : (b : ℕ) → is_ascii_digit b ≡ true → digits_value 10 (b ∷ []) ≡ b - 48
value_one b h = grind (arith, nat_tests)

value_more : (n : ℕ) (ds : List ℕ) (b : ℕ) → is_ascii_digit b ≡ true → digits_value_after 10 n (ds ++ b ∷ []) ≡ 10 * digits_value_after 10 n ds + (b - 48)
value_more n [] b h = grind (arith, nat_tests)
value_more n (d ∷ ds) b h = value_more (n * 10 + digit_value d) ds b h

digits_more : (ds : List ℕ) (b : ℕ) → is_ascii_digit b ≡ true → all_digits ds ≡ true → all_digits (ds ++ b ∷ []) ≡ true
digits_more [] b h g = ap (λ x. x && true) h
digits_more (d ∷ ds) b h g = let k = both (is_ascii_digit d) (all_digits ds) g in ap (λ x. x && all_digits (ds ++ b ∷ [])) k.0 ∙ digits_more ds b h k.1

number_text_more : (ds : List ℕ) (b : ℕ) → is_ascii_digit b ≡ true → is_number_text ds ≡ true → is_number_text (ds ++ b ∷ []) ≡ true
number_text_more [] b h g = cc
number_text_more (d ∷ ds) b h g = let k = both (is_ascii_digit d) (all_digits ds) g in ap (λ x. x && all_digits (ds ++ b ∷ [])) k.0 ∙ digits_more ds b h k.1

names_more : (ds : List ℕ) (b : ℕ) → is_name_byte b ≡ true → all_name_bytes ds ≡ true → all_name_bytes (ds ++ b ∷ []) ≡ true
names_more [] b h g = ap (λ x. x && true) h
names_more (d ∷ ds) b h g = let k = both (is_name_byte d) (all_name_bytes ds) g in ap (λ x. x && all_name_bytes (ds ++ b ∷ [])) k.0 ∙ names_more ds b h k.1

name_text_more : (ds : List ℕ) (b : ℕ) → is_name_byte b ≡ true → is_name_text ds ≡ true → is_name_text (ds ++ b ∷ []) ≡ true
name_text_more [] b h g = cc
name_text_more (d ∷ ds) b h g = let k = both (is_letter d) (all_name_bytes ds) g in ap (λ x. x && all_name_bytes (ds ++ b ∷ [])) k.0 ∙ names_more ds b h k.1

-- a number that is too great already
great : (text : List ℕ) (start : ℕ) (ds : List ℕ) → is_number_text ds ≡ true → 2 ^ 63 < digits_value 10 ds → Matches start (ds ++ text) (Err (At start NumberRange))
great [] start ds h g = too_great start ds [] (digits_value 10 ds) (a_number h refl) (longest_end ds) g
great (b ∷ bs) start ds h g = by (great bs start (ds ++ b ∷ [])) (is_ascii_digit b) refl where
  by : (is_number_text (ds ++ b ∷ []) ≡ true → 2 ^ 63 < digits_value 10 (ds ++ b ∷ []) → Matches start ((ds ++ b ∷ []) ++ bs) (Err (At start NumberRange))) → (c : Bool) → is_ascii_digit b ≡ c → Matches start (ds ++ b ∷ bs) (Err (At start NumberRange))
  by next true e =
      let P : List ℕ → Type 0 = λ xs. Matches start xs (Err (At start NumberRange)) in
      subst P (append_assoc ds (b ∷ []) bs) (next (number_text_more ds b e h) (omega (arith, value_more 0 ds b e)))
  by next false e = too_great start ds (b ∷ bs) (digits_value 10 ds) (a_number h refl) (longest_before ds b bs (number_stops ds b h e)) g

-- what is pending, and then this text, is read by longest match
record From (text : List ℕ) : Type 0 where
  fresh : (at : ℕ) → Matches at text (lex_from at p.Nothing text)
  name : (at start : ℕ) (bs : List ℕ) → is_name_text bs ≡ true → start + length bs ≡ at → Matches start (bs ++ text) (lex_from at (p.Name start bs) text)
  number : (at start n : ℕ) (ds : List ℕ) → is_number_text ds ≡ true → start + length ds ≡ at → digits_value 10 ds ≡ n → n ≤ 2 ^ 63 → Matches start (ds ++ text) (lex_from at (p.Number start n) text)
  angled : (at start : ℕ) (greater : Bool) → start + 1 ≡ at → Matches start (angle_byte greater ∷ text) (lex_from at (p.Angle start greater) text)

from_end : From []
unfolding lex_from last_token
from_end = record {
  fresh = λ at. at_end at;
  name = λ at start bs h e. take start at bs [] (word_of bs) (Ok []) (a_word h refl) (longest_end bs) (word_real bs h) e (at_end at);
  number = λ at start n ds h e v small. subst (λ m. Matches start (ds ++ []) (Ok (placed_token start (Number m) ∷ []))) v (take start at ds [] (Number (digits_value 10 ds)) (Ok []) (a_number h refl) (longest_end ds) (omega arith) e (at_end at));
  angled = λ at start greater e. take start at (angle_byte greater ∷ []) [] (Mark (angle greater)) (Ok []) (a_sign (angle greater) (angle_text greater) refl) (longest_end (angle_byte greater ∷ [])) tt e (at_end at);
}

begun : (at b : ℕ) (rest : List ℕ) → From rest → Matches at (b ∷ rest) (follow (begin at b) (λ q. lex_from (at + 1) q rest))
unfolding begin
begun at b rest f =
    let P : Step → Type 0 = λ x. Matches at (b ∷ rest) (follow x (λ q. lex_from (at + 1) q rest)) in
    by_test (is_letter b) P _ _ (λ e. alone (lex_from (at + 1) (p.Name at (b ∷ [])) rest) (f.name (at + 1) at (b ∷ []) (ap (λ c. c && true) e) (omega arith)))
    (λ l. by_test (is_ascii_digit b) P _ _ (λ e. alone (lex_from (at + 1) (p.Number at (b - 48)) rest) (f.number (at + 1) at (b - 48) (b ∷ []) (ap (λ c. c && true) e) (omega arith) (value_one b e) (small b e)))
    (λ d. by_test (b == 60) P _ _ (λ e. let same : b ≡ 60 = grind (arith, nat_tests) in subst (λ c. Matches at (c ∷ rest) (onto [] (lex_from (at + 1) (p.Angle at false) rest))) (sym same) (subst (Matches at (60 ∷ rest)) (sym (onto_nil (lex_from (at + 1) (p.Angle at false) rest))) (f.angled (at + 1) at false refl)))
    (λ n. by_test (b == 62) P _ _ (λ e. let same : b ≡ 62 = grind (arith, nat_tests) in subst (λ c. Matches at (c ∷ rest) (onto [] (lex_from (at + 1) (p.Angle at true) rest))) (sym same) (subst (Matches at (62 ∷ rest)) (sym (onto_nil (lex_from (at + 1) (p.Angle at true) rest))) (f.angled (at + 1) at true refl)))
    (λ g. by_test (is_space b) P _ _ (λ e. alone (lex_from (at + 1) p.Nothing rest) (passed at b rest (lex_from (at + 1) p.Nothing rest) e (f.fresh (at + 1))))
    (λ o. signed l d n g o (single b) refl)))))
  where
    alone : (r : Answer) → Matches at (b ∷ rest) r → Matches at (b ∷ rest) (onto [] r)
    alone r m = subst (Matches at (b ∷ rest)) (sym (onto_nil r)) m

    small : (c : ℕ) → is_ascii_digit c ≡ true → c - 48 ≤ 2 ^ 63
    small c h = grind (arith, nat_tests)

    signed : is_letter b ≡ false → is_ascii_digit b ≡ false → (b == 60) ≡ false → (b == 62) ≡ false → is_space b ≡ false → (o : Option Sign) → single b ≡ o → Matches at (b ∷ rest) (follow (if_single at o) (λ q. lex_from (at + 1) q rest))
    signed l d n g o (Some t) e = take at (at + 1) (b ∷ []) rest (Mark t) (lex_from (at + 1) p.Nothing rest) (a_sign t (single_text b t e) refl) (longest_single b t e rest) tt (omega arith) (f.fresh (at + 1))
    signed l d n g o None e = bad at b rest o (begins_none b rest l d e n g)

from_more : (b : ℕ) (rest : List ℕ) → From rest → From (b ∷ rest)
unfolding lex_from step number_more
from_more b rest f = record {
  fresh = λ at. begun at b rest f;
  name = λ at start bs h e.
      let P : Step → Type 0 = λ x. Matches start (bs ++ b ∷ rest) (follow x (λ q. lex_from (at + 1) q rest)) in
      by_test (is_name_byte b) P _ _
      (λ k. let Q : List ℕ → Type 0 = λ xs. Matches start xs (onto [] (lex_from (at + 1) (p.Name start (bs ++ b ∷ [])) rest)) in
      subst Q (append_assoc bs (b ∷ []) rest) (subst (Matches start ((bs ++ b ∷ []) ++ rest)) (sym (onto_nil (lex_from (at + 1) (p.Name start (bs ++ b ∷ [])) rest))) (f.name (at + 1) start (bs ++ b ∷ []) (name_text_more bs b k h) (longer start at bs b e))))
      (λ k. behind start at bs b (word_of bs) (a_word h refl) (longest_before bs b rest (name_stops bs b h k)) (word_real bs h) e);
  number = λ at start n ds h e v small.
      let P : Step → Type 0 = λ x. Matches start (ds ++ b ∷ rest) (follow x (λ q. lex_from (at + 1) q rest)) in
      by_test (is_ascii_digit b) P _ _
      (λ k.
      let more = value_more 0 ds b k in
      by_test (nat_le (10 * n + (b - 48)) (2 ^ 63)) P _ _
      (λ w. let low : 10 * n + (b - 48) ≤ 2 ^ 63 = grind (arith, nat_tests) in
      let Q : List ℕ → Type 0 = λ xs. Matches start xs (onto [] (lex_from (at + 1) (p.Number start (10 * n + (b - 48))) rest)) in
      subst Q (append_assoc ds (b ∷ []) rest) (subst (Matches start ((ds ++ b ∷ []) ++ rest)) (sym (onto_nil (lex_from (at + 1) (p.Number start (10 * n + (b - 48))) rest))) (f.number (at + 1) start (10 * n + (b - 48)) (ds ++ b ∷ []) (number_text_more ds b k h) (longer start at ds b e) (omega (arith, more, v)) low)))
      (λ w. let high : 2 ^ 63 < 10 * n + (b - 48) = grind (arith, nat_tests) in
      let Q : List ℕ → Type 0 = λ xs. Matches start xs (Err (At start NumberRange)) in
      subst Q (append_assoc ds (b ∷ []) rest) (great rest start (ds ++ b ∷ []) (number_text_more ds b k h) (omega (arith, more, v)))))
      (λ k. let Q : ℕ → Type 0 = λ m. Matches start (ds ++ b ∷ rest) (follow (after (placed_token start (Number m)) (begin at b)) (λ q. lex_from (at + 1) q rest)) in
      subst Q v (behind start at ds b (Number (digits_value 10 ds)) (a_number h refl) (longest_before ds b rest (number_stops ds b h k)) (omega arith) e));
  angled = λ at start greater e. sign_more at start greater e (double greater b) refl;
}
  where
    longer : (start at : ℕ) (bs : List ℕ) (c : ℕ) → start + length bs ≡ at → start + length (bs ++ c ∷ []) ≡ at + 1
    longer start at bs c e = omega (arith, length-append bs (c ∷ []))

    -- the token is taken before this byte
    behind : (start at : ℕ) (bs : List ℕ) (c : ℕ) (t : Token) → Spells bs t → IsLongest bs (b ∷ rest) → IsReal t → start + length bs ≡ at → Matches start (bs ++ b ∷ rest) (follow (after (placed_token start t) (begin at b)) (λ q. lex_from (at + 1) q rest))
    behind start at bs c t l longest real e =
        let k = begin at b in
        subst (Matches start (bs ++ b ∷ rest)) (sym (follow_after (placed_token start t) k (λ q. lex_from (at + 1) q rest)))
        (take start at bs (b ∷ rest) t (follow k (λ q. lex_from (at + 1) q rest)) l longest real e (begun at b rest f))

    sign_more : (at start : ℕ) (greater : Bool) → start + 1 ≡ at → (o : Option Sign) → double greater b ≡ o → Matches start (angle_byte greater ∷ b ∷ rest) (follow (if_double at start greater b o) (λ q. lex_from (at + 1) q rest))
    sign_more at start greater e (Some t) k = take start (at + 1) (angle_byte greater ∷ b ∷ []) rest (Mark t) (lex_from (at + 1) p.Nothing rest) (a_sign t (double_text greater b t k) refl) (longest_double greater b rest) tt (omega arith) (f.fresh (at + 1))
    sign_more at start greater e None k = behind start at (angle_byte greater ∷ []) b (Mark (angle greater)) (a_sign (angle greater) (angle_text greater) refl) (longest_before (angle_byte greater ∷ []) b rest (angle_stops greater b k)) tt e

from : (text : List ℕ) → From text
from [] = from_end
from (b ∷ rest) = from_more b rest (from rest)

pub read : (text : List ℕ) → Matches 0 text (lexed_text text)
read text = (from text).fresh 0

-- ---- there is one way

-- two ways to part a list: one front begins the other
abbrev Parts : List ℕ → List ℕ → List ℕ → List ℕ → Type 0
Parts xs ys us vs = ((more : List ℕ) × (us ≡ xs ++ more) × (ys ≡ more ++ vs)) ⊎ ((more : List ℕ) × (xs ≡ us ++ more) × (vs ≡ more ++ ys))

parts : (xs ys us vs : List ℕ) → xs ++ ys ≡ us ++ vs → Parts xs ys us vs
parts [] ys us vs e = inl (us, refl, e)
parts (x ∷ xs) ys [] vs e = inr (x ∷ xs, refl, sym e)
parts (x ∷ xs) ys (u ∷ us) vs e = elim (parts xs ys us vs cc) [
  | inl h ↦ inl (h.0, (let k : x ≡ u = ap head e in ap (λ z. z ∷ us) (sym k) ∙ ap (λ z. x ∷ z) h.1), h.2)
  | inr h ↦ inr (h.0, (let k : x ≡ u = ap head e in ap (λ z. z ∷ xs) k ∙ ap (λ z. u ∷ z) h.1), h.2)
]

append_nil : (xs : List ℕ) → xs ++ [] ≡ xs
append_nil [] = refl
append_nil (x ∷ xs) = ap (λ z. x ∷ z) (append_nil xs)

-- the longest front is one
one_front : (xs ys us vs : List ℕ) (t u : Token) → Spells xs t → Spells us u → IsLongest xs ys → IsLongest us vs → xs ++ ys ≡ us ++ vs → (xs ≡ us) × (ys ≡ vs)
one_front xs ys us vs t u l l' h h' e = elim (parts xs ys us vs e) [
  | inl k ↦ let none : k.0 ≡ [] = h k.0 vs u k.2 (subst (λ (zs : List ℕ). Spells zs u) k.1 l') in (sym (k.1 ∙ ap (λ z. xs ++ z) none ∙ append_nil xs), k.2 ∙ ap (λ z. z ++ vs) none)
  | inr k ↦ let none : k.0 ≡ [] = h' k.0 ys t k.2 (subst (λ (zs : List ℕ). Spells zs t) k.1 l) in (k.1 ∙ ap (λ z. us ++ z) none ∙ append_nil us, sym (k.2 ∙ ap (λ z. z ++ ys) none))
]

name_no_number : {P : Type 0} (bs : List ℕ) → is_name_text bs ≡ true → is_number_text bs ≡ true → P
name_no_number [] h g = cc
name_no_number (b ∷ bs) h g = true_false (is_ascii_digit b) (both (is_ascii_digit b) (all_digits bs) g).0 (letter_no_digit b (both (is_letter b) (all_name_bytes bs) h).0)

name_no_sign : {P : Type 0} (bs : List ℕ) (t : Sign) → is_name_text bs ≡ true → bs ≡ sign_text t → P
name_no_sign [] t h e = cc
name_no_sign (b ∷ bs) t h e = true_false (is_letter b) (both (is_letter b) (all_name_bytes bs) h).0 (headed t b bs e).0

number_no_sign : {P : Type 0} (bs : List ℕ) (t : Sign) → is_number_text bs ≡ true → bs ≡ sign_text t → P
number_no_sign [] t h e = cc
number_no_sign (b ∷ bs) t h e = true_false (is_ascii_digit b) (both (is_ascii_digit b) (all_digits bs) h).0 (headed t b bs e).1

-- signs are told apart by their texts
abbrev sign_of : List ℕ → Option Sign
sign_of [] = None
sign_of (b ∷ []) = if b == 60 then Some s.Less else (if b == 62 then Some s.Greater else single b)
sign_of (b ∷ c ∷ bs) = double (b == 62) c

sign_back : (t : Sign) → sign_of (sign_text t) ≡ Some t
sign_back s.Open = refl
sign_back _ = refl

one_token : (bs : List ℕ) (t u : Token) → Spells bs t → Spells bs u → t ≡ u
one_token bs t u (a_word h e) (a_word g f) = e ∙ sym f
one_token bs t u (a_word h e) (a_number g f) = name_no_number bs h g
one_token bs t u (a_word h e) (a_sign x g f) = name_no_sign bs x h g
one_token bs t u (a_number h e) (a_word g f) = name_no_number bs g h
one_token bs t u (a_number h e) (a_number g f) = e ∙ sym f
one_token bs t u (a_number h e) (a_sign x g f) = number_no_sign bs x h g
one_token bs t u (a_sign x h e) (a_word g f) = name_no_sign bs x g h
one_token bs t u (a_sign x h e) (a_number g f) = number_no_sign bs x g h
one_token bs t u (a_sign x h e) (a_sign y g f) = let k : Some x ≡ Some y = sym (sign_back x) ∙ ap sign_of (sym h ∙ g) ∙ sign_back y in let same : x ≡ y = cc in e ∙ ap (λ z. Mark z) same ∙ sym f

-- what a text can have is no number that is too great
not_real : {P : Type 0} (bs : List ℕ) (t : Token) (n : ℕ) → Spells bs t → IsReal t → Spells bs (Number n) → 2 ^ 63 < n → P
not_real bs t n l real m g = let small : n ≤ 2 ^ 63 = subst IsReal (one_token bs t (Number n) l m) real in absurd (omega (arith, small, g))

-- how a text was read, with its parts as equations
data Way (at : ℕ) (text : List ℕ) (r : Answer) : Type 0 where
  to_end : text ≡ [] → r ≡ Ok [] → Way at text r
  by_space : (b : ℕ) (rest : List ℕ) → text ≡ b ∷ rest → is_space b ≡ true → Matches (at + 1) rest r → Way at text r
  by_token : (bs rest : List ℕ) (t : Token) (later : Answer) → text ≡ bs ++ rest → r ≡ onto (placed_token at t ∷ []) later → Spells bs t → IsLongest bs rest → IsReal t → Matches (at + length bs) rest later → Way at text r
  by_great : (bs rest : List ℕ) (n : ℕ) → text ≡ bs ++ rest → r ≡ Err (At at NumberRange) → Spells bs (Number n) → IsLongest bs rest → 2 ^ 63 < n → Way at text r
  by_bad : (b : ℕ) (rest : List ℕ) → text ≡ b ∷ rest → r ≡ Err (At at BadByte) → is_space b ≡ false → BeginsNone (b ∷ rest) → Way at text r

way : (at : ℕ) (text : List ℕ) (r : Answer) → Matches at text r → Way at text r
way n text r (at_end at) = to_end refl refl
way n text x (passed at b rest r h m) = by_space b rest refl h m
way n text r (taken at bs rest t later l longest real m) = by_token bs rest t later refl refl l longest real m
way n text r (too_great at bs rest v l longest g) = by_great bs rest v refl refl l longest g
way n text r (bad at b rest h g) = by_bad b rest refl refl h g

no_front : {P : Type 0} (bs rest : List ℕ) (t : Token) → Spells bs t → [] ≡ bs ++ rest → P
no_front [] rest t l e = absurd (no_empty t l)
no_front (b ∷ bs) rest t l e = cc

no_space_front : {P : Type 0} (b : ℕ) (text bs rest : List ℕ) (t : Token) → is_space b ≡ true → Spells bs t → b ∷ text ≡ bs ++ rest → P
no_space_front b text [] rest t h l e = absurd (no_empty t l)
no_space_front b text (c ∷ bs) rest t h l e = absurd (no_space b bs h t (subst (λ (x : ℕ). Spells (x ∷ bs) t) (ap head (sym e)) l))

tail : List ℕ → List ℕ
tail [] = []
tail (b ∷ bs) = bs

end_same : (at : ℕ) (r : Answer) → Way at [] r → Ok [] ≡ r
end_same at r (to_end e e') = sym e'
end_same at r (by_space b rest e h m) = cc
end_same at r (by_token bs rest t later e e' l h w m) = no_front bs rest t l e
end_same at r (by_great bs rest n e e' l h g) = no_front bs rest (Number n) l e
end_same at r (by_bad b rest e e' h g) = cc

space_same : (at b : ℕ) (text : List ℕ) (r r' : Answer) → is_space b ≡ true → ((x : Answer) → Matches (at + 1) text x → r ≡ x) → Way at (b ∷ text) r' → r ≡ r'
space_same at b text r r' s next (to_end e e') = cc
space_same at b text r r' s next (by_space c rest e h m) = let same : rest ≡ text = cc in next r' (subst (λ z. Matches (at + 1) z r') same m)
space_same at b text r r' s next (by_token bs rest t later e e' l h w m) = no_space_front b text bs rest t s l e
space_same at b text r r' s next (by_great bs rest n e e' l h g) = no_space_front b text bs rest (Number n) s l e
space_same at b text r r' s next (by_bad c rest e e' h g) = let same : b ≡ c = ap head e in true_false (is_space b) s (ap is_space same ∙ h)

token_same : (at : ℕ) (us vs : List ℕ) (t : Token) (r r' : Answer) → Spells us t → IsLongest us vs → IsReal t → ((x : Answer) → Matches (at + length us) vs x → r ≡ x) → Way at (us ++ vs) r' → onto (placed_token at t ∷ []) r ≡ r'
token_same at us vs t r r' l longest real next (to_end e e') = no_front us vs t l (sym e)
token_same at us vs t r r' l longest real next (by_space c rest e h m) = no_space_front c rest us vs t h l (sym e)
token_same at us vs t r r' l longest real next (by_token bs rest u later e e' k h w m) =
    let (front, behind) = one_front us vs bs rest t u l k longest h e in
    let P : List ℕ → Type 0 = λ xs. Matches (at + length xs) rest later in
    let m' : Matches (at + length us) vs later = subst (λ z. Matches (at + length us) z later) (sym behind) (subst P (sym front) m) in
    let same : t ≡ u = one_token bs t u (subst (λ (z : List ℕ). Spells z t) front l) k in
    ap (λ z. onto (placed_token at z ∷ []) r) same ∙ ap (onto (placed_token at u ∷ [])) (next later m') ∙ sym e'
token_same at us vs t r r' l longest real next (by_great bs rest n e e' k h g) =
    let (front, behind) = one_front us vs bs rest t (Number n) l k longest h e in
    not_real bs t n (subst (λ (z : List ℕ). Spells z t) front l) real k g
token_same at us vs t r r' l longest real next (by_bad c rest e e' h g) = absurd (g us vs t (sym e) l)

great_same : (at : ℕ) (us vs : List ℕ) (n : ℕ) (r' : Answer) → Spells us (Number n) → IsLongest us vs → 2 ^ 63 < n → Way at (us ++ vs) r' → Err (At at NumberRange) ≡ r'
great_same at us vs n r' l longest g (to_end e e') = no_front us vs (Number n) l (sym e)
great_same at us vs n r' l longest g (by_space c rest e h m) = no_space_front c rest us vs (Number n) h l (sym e)
great_same at us vs n r' l longest g (by_token bs rest u later e e' k h w m) =
    let (front, behind) = one_front us vs bs rest (Number n) u l k longest h e in
    not_real bs u n k w (subst (λ (z : List ℕ). Spells z (Number n)) front l) g
great_same at us vs n r' l longest g (by_great bs rest n' e e' k h g') = sym e'
great_same at us vs n r' l longest g (by_bad c rest e e' h k) = absurd (k us vs (Number n) (sym e) l)

bad_same : (at b : ℕ) (text : List ℕ) (r' : Answer) → is_space b ≡ false → BeginsNone (b ∷ text) → Way at (b ∷ text) r' → Err (At at BadByte) ≡ r'
bad_same at b text r' s none (to_end e e') = cc
bad_same at b text r' s none (by_space c rest e h m) = let same : b ≡ c = ap head e in true_false (is_space b) (ap is_space same ∙ h) s
bad_same at b text r' s none (by_token bs rest t later e e' l h w m) = absurd (none bs rest t e l)
bad_same at b text r' s none (by_great bs rest n e e' l h g) = absurd (none bs rest (Number n) e l)
bad_same at b text r' s none (by_bad c rest e e' h g) = sym e'

one_way : (at : ℕ) (text : List ℕ) (r : Answer) → Matches at text r → (r' : Answer) → Matches at text r' → r ≡ r'
one_way n text r (at_end at) r' m = end_same at r' (way at [] r' m)
one_way n text x (passed at b rest r h m) r' m' = space_same at b rest r r' h (one_way (at + 1) rest r m) (way at (b ∷ rest) r' m')
one_way n text r (taken at bs rest t later l longest real m) r' m' = token_same at bs rest t later r' l longest real (one_way (at + length bs) rest later m) (way at (bs ++ rest) r' m')
one_way n text r (too_great at bs rest v l longest g) r' m' = great_same at bs rest v r' l longest g (way at (bs ++ rest) r' m')
one_way n text r (bad at b rest h g) r' m' = bad_same at b rest r' h g (way at (b ∷ rest) r' m')

pub reads_longest : (text : List ℕ) (r : Answer) → (lexed_text text ≡ r) ↔ Matches 0 text r
reads_longest text r = (λ e. subst (Matches 0 text) e (read text), λ m. one_way 0 text (lexed_text text) (read text) r m)

-- ---- so what is told of a text's tokens is one thing

ok_same : (r : Answer) (ps qs : List Placed) → r ≡ Ok ps → r ≡ Ok qs → ps ≡ qs
ok_same r ps qs e f = cc

ok_or_bad : (r : Answer) (ps : List Placed) (b : ℕ) (c : Cause) → r ≡ Ok ps → r ≡ Err (At b c) → ⊥
ok_or_bad r ps b c e f = cc

bad_alike : (r : Answer) (b d : ℕ) (c e : Cause) → r ≡ Err (At b c) → r ≡ Err (At d e) → (b ≡ d) × (c ≡ e)
bad_alike r b d c e h k =
    let place : b ≡ d = cc in
    let cause : c ≡ e = cc in
    (place, cause)

pub same_placed : (text : List ℕ) (ps qs : List Placed) → Matches 0 text (Ok ps) → Matches 0 text (Ok qs) → ps ≡ qs
same_placed text ps qs m n = ok_same (lexed_text text) ps qs ((reads_longest text (Ok ps)).1 m) ((reads_longest text (Ok qs)).1 n)

pub placed_or_bad : (text : List ℕ) (ps : List Placed) (b : ℕ) (c : Cause) → Matches 0 text (Ok ps) → Matches 0 text (Err (At b c)) → ⊥
placed_or_bad text ps b c m n = ok_or_bad (lexed_text text) ps b c ((reads_longest text (Ok ps)).1 m) ((reads_longest text (Err (At b c))).1 n)

pub same_bad : (text : List ℕ) (b d : ℕ) (c e : Cause) → Matches 0 text (Err (At b c)) → Matches 0 text (Err (At d e)) → (b ≡ d) × (c ≡ e)
same_bad text b d c e m n = bad_alike (lexed_text text) b d c e ((reads_longest text (Err (At b c))).1 m) ((reads_longest text (Err (At d e))).1 n)

pub placed_fine : (text : List ℕ) (ps : List Placed) → Matches 0 text (Ok ps) → (length ps ≤ length text) × AllReal (map token_of ps)
placed_fine text ps m = lexed_fine text ps ((reads_longest text (Ok ps)).1 m)
