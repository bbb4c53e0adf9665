-- Steps of the parser, as steps of the machine.
use Rattle.std.proofs.Common.{◌≡◌, ℕ, zero, suc, ◌-◌, ◌<◌, ◌≤◌, List, [], ◌∷◌, ◌++◌, map, length, length-append, Bool, true, false, cond, ◌&&◌, Result, Ok, Err, refl, sym, ◌∙◌, ap, subst, arith, append_assoc}
use Rattle.saber_query.specs.declared.token.Keyword.TheVariants as k
use Rattle.saber_query.specs.declared.token.Sign.TheVariants as s
use Rattle.saber_query.specs.declared.token.Token.{Token}
use Rattle.saber_query.specs.declared.token.Token.TheVariants.{Word, Mark, Named, Number}
use Rattle.saber_query.specs.declared.tree.Factor.{Factor}
use Rattle.saber_query.specs.declared.tree.Term.{Term}
use Rattle.saber_query.specs.declared.tree.Adding.{Adding}
use Rattle.saber_query.specs.declared.tree.Adding.TheVariants.{Plus, Minus}
use Rattle.saber_query.specs.declared.tree.Item.{Item}
use Rattle.saber_query.specs.declared.tree.Decl.{Decl}
use Rattle.saber_query.specs.declared.tree.Column.{Column}
use Rattle.saber_query.specs.declared.stop.Stop.{Stop}
use Rattle.saber_query.specs.declared.stop.Stop.TheVariants.{NoMemory, Syntax, Depth}
use Rattle.saber_query.specs.Words.{factor_words, factors_words, prod_words, adding_sign, terms_words, item_words, items_words, last_words, cmp_sign, test_words, ands_words, ors_words, both_words, after_each, name_words, names_words, declared_words, decl_words, decls_words, column_words, columns_words, stream_keyword}
use Rattle.saber_query.specs.declared.tree.Cmp.{Cmp}
use Rattle.saber_query.specs.declared.tree.StreamWord.{StreamWord}
use Rattle.saber_query.specs.declared.tree.StreamWord.TheVariants.{Rstream, Istream, Dstream}
use Rattle.saber_query.specs.declared.tree.Cmp.TheVariants as c
use Rattle.saber_query.specs.Trees.{Test, Both, test_depth, ands_depth, ors_depth, both_depth, ands_of, ors_of, test_of, both_of}
use Rattle.saber_query.specs.declared.tree.Unit.{Unit as Unit_tree}
use Rattle.saber_query.specs.declared.tree.Conj.{Conj}
use Rattle.std.specs.Result.{IfOk, IfErr}
use Rattle.saber_query.specs.Machine.{Symbol, open_sign, close_sign, star_sign, from_word, slide_word, close_bracket, a_name, a_number, comparison, measure, factor, more_column, more_factors, more_terms, item, more_items, unit, more_ands, more_ors, a_window, a_where, a_semicolon, rows_word, select_word, by_word, semicolon_sign, decl, more_decls, more_names, source, a_second, column, more_columns, a_group, body, selects, word_symbols, takes, refuses, push, may_lack, all_may_lack, push_result, move, fits, stops, deepens, fate_after, fate}
use Rattle.saber_query.specs.Reading.{Expected, StartsWith, starts_name, starts_number, Reads, Parses}
use Rattle.saber_query.proofs.Forth.{skipped}
use Rattle.saber_query.specs.Reading.{Refuses, IsTerminal, Took, StartsWithNoStreamWord}

-- a symbol that takes a token
pub shift : (x : Symbol) (zs : List Symbol) (t : Token) (old mid : List Token) → push x t ≡ takes zs → old ≡ t ∷ mid → (ys : List Symbol) → fate (x ∷ ys) old ≡ fate (zs ++ ys) mid
unfolding fate
shift x zs t old mid e h ys = ap (fate (x ∷ ys)) h ∙ ap (λ p. fate_after (push_result p (may_lack x) ys (move ys t)) (t ∷ mid) (λ us. fate us mid)) e

-- a fault is the same behind what was read
pub failed : {T U : Type 0} (xs zs : List Symbol) (g : U → List Token) (f : T → List Token) (e : Stop) (old mid new : List Token) →
    ((ys : List Symbol) → fate (xs ++ ys) old ≡ fate (zs ++ ys) mid) → Parses zs f (Err e) mid new → Parses xs g (Err e) old new
failed xs zs g f NoMemory old mid new h p = tt
failed xs zs g f Syntax old mid new h p = λ ys. h ys ∙ p ys
failed xs zs g f Depth old mid new h p = λ ys. h ys ∙ p ys

pub fail_token : {T U : Type 0} (x : Symbol) (zs : List Symbol) (t : Token) (g : U → List Token) (f : T → List Token) (e : Stop) (old mid new : List Token) →
    push x t ≡ takes zs → old ≡ t ∷ mid → Parses zs f (Err e) mid new → Parses (x ∷ []) g (Err e) old new
fail_token x zs t g f e old mid new h h' p = failed (x ∷ []) zs g f e old mid new (shift x zs t old mid h h') p

pub read_token : (x : Symbol) (zs : List Symbol) (t : Token) (v old mid new : List Token) → push x t ≡ takes zs → old ≡ t ∷ mid → Reads zs v mid new → Reads (x ∷ []) (t ∷ v) old new
read_token x zs t v old mid new h h' r = record {
  words = h' ∙ ap (λ z. t ∷ z) r.words;
  goes = λ ys. shift x zs t old mid h h' ys ∙ r.goes ys;
}

pub read_one : (x : Symbol) (t : Token) (old new : List Token) → push x t ≡ takes [] → old ≡ t ∷ new → Reads (x ∷ []) (t ∷ []) old new
read_one x t old new h h' = record { words = h'; goes = shift x [] t old new h h' }

pub read_none : (x : Symbol) (old new : List Token) → may_lack x ≡ true → Refuses x old → new ≡ old → Reads (x ∷ []) [] old new
read_none x old new h h' e = record { words = sym e; goes = λ ys. skipped x ys old h h' ∙ ap (fate ys) (sym e) }

pub read_then : (xs zs : List Symbol) (w v a b c : List Token) → Reads xs w a b → Reads zs v b c → Reads (xs ++ zs) (w ++ v) a c
read_then xs zs w v a b c r q = record {
  words = r.words ∙ ap (λ z. w ++ z) q.words ∙ sym (append_assoc w v c);
  goes = λ ys. ap (λ us. fate us a) (append_assoc xs zs ys) ∙ r.goes (zs ++ ys) ∙ q.goes ys;
}

pub fail_then : {T U : Type 0} (xs zs : List Symbol) (w : List Token) (g : U → List Token) (f : T → List Token) (e : Stop) (a b c : List Token) → Reads xs w a b → Parses zs f (Err e) b c → Parses (xs ++ zs) g (Err e) a c
fail_then xs zs w g f e a b c r p = failed (xs ++ zs) zs g f e a b c (λ ys. ap (λ us. fate us a) (append_assoc xs zs ys) ∙ r.goes (zs ++ ys)) p

pub fail_first : {T U : Type 0} (xs zs : List Symbol) (g : U → List Token) (f : T → List Token) (e : Stop) (a b : List Token) → Parses xs f (Err e) a b → Parses (xs ++ zs) g (Err e) a b
fail_first xs zs g f NoMemory a b p = tt
fail_first xs zs g f Syntax a b p = λ ys. ap (λ us. fate us a) (append_assoc xs zs ys) ∙ p (zs ++ ys)
fail_first xs zs g f Depth a b p = λ ys. ap (λ us. fate us a) (append_assoc xs zs ys) ∙ p (zs ++ ys)

refused_here : (x : Symbol) (old : List Token) → may_lack x ≡ false → Refuses x old → (ys : List Symbol) → fate (x ∷ ys) old ≡ stops old
unfolding fate
refused_here x [] e h ys = ap (λ b. cond (b && all_may_lack ys) fits (stops [])) e
refused_here x (t ∷ ts) e h ys =
    ap (λ p. fate_after (push_result p (may_lack x) ys (move ys t)) (t ∷ ts) (λ us. fate us ts)) h
    ∙ ap (λ b. fate_after (cond b (move ys t) refuses) (t ∷ ts) (λ us. fate us ts)) e

pub refuse : (x : Symbol) (old new : List Token) → may_lack x ≡ false → Refuses x old → new ≡ old → (ys : List Symbol) → fate (x ∷ ys) old ≡ stops new
refuse x old new h h' e ys = refused_here x old h h' ys ∙ ap stops (sym e)

-- ---- which tokens are refused

pub no_dot : (ts : List Token) → ¬ (StartsWith (Mark s.Dot) ts) → Refuses more_column ts
no_dot [] h = tt
no_dot (Mark s.Dot ∷ ts) h = absurd (h refl)
no_dot (_ ∷ ts) h = refl

pub no_star : (ts : List Token) → ¬ (StartsWith (Mark s.Star) ts) → Refuses more_factors ts
no_star [] h = tt
no_star (Mark s.Star ∷ ts) h = absurd (h refl)
no_star (_ ∷ ts) h = refl

pub no_adding : (ts : List Token) → ¬ (StartsWith (Mark s.Plus) ts) → ¬ (StartsWith (Mark s.Minus) ts) → Refuses more_terms ts
no_adding [] h h' = tt
no_adding (Mark s.Plus ∷ ts) h h' = absurd (h refl)
no_adding (Mark s.Minus ∷ ts) h h' = absurd (h' refl)
no_adding (_ ∷ ts) h h' = refl

pub no_factor : (ts : List Token) → starts_name ts ≡ false → starts_number ts ≡ false → ¬ (StartsWith (Mark s.Minus) ts) → Refuses factor ts
no_factor [] e e' h = tt
no_factor (Named n ∷ ts) e e' h = cc
no_factor (Number n ∷ ts) e e' h = cc
no_factor (Mark s.Minus ∷ ts) e e' h = absurd (h refl)
no_factor (_ ∷ ts) e e' h = refl

-- ---- loops

-- the words that a symbol which comes again has read
pub record Going (x : Symbol) (w old now : List Token) : Type 0 where
  pub words : old ≡ w ++ now
  pub goes : (ys : List Symbol) → fate (x ∷ ys) old ≡ fate (x ∷ ys) now

pub going_start : (x : Symbol) (old now : List Token) → now ≡ old → Going x [] old now
going_start x old now e = record { words = sym e; goes = λ ys. ap (fate (x ∷ ys)) (sym e) }

pub going_on : (x : Symbol) (zs : List Symbol) (t : Token) (w w' v old now mid next : List Token) → Going x w old now → push x t ≡ takes (zs ++ x ∷ []) → now ≡ t ∷ mid → Reads zs v mid next → w' ≡ w ++ t ∷ v → Going x w' old next
going_on x zs t w w' v old now mid next g h e r ew = record {
  words = g.words ∙ ap (λ z. w ++ z) (e ∙ ap (λ z. t ∷ z) r.words) ∙ sym (append_assoc w (t ∷ v) next) ∙ ap (λ z. z ++ next) (sym ew);
  goes = λ ys. g.goes ys ∙ shift x (zs ++ x ∷ []) t now mid h e ys ∙ ap (λ us. fate us mid) (append_assoc zs (x ∷ []) ys) ∙ r.goes (x ∷ ys);
}

pub going_end : (x : Symbol) (w old now new : List Token) → Going x w old now → may_lack x ≡ true → Refuses x now → new ≡ now → Reads (x ∷ []) w old new
going_end x w old now new g h h' e = record {
  words = g.words ∙ ap (λ z. w ++ z) (sym e);
  goes = λ ys. g.goes ys ∙ skipped x ys now h h' ∙ ap (fate ys) (sym e);
}

pub going_fails : {T U : Type 0} (x : Symbol) (zs : List Symbol) (t : Token) (w old now mid next : List Token) (g : U → List Token) (f : T → List Token) (e : Stop) → Going x w old now → push x t ≡ takes (zs ++ x ∷ []) → now ≡ t ∷ mid → Parses zs f (Err e) mid next → Parses (x ∷ []) g (Err e) old next
going_fails x zs t w old now mid next g f NoMemory go h e' p = tt
going_fails x zs t w old now mid next g f Syntax go h e' p = λ ys. go.goes ys ∙ shift x (zs ++ x ∷ []) t now mid h e' ys ∙ ap (λ us. fate us mid) (append_assoc zs (x ∷ []) ys) ∙ p (x ∷ ys)
going_fails x zs t w old now mid next g f Depth go h e' p = λ ys. go.goes ys ∙ shift x (zs ++ x ∷ []) t now mid h e' ys ∙ ap (λ us. fate us mid) (append_assoc zs (x ∷ []) ys) ∙ p (x ∷ ys)

-- what is left gets shorter
pub shorter : (t : Token) (v now mid next : List Token) → now ≡ t ∷ mid → mid ≡ v ++ next → length next < length now
shorter t v now mid next e e' = let h : length now ≡ length (t ∷ mid) = ap length e in let h' : length mid ≡ length (v ++ next) = ap length e' in omega (arith, h, h', length-append v next)

append_nil : (ts : List Token) → ts ++ [] ≡ ts
append_nil [] = refl
append_nil (t ∷ ts) = ap (λ z. t ∷ z) (append_nil ts)

pub each_more : {X : Type 0} (t : Token) (f : X → List Token) (xs : List X) (x : X) → after_each t f (xs ++ x ∷ []) ≡ after_each t f xs ++ t ∷ f x
each_more t f [] x = ap (λ z. t ∷ z) (append_nil (f x))
each_more t f (y ∷ xs) x = ap (λ z. t ∷ z) (ap (λ z. f y ++ z) (each_more t f xs x) ∙ sym (append_assoc (f y) (after_each t f xs) (t ∷ f x)))

pub factors_more : (fs : List Factor) (f : Factor) → factors_words (fs ++ f ∷ []) ≡ factors_words fs ++ Mark s.Star ∷ factor_words f
factors_more fs f = each_more (Mark s.Star) factor_words fs f

pub terms_more : (us : List Term) (u : Term) → terms_words (us ++ u ∷ []) ≡ terms_words us ++ Mark (adding_sign u.adding) ∷ prod_words u.prod
terms_more [] u = ap (λ z. Mark (adding_sign u.adding) ∷ z) (append_nil (prod_words u.prod))
terms_more (x ∷ us) u = ap (λ z. Mark (adding_sign x.adding) ∷ z) (ap (λ z. prod_words x.prod ++ z) (terms_more us u) ∙ sym (append_assoc (prod_words x.prod) (terms_words us) (Mark (adding_sign u.adding) ∷ prod_words u.prod)))

pub adding_takes : (a : Adding) → push more_terms (Mark (adding_sign a)) ≡ takes (factor ∷ more_factors ∷ more_terms ∷ [])
adding_takes Plus = refl
adding_takes Minus = refl

pub no_name : (ts : List Token) → starts_name ts ≡ false → Refuses a_name ts
no_name [] e = tt
no_name (Named n ∷ ts) e = cc
no_name (_ ∷ ts) e = refl

pub no_number : (ts : List Token) → starts_number ts ≡ false → Refuses a_number ts
no_number [] e = tt
no_number (Number n ∷ ts) e = cc
no_number (_ ∷ ts) e = refl

-- ---- units

pub cmp_takes : (c : Cmp) → push comparison (Mark (cmp_sign c)) ≡ takes []
cmp_takes c.Equal = refl
cmp_takes c.Unequal = refl
cmp_takes c.Less = refl
cmp_takes c.AtMost = refl
cmp_takes c.Greater = refl
cmp_takes c.AtLeast = refl

pub no_cmp : (ts : List Token) → ¬ (StartsWith (Mark s.Equal) ts) → ¬ (StartsWith (Mark s.Unequal) ts) → ¬ (StartsWith (Mark s.Less) ts) → ¬ (StartsWith (Mark s.AtMost) ts) → ¬ (StartsWith (Mark s.Greater) ts) → ¬ (StartsWith (Mark s.AtLeast) ts) → Refuses comparison ts
no_cmp [] h1 h2 h3 h4 h5 h6 = tt
no_cmp (Mark s.Equal ∷ ts) h1 h2 h3 h4 h5 h6 = absurd (h1 refl)
no_cmp (Mark s.Unequal ∷ ts) h1 h2 h3 h4 h5 h6 = absurd (h2 refl)
no_cmp (Mark s.Less ∷ ts) h1 h2 h3 h4 h5 h6 = absurd (h3 refl)
no_cmp (Mark s.AtMost ∷ ts) h1 h2 h3 h4 h5 h6 = absurd (h4 refl)
no_cmp (Mark s.Greater ∷ ts) h1 h2 h3 h4 h5 h6 = absurd (h5 refl)
no_cmp (Mark s.AtLeast ∷ ts) h1 h2 h3 h4 h5 h6 = absurd (h6 refl)
no_cmp (_ ∷ ts) h1 h2 h3 h4 h5 h6 = refl

-- what a unit without NOT and parenthesis is made of
abbrev pub compares : List Symbol
compares = factor ∷ more_factors ∷ more_terms ∷ comparison ∷ factor ∷ more_factors ∷ more_terms ∷ []

unit_as : (d : ℕ) (ts : List Token) → ¬ (StartsWith (Word k.Not) ts) → ¬ (StartsWith (Mark s.Open) ts) → (ys : List Symbol) → fate (unit d ∷ ys) ts ≡ fate (compares ++ ys) ts
unfolding fate
unit_as d [] h h' ys = refl
unit_as zero (Named n ∷ ts) h h' ys = refl
unit_as (suc d) (Named n ∷ ts) h h' ys = refl
unit_as zero (Number n ∷ ts) h h' ys = refl
unit_as (suc d) (Number n ∷ ts) h h' ys = refl
unit_as zero (Mark s.Minus ∷ ts) h h' ys = refl
unit_as (suc d) (Mark s.Minus ∷ ts) h h' ys = refl
unit_as zero (Word k.Not ∷ ts) h h' ys = absurd (h refl)
unit_as (suc d) (Word k.Not ∷ ts) h h' ys = absurd (h refl)
unit_as zero (Mark s.Open ∷ ts) h h' ys = absurd (h' refl)
unit_as (suc d) (Mark s.Open ∷ ts) h h' ys = absurd (h' refl)
unit_as zero (_ ∷ ts) h h' ys = refl
unit_as (suc d) (_ ∷ ts) h h' ys = refl

pub as_unit : (d : ℕ) (w old new : List Token) → ¬ (StartsWith (Word k.Not) old) → ¬ (StartsWith (Mark s.Open) old) → Reads compares w old new → Reads (unit d ∷ []) w old new
as_unit d w old new h h' r = record { words = r.words; goes = λ ys. unit_as d old h h' ys ∙ r.goes ys }

pub as_unit_fails : {T U : Type 0} (d : ℕ) (g : U → List Token) (f : T → List Token) (e : Stop) (old new : List Token) → ¬ (StartsWith (Word k.Not) old) → ¬ (StartsWith (Mark s.Open) old) → Parses compares f (Err e) old new → Parses (unit d ∷ []) g (Err e) old new
as_unit_fails d g f e old new h h' p = failed (unit d ∷ []) compares g f e old old new (unit_as d old h h') p

pub deep_not : (ts : List Token) → StartsWith (Word k.Not) ts → (ys : List Symbol) → fate (unit 0 ∷ ys) ts ≡ deepens ts
unfolding fate
deep_not [] h ys = absurd h
deep_not (t ∷ ts) h ys = let P : Token → Type 0 = λ u. fate (unit 0 ∷ ys) (u ∷ ts) ≡ deepens (u ∷ ts) in subst P (sym h) refl

pub deep_open : (ts : List Token) → StartsWith (Mark s.Open) ts → (ys : List Symbol) → fate (unit 0 ∷ ys) ts ≡ deepens ts
unfolding fate
deep_open [] h ys = absurd h
deep_open (t ∷ ts) h ys = let P : Token → Type 0 = λ u. fate (unit 0 ∷ ys) (u ∷ ts) ≡ deepens (u ∷ ts) in subst P (sym h) refl

pub no_and : (d : ℕ) (ts : List Token) → ¬ (StartsWith (Word k.And) ts) → Refuses (more_ands d) ts
no_and d [] h = tt
no_and d (Word k.And ∷ ts) h = absurd (h refl)
no_and d (_ ∷ ts) h = refl

pub no_or : (d : ℕ) (ts : List Token) → ¬ (StartsWith (Word k.Or) ts) → Refuses (more_ors d) ts
no_or d [] h = tt
no_or d (Word k.Or ∷ ts) h = absurd (h refl)
no_or d (_ ∷ ts) h = refl

pub ands_more : (us : List Test) (t : Test) → ands_words (ands_of (us ++ t ∷ [])) ≡ ands_words (ands_of us) ++ Word k.And ∷ test_words t
ands_more [] t = ap (λ z. Word k.And ∷ z) (append_nil (test_words t))
ands_more (u ∷ us) t = ap (λ z. Word k.And ∷ z) (ap (λ z. test_words u ++ z) (ands_more us t) ∙ sym (append_assoc (test_words u) (ands_words (ands_of us)) (Word k.And ∷ test_words t)))

pub ors_more : (bs : List Both) (b : Both) → ors_words (ors_of (bs ++ b ∷ [])) ≡ ors_words (ors_of bs) ++ Word k.Or ∷ both_words b
ors_more [] b = ap (λ z. Word k.Or ∷ z) (ap (λ z. test_words b.first ++ z) (append_nil (ands_words b.ands)))
ors_more (x ∷ bs) b =
    ap (λ z. Word k.Or ∷ z)
    (ap (λ z. test_words x.first ++ (ands_words x.ands ++ z)) (ors_more bs b)
    ∙ ap (λ z. test_words x.first ++ z) (sym (append_assoc (ands_words x.ands) (ors_words (ors_of bs)) _))
    ∙ sym (append_assoc (test_words x.first) (ands_words x.ands ++ ors_words (ors_of bs)) _))

pub ands_depth_more : (us : List Test) (t : Test) (d : ℕ) → ands_depth (ands_of us) ≤ d → test_depth t ≤ d → ands_depth (ands_of (us ++ t ∷ [])) ≤ d
ands_depth_more [] t d h h' = omega arith
ands_depth_more (u ∷ us) t d h h' = let r = ands_depth_more us t d (omega arith) h' in omega arith

pub ors_depth_more : (bs : List Both) (b : Both) (d : ℕ) → ors_depth (ors_of bs) ≤ d → both_depth b ≤ d → ors_depth (ors_of (bs ++ b ∷ [])) ≤ d
ors_depth_more [] b d h h' = omega arith
ors_depth_more (x ∷ bs) b d h h' = let r = ors_depth_more bs b d (omega arith) h' in omega arith

-- NOT and what stands in parentheses
less_one : (d : ℕ) → suc d - 1 ≡ d
less_one d = omega arith

pub not_takes : (d : ℕ) → 1 ≤ d → push (unit d) (Word k.Not) ≡ takes (unit (d - 1) ∷ [])
not_takes zero h = absurd (omega arith)
not_takes (suc d) h = ap (λ n. takes (unit n ∷ [])) (sym (less_one d))

abbrev pub preds : ℕ → List Symbol
preds d = unit d ∷ more_ands d ∷ more_ors d ∷ []

pub open_takes : (d : ℕ) → 1 ≤ d → push (unit d) (Mark s.Open) ≡ takes (preds (d - 1) ++ close_sign ∷ [])
open_takes zero h = absurd (omega arith)
open_takes (suc d) h = ap (λ n. takes (unit n ∷ more_ands n ∷ more_ors n ∷ close_sign ∷ [])) (sym (less_one d))

pub read_open : (d : ℕ) (t a o old mid end new : List Token) → 1 ≤ d → old ≡ Mark s.Open ∷ mid → Reads (preds (d - 1)) (t ++ (a ++ o)) mid end → end ≡ Mark s.Close ∷ new →
    Reads (unit d ∷ []) (Mark s.Open ∷ (t ++ (a ++ (o ++ Mark s.Close ∷ [])))) old new
read_open d t a o old mid end new h e r e' =
    let w : List Token = Mark s.Close ∷ [] in
    let q = read_token (unit d) (preds (d - 1) ++ close_sign ∷ []) (Mark s.Open) ((t ++ (a ++ o)) ++ w) old mid new (open_takes d h) e
    (read_then (preds (d - 1)) (close_sign ∷ []) (t ++ (a ++ o)) w mid end new r (read_one close_sign (Mark s.Close) end new refl e')) in
    let P : List Token → Type 0 = λ z. Reads (unit d ∷ []) (Mark s.Open ∷ z) old new in
    subst P (append_assoc t (a ++ o) w ∙ ap (λ z. t ++ z) (append_assoc a o w)) q

no_close : (ts : List Token) → ¬ (StartsWith (Mark s.Close) ts) → Refuses close_sign ts
no_close [] h = tt
no_close (Mark s.Close ∷ ts) h = absurd (h refl)
no_close (_ ∷ ts) h = refl

pub close_fails : (T : Type 0) {U : Type 0} (g : U → List Token) (e : Stop) (old new : List Token) → Expected {T = T} (Mark s.Close) (Err e) old new → Parses (close_sign ∷ []) g (Err e) old new
close_fails T g NoMemory old new h = tt
close_fails T g Syntax old new h = refuse close_sign old new refl (no_close old h.1) h.0
close_fails T g Depth old new h = absurd h

pub read_pred : (d : ℕ) (t a o old mid new : List Token) → Reads (unit d ∷ more_ands d ∷ []) (t ++ a) old mid → Reads (more_ors d ∷ []) o mid new → Reads (unit d ∷ more_ands d ∷ more_ors d ∷ []) (t ++ (a ++ o)) old new
read_pred d t a o old mid new r q =
    let P : List Token → Type 0 = λ z. Reads (unit d ∷ more_ands d ∷ more_ors d ∷ []) z old new in
    subst P (append_assoc t a o) (read_then (unit d ∷ more_ands d ∷ []) (more_ors d ∷ []) (t ++ a) o old mid new r q)

map_snoc : {A B : Type 0} (f : A → B) (xs : List A) (x : A) → map f (xs ++ x ∷ []) ≡ map f xs ++ f x ∷ []
map_snoc f [] x = refl
map_snoc f (y ∷ xs) x = ap (λ z. f y ∷ z) (map_snoc f xs x)

pub units_more : (ys xs : List Unit_tree) (x : Unit_tree) → ys ≡ xs ++ x ∷ [] → ands_words (ands_of (map test_of ys)) ≡ ands_words (ands_of (map test_of xs)) ++ Word k.And ∷ test_words (test_of x)
units_more ys xs x e = ap (λ zs. ands_words (ands_of (map test_of zs))) e ∙ ap (λ z. ands_words (ands_of z)) (map_snoc test_of xs x) ∙ ands_more (map test_of xs) (test_of x)

pub units_deep : (ys xs : List Unit_tree) (x : Unit_tree) (d : ℕ) → ys ≡ xs ++ x ∷ [] → ands_depth (ands_of (map test_of xs)) ≤ d → test_depth (test_of x) ≤ d → ands_depth (ands_of (map test_of ys)) ≤ d
units_deep ys xs x d e h h' = let P : List Test → Type 0 = λ z. ands_depth (ands_of z) ≤ d in subst P (sym (ap (map test_of) e ∙ map_snoc test_of xs x)) (ands_depth_more (map test_of xs) (test_of x) d h h')

pub conjs_more : (ys xs : List Conj) (x : Conj) → ys ≡ xs ++ x ∷ [] → ors_words (ors_of (map both_of ys)) ≡ ors_words (ors_of (map both_of xs)) ++ Word k.Or ∷ both_words (both_of x)
conjs_more ys xs x e = ap (λ zs. ors_words (ors_of (map both_of zs))) e ∙ ap (λ z. ors_words (ors_of z)) (map_snoc both_of xs x) ∙ ors_more (map both_of xs) (both_of x)

pub conjs_deep : (ys xs : List Conj) (x : Conj) (d : ℕ) → ys ≡ xs ++ x ∷ [] → ors_depth (ors_of (map both_of xs)) ≤ d → both_depth (both_of x) ≤ d → ors_depth (ors_of (map both_of ys)) ≤ d
conjs_deep ys xs x d e h h' = let P : List Both → Type 0 = λ z. ors_depth (ors_of z) ≤ d in subst P (sym (ap (map both_of) e ∙ map_snoc both_of xs x)) (ors_depth_more (map both_of xs) (both_of x) d h h')

-- a unit that is made of what was read, if memory serves
pub made : (r : Result Unit_tree Stop) (t : Test) (xs : List Symbol) (old new : List Token) → IfOk r (λ u. test_of u ≡ t) → IfErr r (λ e. e ≡ NoMemory) → Reads xs (test_words t) old new → Parses xs (λ (u : Unit_tree). test_words (test_of u)) r old new
made (Ok u) t xs old new h h' q = let P : Test → Type 0 = λ z. Reads xs (test_words z) old new in subst P (sym h) q
made (Err e) t xs old new h h' q = let P : Stop → Type 0 = λ z. Parses xs (λ (u : Unit_tree). test_words (test_of u)) (Err z) old new in subst P (sym h') tt

-- ---- the rest of a query

pub is_close : IsTerminal close_sign (Mark s.Close)
is_close = record { takes = refl; there = refl; only = no_close }

pub is_open : IsTerminal open_sign (Mark s.Open)
is_open = record { takes = refl; there = refl; only = no_open } where
  no_open : (ts : List Token) → ¬ (StartsWith (Mark s.Open) ts) → Refuses open_sign ts
  no_open [] h = tt
  no_open (Mark s.Open ∷ ts) h = absurd (h refl)
  no_open (_ ∷ ts) h = refl

pub is_star : IsTerminal star_sign (Mark s.Star)
is_star = record { takes = refl; there = refl; only = no_star_sign } where
  no_star_sign : (ts : List Token) → ¬ (StartsWith (Mark s.Star) ts) → Refuses star_sign ts
  no_star_sign [] h = tt
  no_star_sign (Mark s.Star ∷ ts) h = absurd (h refl)
  no_star_sign (_ ∷ ts) h = refl

pub is_from : IsTerminal from_word (Word k.From)
is_from = record { takes = refl; there = refl; only = no_from } where
  no_from : (ts : List Token) → ¬ (StartsWith (Word k.From) ts) → Refuses from_word ts
  no_from [] h = tt
  no_from (Word k.From ∷ ts) h = absurd (h refl)
  no_from (_ ∷ ts) h = refl

pub is_slide : IsTerminal slide_word (Word k.Slide)
is_slide = record { takes = refl; there = refl; only = no_slide } where
  no_slide : (ts : List Token) → ¬ (StartsWith (Word k.Slide) ts) → Refuses slide_word ts
  no_slide [] h = tt
  no_slide (Word k.Slide ∷ ts) h = absurd (h refl)
  no_slide (_ ∷ ts) h = refl

pub is_bracket : IsTerminal close_bracket (Mark s.CloseBracket)
is_bracket = record { takes = refl; there = refl; only = no_bracket } where
  no_bracket : (ts : List Token) → ¬ (StartsWith (Mark s.CloseBracket) ts) → Refuses close_bracket ts
  no_bracket [] h = tt
  no_bracket (Mark s.CloseBracket ∷ ts) h = absurd (h refl)
  no_bracket (_ ∷ ts) h = refl

pub no_comma : (ts : List Token) → ¬ (StartsWith (Mark s.Comma) ts) → Refuses more_items ts
no_comma [] h = tt
no_comma (Mark s.Comma ∷ ts) h = absurd (h refl)
no_comma (_ ∷ ts) h = refl

pub no_window : (ts : List Token) → ¬ (StartsWith (Mark s.OpenBracket) ts) → Refuses a_window ts
no_window [] h = tt
no_window (Mark s.OpenBracket ∷ ts) h = absurd (h refl)
no_window (_ ∷ ts) h = refl

pub no_where : (d : ℕ) (ts : List Token) → ¬ (StartsWith (Word k.Where) ts) → Refuses (a_where d) ts
no_where d [] h = tt
no_where d (Word k.Where ∷ ts) h = absurd (h refl)
no_where d (_ ∷ ts) h = refl

no_semicolon : (ts : List Token) → ¬ (StartsWith (Mark s.Semicolon) ts) → Refuses a_semicolon ts
no_semicolon [] h = tt
no_semicolon (Mark s.Semicolon ∷ ts) h = absurd (h refl)
no_semicolon (_ ∷ ts) h = refl

pub semicolon_read : (b : Bool) (old new : List Token) → Took (Mark s.Semicolon) b old new → Reads (a_semicolon ∷ []) (last_words b) old new
semicolon_read true old new e = read_one a_semicolon (Mark s.Semicolon) old new refl e
semicolon_read false old new (e, h) = read_none a_semicolon old new refl (no_semicolon old h) e

pub no_stream : (ts : List Token) → ¬ (StartsWith (Word k.Stream) ts) → Refuses decl ts
no_stream [] h = tt
no_stream (Word k.Stream ∷ ts) h = absurd (h refl)
no_stream (_ ∷ ts) h = refl

pub no_more_stream : (ts : List Token) → ¬ (StartsWith (Word k.Stream) ts) → Refuses more_decls ts
no_more_stream [] h = tt
no_more_stream (Word k.Stream ∷ ts) h = absurd (h refl)
no_more_stream (_ ∷ ts) h = refl

pub no_more_name : (ts : List Token) → ¬ (StartsWith (Mark s.Comma) ts) → Refuses more_names ts
no_more_name [] h = tt
no_more_name (Mark s.Comma ∷ ts) h = absurd (h refl)
no_more_name (_ ∷ ts) h = refl

pub no_second : (ts : List Token) → ¬ (StartsWith (Mark s.Comma) ts) → Refuses a_second ts
no_second [] h = tt
no_second (Mark s.Comma ∷ ts) h = absurd (h refl)
no_second (_ ∷ ts) h = refl

pub no_more_column : (ts : List Token) → ¬ (StartsWith (Mark s.Comma) ts) → Refuses more_columns ts
no_more_column [] h = tt
no_more_column (Mark s.Comma ∷ ts) h = absurd (h refl)
no_more_column (_ ∷ ts) h = refl

pub no_group : (ts : List Token) → ¬ (StartsWith (Word k.Group) ts) → Refuses a_group ts
no_group [] h = tt
no_group (Word k.Group ∷ ts) h = absurd (h refl)
no_group (_ ∷ ts) h = refl

pub no_source : (ts : List Token) → starts_name ts ≡ false → Refuses source ts
no_source [] e = tt
no_source (Named n ∷ ts) e = cc
no_source (_ ∷ ts) e = refl

pub no_key : (ts : List Token) → starts_name ts ≡ false → Refuses column ts
no_key [] e = tt
no_key (Named n ∷ ts) e = cc
no_key (_ ∷ ts) e = refl

pub is_select : IsTerminal select_word (Word k.Select)
is_select = record { takes = refl; there = refl; only = no_select_word } where
  no_select_word : (ts : List Token) → ¬ (StartsWith (Word k.Select) ts) → Refuses select_word ts
  no_select_word [] h = tt
  no_select_word (Word k.Select ∷ ts) h = absurd (h refl)
  no_select_word (_ ∷ ts) h = refl

pub is_by : IsTerminal by_word (Word k.By)
is_by = record { takes = refl; there = refl; only = no_by_word } where
  no_by_word : (ts : List Token) → ¬ (StartsWith (Word k.By) ts) → Refuses by_word ts
  no_by_word [] h = tt
  no_by_word (Word k.By ∷ ts) h = absurd (h refl)
  no_by_word (_ ∷ ts) h = refl

pub is_end : IsTerminal semicolon_sign (Mark s.Semicolon)
is_end = record { takes = refl; there = refl; only = no_semicolon_sign } where
  no_semicolon_sign : (ts : List Token) → ¬ (StartsWith (Mark s.Semicolon) ts) → Refuses semicolon_sign ts
  no_semicolon_sign [] h = tt
  no_semicolon_sign (Mark s.Semicolon ∷ ts) h = absurd (h refl)
  no_semicolon_sign (_ ∷ ts) h = refl

pub is_rows : IsTerminal rows_word (Word k.Rows)
is_rows = record { takes = refl; there = refl; only = no_rows_word } where
  no_rows_word : (ts : List Token) → ¬ (StartsWith (Word k.Rows) ts) → Refuses rows_word ts
  no_rows_word [] h = tt
  no_rows_word (Word k.Rows ∷ ts) h = absurd (h refl)
  no_rows_word (_ ∷ ts) h = refl

pub no_measure : (ts : List Token) → ¬ (StartsWith (Word k.Rows) ts) → ¬ (StartsWith (Word k.Range) ts) → ¬ (StartsWith (Word k.Partition) ts) → Refuses measure ts
no_measure [] h h' h'' = tt
no_measure (Word k.Rows ∷ ts) h h' h'' = absurd (h refl)
no_measure (Word k.Range ∷ ts) h h' h'' = absurd (h' refl)
no_measure (Word k.Partition ∷ ts) h h' h'' = absurd (h'' refl)
no_measure (_ ∷ ts) h h' h'' = refl

-- what is asked without a word
body_as : (d : ℕ) (ts : List Token) → StartsWithNoStreamWord ts → (ys : List Symbol) → fate (body d ∷ ys) ts ≡ fate (selects d ++ ys) ts
unfolding fate
body_as d [] h ys = refl
body_as d (Word k.Select ∷ ts) h ys = refl
body_as d (Word k.Rstream ∷ ts) h ys = absurd (h.0 refl)
body_as d (Word k.Istream ∷ ts) h ys = absurd (h.1 refl)
body_as d (Word k.Dstream ∷ ts) h ys = absurd (h.2 refl)
body_as d (_ ∷ ts) h ys = refl

pub as_body : (d : ℕ) (w old mid new : List Token) → mid ≡ old → StartsWithNoStreamWord old → Reads (selects d) w mid new → Reads (body d ∷ []) (w ++ []) old new
as_body d w old mid new e h r = record { words = sym e ∙ r.words ∙ ap (λ z. z ++ new) (sym (append_nil w)); goes = λ ys. body_as d old h ys ∙ ap (fate (selects d ++ ys)) (sym e) ∙ r.goes ys }

pub as_body_fails : {T U : Type 0} (d : ℕ) (g : U → List Token) (f : T → List Token) (e : Stop) (old mid new : List Token) → mid ≡ old → StartsWithNoStreamWord old → Parses (selects d) f (Err e) mid new → Parses (body d ∷ []) g (Err e) old new
as_body_fails d g f e old mid new eq h p = failed (body d ∷ []) (selects d) g f e old mid new (λ ys. body_as d old h ys ∙ ap (fate (selects d ++ ys)) (sym eq)) p

-- and behind a word
pub word_takes : (w : StreamWord) (d : ℕ) → push (body d) (Word (stream_keyword w)) ≡ takes (word_symbols d)
word_takes Rstream d = refl
word_takes Istream d = refl
word_takes Dstream d = refl

pub still : (w : Token) (old new : List Token) → new ≡ old → ¬ (StartsWith w new) → ¬ (StartsWith w old)
still w old new e h g = h (let P : List Token → Type 0 = StartsWith w in subst P (sym e) g)

abbrev pub exprs : List Symbol
exprs = factor ∷ more_factors ∷ more_terms ∷ []

-- none of the four aggregates begins
pub record NoAggregate (ts : List Token) : Type 0 where
  pub count : ¬ (StartsWith (Word k.Count) ts)
  pub sum : ¬ (StartsWith (Word k.Sum) ts)
  pub min : ¬ (StartsWith (Word k.Min) ts)
  pub max : ¬ (StartsWith (Word k.Max) ts)

item_as : (ts : List Token) → NoAggregate ts → (ys : List Symbol) → fate (item ∷ ys) ts ≡ fate (exprs ++ ys) ts
unfolding fate
item_as [] h ys = refl
item_as (Named n ∷ ts) h ys = refl
item_as (Number n ∷ ts) h ys = refl
item_as (Mark s.Minus ∷ ts) h ys = refl
item_as (Word k.Count ∷ ts) h ys = absurd (h.count refl)
item_as (Word k.Sum ∷ ts) h ys = absurd (h.sum refl)
item_as (Word k.Min ∷ ts) h ys = absurd (h.min refl)
item_as (Word k.Max ∷ ts) h ys = absurd (h.max refl)
item_as (_ ∷ ts) h ys = refl

-- after four words that weren't there
pub none_of : (a b c d e : List Token) → Took (Word k.Count) false a b → Took (Word k.Sum) false b c → Took (Word k.Min) false c d → Took (Word k.Max) false d e → NoAggregate a
none_of a b c d e (p, h) (p', h') (p'', h'') (p3, h3) = record {
  count = h;
  sum = still (Word k.Sum) a b p h';
  min = still (Word k.Min) a c (p' ∙ p) h'';
  max = still (Word k.Max) a d (p'' ∙ p' ∙ p) h3;
}

pub as_item : (w old mid new : List Token) → mid ≡ old → NoAggregate old → Reads exprs w mid new → Reads (item ∷ []) w old new
as_item w old mid new e h r = record { words = sym e ∙ r.words; goes = λ ys. item_as old h ys ∙ ap (fate (exprs ++ ys)) (sym e) ∙ r.goes ys }

pub as_item_fails : {T U : Type 0} (g : U → List Token) (f : T → List Token) (e : Stop) (old mid new : List Token) → mid ≡ old → NoAggregate old → Parses exprs f (Err e) mid new → Parses (item ∷ []) g (Err e) old new
as_item_fails g f e old mid new eq h p = failed (item ∷ []) exprs g f e old mid new (λ ys. item_as old h ys ∙ ap (fate (exprs ++ ys)) (sym eq)) p

pub items_more : (is : List Item) (i : Item) → items_words (is ++ i ∷ []) ≡ items_words is ++ Mark s.Comma ∷ item_words i
items_more is i = each_more (Mark s.Comma) item_words is i

pub names_more : (ns : List (List ℕ)) (n : List ℕ) → names_words (ns ++ n ∷ []) ≡ names_words ns ++ Mark s.Comma ∷ name_words n
names_more ns n = each_more (Mark s.Comma) name_words ns n

pub columns_more : (cs : List Column) (c : Column) → columns_words (cs ++ c ∷ []) ≡ columns_words cs ++ Mark s.Comma ∷ column_words c
columns_more cs c = each_more (Mark s.Comma) column_words cs c

pub decls_more : (ds : List Decl) (d : Decl) → decls_words (ds ++ d ∷ []) ≡ decls_words ds ++ Word k.Stream ∷ declared_words d
decls_more [] d = append_nil (decl_words d)
decls_more (x ∷ ds) d = ap (λ z. decl_words x ++ z) (decls_more ds d) ∙ sym (append_assoc (decl_words x) (decls_words ds) (Word k.Stream ∷ declared_words d))

pub then_parse : {T : Type 0} (xs zs : List Symbol) (w : List Token) (f : T → List Token) (r : Result T Stop) (a b c : List Token) → Reads xs w a b → Parses zs f r b c → Parses (xs ++ zs) (λ (v : T). w ++ f v) r a c
then_parse xs zs w f (Ok v) a b c r p = read_then xs zs w (f v) a b c r p
then_parse xs zs w f (Err e) a b c r p = fail_then xs zs w (λ v. w ++ f v) f e a b c r p

-- the words of what is asked, part by part
pub chosen_words : (i j f o z : List Token) → (Word k.Select ∷ (i ++ j)) ++ ((Word k.From ∷ (f ++ o)) ++ z) ≡ Word k.Select ∷ (i ++ (j ++ Word k.From ∷ (f ++ (o ++ z))))
chosen_words i j f o z = ap (λ y. Word k.Select ∷ y) (append_assoc i j (Word k.From ∷ ((f ++ o) ++ z)) ∙ ap (λ y. i ++ (j ++ Word k.From ∷ y)) (append_assoc f o z))

pub read_words : (xs : List Symbol) (w v old new : List Token) → w ≡ v → Reads xs w old new → Reads xs v old new
read_words xs w v old new e r = record { words = r.words ∙ ap (λ z. z ++ new) e; goes = r.goes }
