-- A text has at most one first fault.
use Rattle.std.proofs.Common.{◌≡◌, ◌⊎◌, inl, inr, ℕ, ◌≤◌, ◌<◌, List, [], ◌∷◌, ◌++◌, length, map, append_assoc, Ok, Err, slice_index, get_or, refl, sym, ap, ◌∙◌, subst, arith}
use Rattle.std.proofs.lemmas.List.{map-append}
use Rattle.saber_query.specs.declared.token.Token.{Token}
use Rattle.saber_query.specs.declared.token.Placed.{Placed}
use Rattle.saber_query.specs.declared.fault.Cause.{Cause}
use Rattle.saber_query.specs.declared.fault.Cause.TheVariants.{TooLong, BadByte, NumberRange, Syntax, Depth, DuplicateName, UnknownStream, UnknownColumn, Ambiguous, TooMany, WindowRange, Overlap, Shape, NotGrouped, ExprTooWide, SumTooWide}
use Rattle.saber_query.specs.declared.fault.QueryFault.TheVariants.{At}
use Rattle.saber_query.specs.Trees.{query_of}
use Rattle.saber_query.specs.Words.{words, Begins, IsSyntax, IsDeep}
use Rattle.saber_query.specs.Real.{AllReal}
use Rattle.saber_query.specs.Parsed.{Parsed}
use Rattle.saber_query.specs.Longest.{Matches}
use Rattle.saber_query.specs.Reading.{token_of}
use Rattle.saber_query.specs.Means.{MeansTree, TextFault, StopsAt, byte_of, first_byte}
use Rattle.saber_query.proofs.LongestLemmas.{same_placed, placed_or_bad, same_bad, placed_fine as tokens_are_real}
use Rattle.saber_check.specs.declared.fault.Fault.{Fault}
use Rattle.saber_check.specs.Least.{rank}
use Rattle.saber_check.specs.First.{IsFirst, IsNoLater}
use Rattle.saber_check.specs.Faults.{faults}
use Rattle.saber_check.specs.Texts.{HasFault, FailsChecks, means_none, fails_checks}
use Rattle.saber_check.proofs.FirstLaws.{ranks}
use Rattle.saber_check.proofs.TextLaws.{same_query, means_or_not}

-- one byte and one cause
abbrev pub IsSame : ℕ → ℕ → Cause → Cause → Type 0
IsSame b d c e = (b ≡ d) × (c ≡ e)

-- ---- two splits of one list

data Splits {X : Type 0} (xs ys us vs : List X) : Type 0 where
  alike : xs ≡ us → ys ≡ vs → Splits xs ys us vs
  shorter : (t : X) (more : List X) → us ≡ xs ++ t ∷ more → ys ≡ t ∷ (more ++ vs) → Splits xs ys us vs
  longer : (t : X) (more : List X) → xs ≡ us ++ t ∷ more → vs ≡ t ∷ (more ++ ys) → Splits xs ys us vs

one_more : {X : Type 0} (x u : X) (xs ys us vs : List X) → x ≡ u → Splits xs ys us vs → Splits (x ∷ xs) ys (u ∷ us) vs
one_more x u xs ys us vs h (alike e f) = alike (λ i. h i ∷ e i) f
one_more x u xs ys us vs h (shorter t more e f) = shorter t more (λ i. sym h i ∷ e i) f
one_more x u xs ys us vs h (longer t more e f) = longer t more (λ i. h i ∷ e i) f

splits : {X : Type 0} (xs ys us vs : List X) → xs ++ ys ≡ us ++ vs → Splits xs ys us vs
splits [] ys [] vs e = alike refl e
splits [] ys (u ∷ us) vs e = shorter u us refl e
splits (x ∷ xs) ys [] vs e = longer x xs refl (sym e)
splits (x ∷ xs) ys (u ∷ us) vs e =
    let head : x ≡ u = cc in
    let tail : xs ++ ys ≡ us ++ vs = cc in
    one_more x u xs ys us vs head (splits xs ys us vs tail)

-- ---- where tokens stop

-- those before begin a tree, and none with the next one too
record Stops (before rest : List Token) : Type 0 where
  begins : Begins 64 before
  none : (t : Token) (ts : List Token) → rest ≡ t ∷ ts → Begins 64 (before ++ t ∷ []) → ⊥

other_token : (before : List Token) (t u : Token) → t ≡ u → Begins 64 (before ++ u ∷ []) → Begins 64 (before ++ t ∷ [])
other_token before t u e h = subst (λ x. Begins 64 (before ++ x ∷ [])) (sym e) h

syntax_stops : (before rest : List Token) → IsSyntax 64 before rest → Stops before rest
syntax_stops before [] h = record { begins = h.begins; none = λ t ts e k. cc }
syntax_stops before (u ∷ us) h = record { begins = h.begins; none = λ t ts e k. let same : u ≡ t = cc in h.none 64 (other_token before u t same k) }

deep_stops : (before rest : List Token) → IsDeep 64 before rest → Stops before rest
deep_stops before [] h = absurd h
deep_stops before (u ∷ us) h = record { begins = h.begins; none = λ t ts e k. let same : u ≡ t = cc in h.none (other_token before u t same k) }

real_both : (ts us : List Token) → AllReal ts → AllReal us → AllReal (ts ++ us)
real_both [] us a b = b
real_both (t ∷ ts) us a b = (a.0, real_both ts us a.1 b)

real_behind : (ts us : List Token) → AllReal (ts ++ us) → AllReal us
real_behind [] us a = a
real_behind (t ∷ ts) us a = real_behind ts us a.1

real_front : (ts us : List Token) → AllReal (ts ++ us) → AllReal ts
real_front [] us a = tt
real_front (t ∷ ts) us a = (a.0, real_front ts us a.1)

-- a front of what begins a tree begins it
begins_front : (before : List Token) (t : Token) (more : List Token) → AllReal more → Begins 64 (before ++ t ∷ more) → Begins 64 (before ++ t ∷ [])
begins_front before t more a h = record {
  tree = h.tree;
  rest = more ++ h.rest;
  words = h.words ∙ append_assoc before (t ∷ more) h.rest ∙ sym (append_assoc before (t ∷ []) (more ++ h.rest));
  real = real_both more h.rest a h.real;
  shallow = h.shallow;
}

-- so none goes on behind another stop
not_shorter : (xs ys us vs : List Placed) (t : Placed) (more : List Placed) → AllReal (map token_of (us ++ vs)) → Stops (map token_of xs) (map token_of ys) → Stops (map token_of us) (map token_of vs) → us ≡ xs ++ t ∷ more → ys ≡ t ∷ (more ++ vs) → ⊥
not_shorter xs ys us vs t more a s z e f =
    let tokens : map token_of us ≡ map token_of xs ++ token_of t ∷ map token_of more = ap (map token_of) e ∙ map-append token_of xs (t ∷ more) in
    let all : AllReal (map token_of us) = real_front (map token_of us) (map token_of vs) (subst AllReal (map-append token_of us vs) a) in
    let some : AllReal (token_of t ∷ map token_of more) = real_behind (map token_of xs) (token_of t ∷ map token_of more) (subst AllReal tokens all) in
    s.none (token_of t) (map token_of (more ++ vs)) (ap (map token_of) f) (begins_front (map token_of xs) (token_of t) (map token_of more) some.1 (subst (Begins 64) tokens z.begins))

stop_once : (xs ys us vs : List Placed) → AllReal (map token_of (us ++ vs)) → xs ++ ys ≡ us ++ vs → Stops (map token_of xs) (map token_of ys) → Stops (map token_of us) (map token_of vs) → (xs ≡ us) × (ys ≡ vs)
stop_once xs ys us vs a e s z = go (splits xs ys us vs e)
  where
    go : Splits xs ys us vs → (xs ≡ us) × (ys ≡ vs)
    go (alike f g) = (f, g)
    go (shorter t more f g) = absurd (not_shorter xs ys us vs t more a s z f g)
    go (longer t more f g) = absurd (not_shorter us vs xs ys t more (subst (λ l. AllReal (map token_of l)) (sym e) a) z s f g)

not_both : (before rest : List Token) → IsSyntax 64 before rest → IsDeep 64 before rest → ⊥
not_both before [] h d = d
not_both before (t ∷ ts) h d = h.none 65 d.deeper

-- ---- what is wrong with a text that means no query

data Wrong (c : Cause) (b : ℕ) (text : List ℕ) : Type 0 where
  long : c ≡ TooLong → 65536 < length text → b ≡ 65536 → Wrong c b text
  no_tokens : length text ≤ 65536 → Matches 0 text (Err (At b c)) → Wrong c b text
  unfit : c ≡ Syntax → StopsAt (IsSyntax 64) text b → Wrong c b text
  deep : c ≡ Depth → StopsAt (IsDeep 64) text b → Wrong c b text

wrong : (c : Cause) (b : ℕ) (text : List ℕ) → TextFault c b text → Wrong c b text
wrong TooLong b text f = long refl f.0 f.1
wrong BadByte b text f = no_tokens f.0 f.1
wrong NumberRange b text f = no_tokens f.0 f.1
wrong Syntax b text f = unfit refl f
wrong Depth b text f = deep refl f
wrong DuplicateName b text f = absurd f
wrong UnknownStream b text f = absurd f
wrong UnknownColumn b text f = absurd f
wrong Ambiguous b text f = absurd f
wrong TooMany b text f = absurd f
wrong WindowRange b text f = absurd f
wrong Overlap b text f = absurd f
wrong Shape b text f = absurd f
wrong NotGrouped b text f = absurd f
wrong ExprTooWide b text f = absurd f
wrong SumTooWide b text f = absurd f

-- two stops of one text are one
same_stop : (text : List ℕ) (xs ys us vs : List Placed) → Matches 0 text (Ok (xs ++ ys)) → Matches 0 text (Ok (us ++ vs)) → Stops (map token_of xs) (map token_of ys) → Stops (map token_of us) (map token_of vs) → (xs ≡ us) × (ys ≡ vs)
same_stop text xs ys us vs e f s z = stop_once xs ys us vs (tokens_are_real text (us ++ vs) f).1 (same_placed text (xs ++ ys) (us ++ vs) e f) s z

same_place : (text : List ℕ) (ys vs : List Placed) (b d : ℕ) → ys ≡ vs → b ≡ first_byte ys (length text) → d ≡ first_byte vs (length text) → b ≡ d
same_place text ys vs b d h e f = e ∙ ap (λ l. first_byte l (length text)) h ∙ sym f

split_clash : (text : List ℕ) (b d : ℕ) → StopsAt (IsSyntax 64) text b → StopsAt (IsDeep 64) text d → ⊥
split_clash text b d f g =
    let s = same_stop text f.before f.rest g.before g.rest f.lexed g.lexed (syntax_stops (map token_of f.before) (map token_of f.rest) f.there) (deep_stops (map token_of g.before) (map token_of g.rest) g.there) in
    not_both (map token_of g.before) (map token_of g.rest) (subst (λ l. IsSyntax 64 (map token_of g.before) (map token_of l)) s.1 (subst (λ l. IsSyntax 64 (map token_of l) (map token_of f.rest)) s.0 f.there)) g.there

one_wrong : (text : List ℕ) (b d : ℕ) (c e : Cause) → Wrong c b text → Wrong e d text → IsSame b d c e
one_wrong text b d c e (long h l p) (long k m q) = (p ∙ sym q, h ∙ sym k)
one_wrong text b d c e (long h l p) (no_tokens k m) = absurd (omega (arith, l, k))
one_wrong text b d c e (long h l p) (unfit k m) = let n : length text ≤ 65536 = m.short in absurd (omega (arith, l, n))
one_wrong text b d c e (long h l p) (deep k m) = let n : length text ≤ 65536 = m.short in absurd (omega (arith, l, n))
one_wrong text b d c e (no_tokens h l) (long k m q) = absurd (omega (arith, h, m))
one_wrong text b d c e (no_tokens h l) (no_tokens k m) = same_bad text b d c e l m
one_wrong text b d c e (no_tokens h l) (unfit k m) = absurd (placed_or_bad text (m.before ++ m.rest) b c m.lexed l)
one_wrong text b d c e (no_tokens h l) (deep k m) = absurd (placed_or_bad text (m.before ++ m.rest) b c m.lexed l)
one_wrong text b d c e (unfit h l) (long k m q) = let n : length text ≤ 65536 = l.short in absurd (omega (arith, m, n))
one_wrong text b d c e (unfit h l) (no_tokens k m) = absurd (placed_or_bad text (l.before ++ l.rest) d e l.lexed m)
one_wrong text b d c e (unfit h l) (unfit k m) =
    let s = same_stop text l.before l.rest m.before m.rest l.lexed m.lexed (syntax_stops (map token_of l.before) (map token_of l.rest) l.there) (syntax_stops (map token_of m.before) (map token_of m.rest) m.there) in
    (same_place text l.rest m.rest b d s.1 l.place m.place, h ∙ sym k)
one_wrong text b d c e (unfit h l) (deep k m) = absurd (split_clash text b d l m)
one_wrong text b d c e (deep h l) (long k m q) = let n : length text ≤ 65536 = l.short in absurd (omega (arith, m, n))
one_wrong text b d c e (deep h l) (no_tokens k m) = absurd (placed_or_bad text (l.before ++ l.rest) d e l.lexed m)
one_wrong text b d c e (deep h l) (unfit k m) = absurd (split_clash text d b m l)
one_wrong text b d c e (deep h l) (deep k m) =
    let s = same_stop text l.before l.rest m.before m.rest l.lexed m.lexed (deep_stops (map token_of l.before) (map token_of l.rest) l.there) (deep_stops (map token_of m.before) (map token_of m.rest) m.there) in
    (same_place text l.rest m.rest b d s.1 l.place m.place, h ∙ sym k)

-- ---- what is wrong with a query

abbrev cause_of : ℕ → Cause
cause_of n = get_or (TooLong ∷ BadByte ∷ NumberRange ∷ Syntax ∷ Depth ∷ DuplicateName ∷ UnknownStream ∷ UnknownColumn ∷ Ambiguous ∷ TooMany ∷ WindowRange ∷ Overlap ∷ Shape ∷ NotGrouped ∷ ExprTooWide ∷ []) n SumTooWide

ranked : (c : Cause) → cause_of (rank c) ≡ c
ranked TooLong = refl
ranked BadByte = refl
ranked NumberRange = refl
ranked Syntax = refl
ranked Depth = refl
ranked DuplicateName = refl
ranked UnknownStream = refl
ranked UnknownColumn = refl
ranked Ambiguous = refl
ranked TooMany = refl
ranked WindowRange = refl
ranked Overlap = refl
ranked Shape = refl
ranked NotGrouped = refl
ranked ExprTooWide = refl
ranked SumTooWide = refl

one_rank : (c e : Cause) → rank c ≡ rank e → c ≡ e
one_rank c e h = sym (ranked c) ∙ ap cause_of h ∙ ranked e

abbrev Comes : Fault → Fault → Type 0
Comes f g = (f.index < g.index) ⊎ ((f.index ≡ g.index) × IsNoLater f.cause g.cause)

both_first : (f g : Fault) → Comes f g → Comes g f → (f.index ≡ g.index) × (f.cause ≡ g.cause)
both_first f g (inl h) (inl k) = absurd (omega (arith, h, k))
both_first f g (inl h) (inr k) = let same : g.index ≡ f.index = k.0 in absurd (omega (arith, h, same))
both_first f g (inr h) (inl k) = let same : f.index ≡ g.index = h.0 in absurd (omega (arith, k, same))
both_first f g (inr h) (inr k) =
    let low = ranks f.cause g.cause h.1 in
    let high = ranks g.cause f.cause k.1 in
    (h.0, one_rank f.cause g.cause (omega (arith, low, high)))

one_first : (fs : List Fault) (f g : Fault) → IsFirst f fs → IsFirst g fs → (f.index ≡ g.index) × (f.cause ≡ g.cause)
one_first fs f g h k = both_first f g (h.first g k.there) (k.first f h.there)

one_failure : (text : List ℕ) (b d : ℕ) (c e : Cause) → FailsChecks text b c → FailsChecks text d e → IsSame b d c e
one_failure text b d c e f g =
    let same : query_of f.query.select ≡ query_of g.query.select = same_query text f.query g.query f.means g.means in
    let starts : f.query.starts ≡ g.query.starts = f.means.starts ∙ ap (map byte_of) (same_placed text f.means.placed g.means.placed f.means.lexed g.means.lexed) ∙ sym g.means.starts in
    let p : Fault = record { index = f.fails.index; cause = c } in
    let r : Fault = record { index = g.fails.index; cause = e } in
    let h = one_first (faults (query_of g.query.select)) p r (subst (λ q. IsFirst p (faults q)) same f.fails.first) g.fails.first in
    (f.fails.place ∙ (λ i. slice_index (starts i) (h.0 i)) ∙ sym g.fails.place, h.1)

-- ---- the law

real_words : (text : List ℕ) (p : Parsed) → MeansTree text p → AllReal (words (query_of p.select))
real_words text p m = subst AllReal (sym m.words) (tokens_are_real text m.placed m.lexed).1

pub one_fault : (text : List ℕ) (byte other : ℕ) (cause another : Cause) → HasFault text byte cause → HasFault text other another → IsSame byte other cause another
one_fault text b d c e (means_none f) (means_none g) = one_wrong text b d c e (wrong c b text f) (wrong e d text g)
one_fault text b d c e (means_none f) (fails_checks g) = absurd (means_or_not c b text g.query (real_words text g.query g.means) g.means f)
one_fault text b d c e (fails_checks f) (means_none g) = absurd (means_or_not e d text f.query (real_words text f.query f.means) f.means g)
one_fault text b d c e (fails_checks f) (fails_checks g) = one_failure text b d c e f g
