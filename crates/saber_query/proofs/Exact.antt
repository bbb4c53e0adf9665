-- Where the machine stops is where no tree goes on.
use Rattle.std.proofs.Common.{◌≡◌, ℕ, zero, suc, ◌≤◌, List, [], ◌∷◌, ◌++◌, map, Bool, true, false, cond, ◌&&◌, refl, inl, inr, sym, ◌∙◌, ap, subst, arith, append_assoc}
use Rattle.saber_query.specs.declared.token.Keyword.TheVariants as k
use Rattle.saber_query.specs.declared.token.Sign.TheVariants as s
use Rattle.saber_query.specs.declared.token.Token.{Token}
use Rattle.saber_query.specs.declared.token.Token.TheVariants.{Word, Mark, Named, Number}
use Rattle.saber_query.specs.Trees.{Query, depth}
use Rattle.saber_query.specs.Real.{AllReal}
use Rattle.saber_query.specs.Words.{words, Begins, Unfit, Opens, IsSyntax, IsDeep}
use Rattle.saber_query.specs.Reading.{StopsWith}
use Rattle.saber_query.specs.Machine.{Symbol, open_sign, close_sign, star_sign, from_word, slide_word, close_bracket, a_name, a_number, comparison, measure, factor, more_column, more_factors, more_terms, item, more_items, unit, more_ands, more_ors, a_window, a_where, a_semicolon, rows_word, select_word, by_word, semicolon_sign, decl, more_decls, more_names, source, a_second, column, more_columns, a_group, body, Push, takes, too_deep, refuses, push, may_lack, all_may_lack, push_result, move, Fate, fits, stops, deepens, fate_after, fate, start}
use Rattle.saber_query.specs.Parts.{Means}
use Rattle.saber_query.proofs.Back.{Behind, back_move, some_words, all_lack, to_query}
use Rattle.saber_query.proofs.Forth.{words_fit}

-- ---- one more level

abbrev deeper : Symbol → Symbol
deeper (unit d) = unit (suc d)
deeper (more_ands d) = more_ands (suc d)
deeper (more_ors d) = more_ors (suc d)
deeper (a_where d) = a_where (suc d)
deeper (body d) = body (suc d)
deeper open_sign = open_sign
deeper close_sign = close_sign
deeper star_sign = star_sign
deeper from_word = from_word
deeper slide_word = slide_word
deeper close_bracket = close_bracket
deeper a_name = a_name
deeper a_number = a_number
deeper comparison = comparison
deeper measure = measure
deeper factor = factor
deeper more_column = more_column
deeper more_factors = more_factors
deeper more_terms = more_terms
deeper item = item
deeper more_items = more_items
deeper a_window = a_window
deeper a_semicolon = a_semicolon
deeper rows_word = rows_word
deeper select_word = select_word
deeper by_word = by_word
deeper semicolon_sign = semicolon_sign
deeper decl = decl
deeper more_decls = more_decls
deeper more_names = more_names
deeper source = source
deeper a_second = a_second
deeper column = column
deeper more_columns = more_columns
deeper a_group = a_group

abbrev Deepened : Push → Push → Type 0
Deepened (takes ys) p = p ≡ takes (map deeper ys)
Deepened too_deep p = (zs : List Symbol) × (p ≡ takes zs)
Deepened refuses p = p ≡ refuses

deeper_unit : (d : ℕ) (t : Token) → Deepened (push (unit d) t) (push (unit (suc d)) t)
deeper_unit zero (Named n) = refl
deeper_unit (suc d) (Named n) = refl
deeper_unit zero (Number n) = refl
deeper_unit (suc d) (Number n) = refl
deeper_unit zero (Mark s.Minus) = refl
deeper_unit (suc d) (Mark s.Minus) = refl
deeper_unit zero (Word k.Not) = (_, refl)
deeper_unit zero (Mark s.Open) = (_, refl)
deeper_unit (suc d) (Word k.Not) = refl
deeper_unit (suc d) (Mark s.Open) = refl
deeper_unit _ _ = refl

-- a symbol that has no level
abbrev is_level : Symbol → Bool
is_level (unit d) = true
is_level (more_ands d) = true
is_level (more_ors d) = true
is_level (a_where d) = true
is_level (body d) = true
is_level _ = false

deeper_ands : (d : ℕ) (t : Token) → Deepened (push (more_ands d) t) (push (more_ands (suc d)) t)
deeper_ands d (Word k.And) = refl
deeper_ands d _ = refl

deeper_ors : (d : ℕ) (t : Token) → Deepened (push (more_ors d) t) (push (more_ors (suc d)) t)
deeper_ors d (Word k.Or) = refl
deeper_ors d _ = refl

deeper_where : (d : ℕ) (t : Token) → Deepened (push (a_where d) t) (push (a_where (suc d)) t)
deeper_where d (Word k.Where) = refl
deeper_where d _ = refl

deeper_body : (d : ℕ) (t : Token) → Deepened (push (body d) t) (push (body (suc d)) t)
deeper_body d (Word k.Select) = refl
deeper_body d (Word k.Rstream) = refl
deeper_body d (Word k.Istream) = refl
deeper_body d (Word k.Dstream) = refl
deeper_body d _ = refl

abbrev Plain : Push → Type 0
Plain p = Deepened p p

plain_push : (x : Symbol) (t : Token) → is_level x ≡ false → Plain (push x t)
plain_push open_sign (Mark s.Open) e = refl
plain_push close_sign (Mark s.Close) e = refl
plain_push star_sign (Mark s.Star) e = refl
plain_push from_word (Word k.From) e = refl
plain_push slide_word (Word k.Slide) e = refl
plain_push close_bracket (Mark s.CloseBracket) e = refl
plain_push a_name (Named n) e = refl
plain_push a_number (Number n) e = refl
plain_push comparison (Mark s.Equal) e = refl
plain_push comparison (Mark s.Unequal) e = refl
plain_push comparison (Mark s.Less) e = refl
plain_push comparison (Mark s.AtMost) e = refl
plain_push comparison (Mark s.Greater) e = refl
plain_push comparison (Mark s.AtLeast) e = refl
plain_push factor (Named n) e = refl
plain_push factor (Number n) e = refl
plain_push factor (Mark s.Minus) e = refl
plain_push more_column (Mark s.Dot) e = refl
plain_push more_factors (Mark s.Star) e = refl
plain_push more_terms (Mark s.Plus) e = refl
plain_push more_terms (Mark s.Minus) e = refl
plain_push item (Word k.Count) e = refl
plain_push item (Word k.Sum) e = refl
plain_push item (Named n) e = refl
plain_push item (Number n) e = refl
plain_push item (Mark s.Minus) e = refl
plain_push more_items (Mark s.Comma) e = refl
plain_push a_window (Mark s.OpenBracket) e = refl
plain_push a_semicolon (Mark s.Semicolon) e = refl
plain_push item (Word k.Min) e = refl
plain_push item (Word k.Max) e = refl
plain_push select_word (Word k.Select) e = refl
plain_push by_word (Word k.By) e = refl
plain_push semicolon_sign (Mark s.Semicolon) e = refl
plain_push decl (Word k.Stream) e = refl
plain_push more_decls (Word k.Stream) e = refl
plain_push more_names (Mark s.Comma) e = refl
plain_push source (Named n) e = refl
plain_push a_second (Mark s.Comma) e = refl
plain_push column (Named n) e = refl
plain_push more_columns (Mark s.Comma) e = refl
plain_push a_group (Word k.Group) e = refl
plain_push measure (Word k.Rows) e = refl
plain_push measure (Word k.Range) e = refl
plain_push measure (Word k.Partition) e = refl
plain_push rows_word (Word k.Rows) e = refl
plain_push (unit d) t e = cc
plain_push (more_ands d) t e = cc
plain_push (more_ors d) t e = cc
plain_push (a_where d) t e = cc
plain_push (body d) t e = cc
plain_push _ _ e = refl

deeper_push : (x : Symbol) (t : Token) → Deepened (push x t) (push (deeper x) t)
deeper_push (unit d) t = deeper_unit d t
deeper_push (more_ands d) t = deeper_ands d t
deeper_push (more_ors d) t = deeper_ors d t
deeper_push (a_where d) t = deeper_where d t
deeper_push (body d) t = deeper_body d t
deeper_push open_sign t = plain_push open_sign t refl
deeper_push close_sign t = plain_push close_sign t refl
deeper_push star_sign t = plain_push star_sign t refl
deeper_push from_word t = plain_push from_word t refl
deeper_push slide_word t = plain_push slide_word t refl
deeper_push close_bracket t = plain_push close_bracket t refl
deeper_push a_name t = plain_push a_name t refl
deeper_push a_number t = plain_push a_number t refl
deeper_push comparison t = plain_push comparison t refl
deeper_push measure t = plain_push measure t refl
deeper_push factor t = plain_push factor t refl
deeper_push more_column t = plain_push more_column t refl
deeper_push more_factors t = plain_push more_factors t refl
deeper_push more_terms t = plain_push more_terms t refl
deeper_push item t = plain_push item t refl
deeper_push more_items t = plain_push more_items t refl
deeper_push a_window t = plain_push a_window t refl
deeper_push a_semicolon t = plain_push a_semicolon t refl
deeper_push rows_word t = plain_push rows_word t refl
deeper_push select_word t = plain_push select_word t refl
deeper_push by_word t = plain_push by_word t refl
deeper_push semicolon_sign t = plain_push semicolon_sign t refl
deeper_push decl t = plain_push decl t refl
deeper_push more_decls t = plain_push more_decls t refl
deeper_push more_names t = plain_push more_names t refl
deeper_push source t = plain_push source t refl
deeper_push a_second t = plain_push a_second t refl
deeper_push column t = plain_push column t refl
deeper_push more_columns t = plain_push more_columns t refl
deeper_push a_group t = plain_push a_group t refl

deeper_lacks : (x : Symbol) → may_lack (deeper x) ≡ may_lack x
deeper_lacks (unit d) = refl
deeper_lacks (more_ands d) = refl
deeper_lacks (more_ors d) = refl
deeper_lacks (a_where d) = refl
deeper_lacks (body d) = refl
deeper_lacks _ = refl

deeper_all_lack : (xs : List Symbol) → all_may_lack (map deeper xs) ≡ all_may_lack xs
deeper_all_lack [] = refl
deeper_all_lack (x ∷ xs) = ap (λ b. b && all_may_lack (map deeper xs)) (deeper_lacks x) ∙ ap (λ b. may_lack x && b) (deeper_all_lack xs)

map_append : (xs ys : List Symbol) → map deeper (xs ++ ys) ≡ map deeper xs ++ map deeper ys
map_append [] ys = refl
map_append (x ∷ xs) ys = ap (λ z. deeper x ∷ z) (map_append xs ys)

deeper_pushed : (p p' : Push) (lacks : Bool) (xs : List Symbol) (o o' : Push) → Deepened p p' → Deepened o o' → Deepened (push_result p lacks xs o) (push_result p' lacks (map deeper xs) o')
deeper_pushed (takes ys) p' lacks xs o o' e h = ap (λ q. push_result q lacks (map deeper xs) o') e ∙ ap takes (sym (map_append ys xs))
deeper_pushed too_deep p' lacks xs o o' (zs, e) h = (zs ++ map deeper xs, ap (λ q. push_result q lacks (map deeper xs) o') e)
deeper_pushed refuses p' true xs o o' e h = let P : Push → Type 0 = λ q. Deepened o (push_result q true (map deeper xs) o') in subst P (sym e) h
deeper_pushed refuses p' false xs o o' e h = ap (λ q. push_result q false (map deeper xs) o') e

deeper_move : (xs : List Symbol) (t : Token) → Deepened (move xs t) (move (map deeper xs) t)
deeper_move [] t = refl
deeper_move (x ∷ xs) t =
    let P : Bool → Type 0 = λ b. Deepened (push_result (push x t) (may_lack x) xs (move xs t)) (push_result (push (deeper x) t) b (map deeper xs) (move (map deeper xs) t)) in
    subst P (sym (deeper_lacks x)) (deeper_pushed (push x t) (push (deeper x) t) (may_lack x) xs (move xs t) (move (map deeper xs) t) (deeper_push x t) (deeper_move xs t))

-- ---- what goes too deep

unit_opens : (d : ℕ) (t : Token) → push (unit d) t ≡ too_deep → Opens t
unit_opens zero (Word k.Not) e = inl refl
unit_opens zero (Mark s.Open) e = inr refl
unit_opens zero (Named n) e = cc
unit_opens zero (Number n) e = cc
unit_opens zero (Mark s.Minus) e = cc
unit_opens (suc d) (Named n) e = cc
unit_opens (suc d) (Number n) e = cc
unit_opens (suc d) (Mark s.Minus) e = cc
unit_opens (suc d) (Word k.Not) e = cc
unit_opens (suc d) (Mark s.Open) e = cc
unit_opens _ _ e = cc

ands_stay : (d : ℕ) (t : Token) → ¬ (push (more_ands d) t ≡ too_deep)
ands_stay d (Word k.And) e = cc
ands_stay d _ e = cc

ors_stay : (d : ℕ) (t : Token) → ¬ (push (more_ors d) t ≡ too_deep)
ors_stay d (Word k.Or) e = cc
ors_stay d _ e = cc

where_stays : (d : ℕ) (t : Token) → ¬ (push (a_where d) t ≡ too_deep)
where_stays d (Word k.Where) e = cc
where_stays d _ e = cc

body_stays : (d : ℕ) (t : Token) → ¬ (push (body d) t ≡ too_deep)
body_stays d (Word k.Select) e = cc
body_stays d (Word k.Rstream) e = cc
body_stays d (Word k.Istream) e = cc
body_stays d (Word k.Dstream) e = cc
body_stays d _ e = cc

not_deep : (p : Push) → Plain p → ¬ (p ≡ too_deep)
not_deep (takes ys) h e = cc
not_deep too_deep (zs, h) e = cc
not_deep refuses h e = cc

plain_stays : {P : Type 0} (x : Symbol) (t : Token) → is_level x ≡ false → push x t ≡ too_deep → P
plain_stays x t h e = absurd (not_deep (push x t) (plain_push x t h) e)

push_opens : (x : Symbol) (t : Token) → push x t ≡ too_deep → Opens t
push_opens (unit d) t e = unit_opens d t e
push_opens (more_ands d) t e = absurd (ands_stay d t e)
push_opens (more_ors d) t e = absurd (ors_stay d t e)
push_opens (a_where d) t e = absurd (where_stays d t e)
push_opens (body d) t e = absurd (body_stays d t e)
push_opens x t e = plain_stays x t refl e

pushed_opens : (p : Push) (lacks : Bool) (xs : List Symbol) (o : Push) (t : Token) → (p ≡ too_deep → Opens t) → (o ≡ too_deep → Opens t) → push_result p lacks xs o ≡ too_deep → Opens t
pushed_opens (takes ys) lacks xs o t f g e = cc
pushed_opens too_deep lacks xs o t f g e = f refl
pushed_opens refuses true xs o t f g e = g e
pushed_opens refuses false xs o t f g e = cc

move_opens : (xs : List Symbol) (t : Token) → move xs t ≡ too_deep → Opens t
move_opens [] t e = cc
move_opens (x ∷ xs) t e = pushed_opens (push x t) (may_lack x) xs (move xs t) t (push_opens x t) (move_opens xs t) e

-- ---- any number of levels more

abbrev raised : ℕ → List Symbol → List Symbol
raised zero xs = xs
raised (suc n) xs = map deeper (raised n xs)

raised_takes : (n : ℕ) (xs ys : List Symbol) (t : Token) → move xs t ≡ takes ys → move (raised n xs) t ≡ takes (raised n ys)
raised_takes zero xs ys t e = e
raised_takes (suc n) xs ys t e =
    let P : Push → Type 0 = λ p. Deepened p (move (map deeper (raised n xs)) t) in
    subst P (raised_takes n xs ys t e) (deeper_move (raised n xs) t)

raised_refuses : (n : ℕ) (xs : List Symbol) (t : Token) → move xs t ≡ refuses → move (raised n xs) t ≡ refuses
raised_refuses zero xs t e = e
raised_refuses (suc n) xs t e =
    let P : Push → Type 0 = λ p. Deepened p (move (map deeper (raised n xs)) t) in
    subst P (raised_refuses n xs t e) (deeper_move (raised n xs) t)

raised_all_lack : (n : ℕ) (xs : List Symbol) → all_may_lack (raised n xs) ≡ all_may_lack xs
raised_all_lack zero xs = refl
raised_all_lack (suc n) xs = deeper_all_lack (raised n xs) ∙ raised_all_lack n xs

abbrev level : ℕ → ℕ → ℕ
level zero d = d
level (suc n) d = suc (level n d)

raised_start : (n d : ℕ) → raised n (start d) ≡ start (level n d)
raised_start zero d = refl
raised_start (suc n) d = ap (map deeper) (raised_start n d)

below_level : (n d : ℕ) → n ≤ level n d
below_level zero d = omega arith
below_level (suc n) d = let h = below_level n d in omega arith

-- ---- the way to where it stops

pub record Way (xs : List Symbol) (taken : List Token) (ys : List Symbol) : Type 0 where
  pub back : (z : List Token) → Means ys z → Means xs (taken ++ z)
  pub same : (z : List Token) → fate xs (taken ++ z) ≡ fate ys z

abbrev Path : List Symbol → List Token → List Symbol → Type 0
Path xs taken ys = (n : ℕ) → Way (raised n xs) taken (raised n ys)

stay : (xs : List Symbol) → Path xs [] xs
stay xs n = record { back = λ z m. m; same = λ z. refl }

go : (xs xs' ys : List Symbol) (t : Token) (taken : List Token) → move xs t ≡ takes xs' → Path xs' taken ys → Path xs (t ∷ taken) ys
unfolding fate
go xs xs' ys t taken e path n =
    let e' = raised_takes n xs xs' t e in
    record {
      back = λ z m. back_move (raised n xs) t (taken ++ z) (let P : Push → Type 0 = λ p. Behind p (taken ++ z) in subst P (sym e') ((path n).back z m));
      same = λ z. ap (λ p. fate_after p (t ∷ (taken ++ z)) (λ us. fate us (taken ++ z))) e' ∙ (path n).same z;
    }

abbrev AtEnd : Bool → List Symbol → List Token → Type 0
AtEnd false ys [] = all_may_lack ys ≡ false
AtEnd false ys (t ∷ ts) = move ys t ≡ refuses
AtEnd true ys [] = ⊥
AtEnd true ys (t ∷ ts) = move ys t ≡ too_deep

pub record Found (deep : Bool) (xs : List Symbol) (ts rest : List Token) : Type 0 where
  pub taken : List Token
  pub ys : List Symbol
  pub split : ts ≡ taken ++ rest
  pub path : Path xs taken ys
  pub at : AtEnd deep ys rest

abbrev pub Walk : List Symbol → List Token → Fate → Type 0
Walk xs ts fits = Means xs ts
Walk xs ts (stops rest) = Found false xs ts rest
Walk xs ts (deepens rest) = Found true xs ts rest

farther : (deep : Bool) (xs xs' : List Symbol) (t : Token) (ts rest : List Token) → move xs t ≡ takes xs' → Found deep xs' ts rest → Found deep xs (t ∷ ts) rest
farther deep xs xs' t ts rest e w = record {
  taken = t ∷ w.taken;
  ys = w.ys;
  split = ap (λ z. t ∷ z) w.split;
  path = go xs xs' w.ys t w.taken e w.path;
  at = w.at;
}

extend : (xs xs' : List Symbol) (t : Token) (ts : List Token) (w : Fate) → move xs t ≡ takes xs' → Walk xs' ts w → Walk xs (t ∷ ts) w
extend xs xs' t ts fits e m = back_move xs t ts (let P : Push → Type 0 = λ p. Behind p ts in subst P (sym e) m)
extend xs xs' t ts (stops r) e m = farther false xs xs' t ts r e m
extend xs xs' t ts (deepens r) e m = farther true xs xs' t ts r e m

pub walk : (ts : List Token) (xs : List Symbol) → Walk xs ts (fate xs ts)
unfolding fate
walk [] xs = at_end (all_may_lack xs) refl where
  at_end : (b : Bool) → all_may_lack xs ≡ b → Walk xs [] (cond b fits (stops []))
  at_end true e = all_lack xs e
  at_end false e = record { taken = []; ys = xs; split = refl; path = stay xs; at = e }
walk (t ∷ ts) xs = by_move (λ ys. walk ts ys) (move xs t) refl where
  by_move : ((ys : List Symbol) → Walk ys ts (fate ys ts)) → (p : Push) → move xs t ≡ p → Walk xs (t ∷ ts) (fate_after p (t ∷ ts) (λ us. fate us ts))
  by_move next (takes xs') e = extend xs xs' t ts (fate xs' ts) e (next xs')
  by_move next too_deep e = record { taken = []; ys = xs; split = refl; path = stay xs; at = e }
  by_move next refuses e = record { taken = []; ys = xs; split = refl; path = stay xs; at = e }

-- ---- what contracts cite

append_nil : (ts : List Token) → ts ++ [] ≡ ts
append_nil [] = refl
append_nil (t ∷ ts) = ap (λ z. t ∷ z) (append_nil ts)

tree_of : (d : ℕ) (taken z : List Token) → Means (start d) (taken ++ z) → AllReal z → Begins d taken
tree_of d taken z m r = let (q, h, e) = to_query d (taken ++ z) m in record { tree = q; rest = z; words = sym e; real = r; shallow = h }

-- what was taken begins the words of a tree
begun : (d : ℕ) (taken : List Token) (ys : List Symbol) → Path (start d) taken ys → Begins d taken
begun d taken ys path = let (z, m, r) = some_words ys in tree_of d taken z ((path 0).back z m) r

-- no tree goes on with what the machine refuses, whatever its depth
not_fits : (n d : ℕ) (taken z : List Token) (ys : List Symbol) (q : Query) → Path (start d) taken ys → depth q ≤ level n d → words q ≡ taken ++ z → fate (raised n ys) z ≡ fits
not_fits n d taken z ys q path h e =
    sym ((path n).same z)
    ∙ ap (fate (raised n (start d))) (sym e)
    ∙ ap (λ xs. fate xs (words q)) (raised_start n d)
    ∙ words_fit q (level n d) h

stops_not_fits : {P : Type 0} (w : Fate) (r : List Token) → w ≡ stops r → w ≡ fits → P
stops_not_fits w r e e' = cc

deepens_not_fits : {P : Type 0} (w : Fate) (r : List Token) → w ≡ deepens r → w ≡ fits → P
deepens_not_fits w r e e' = cc

stops_by : (xs : List Symbol) (t : Token) (ts : List Token) → move xs t ≡ refuses → fate xs (t ∷ ts) ≡ stops (t ∷ ts)
unfolding fate
stops_by xs t ts e = ap (λ p. fate_after p (t ∷ ts) (λ us. fate us ts)) e

deepens_by : (xs : List Symbol) (t : Token) (ts : List Token) → move xs t ≡ too_deep → fate xs (t ∷ ts) ≡ deepens (t ∷ ts)
unfolding fate
deepens_by xs t ts e = ap (λ p. fate_after p (t ∷ ts) (λ us. fate us ts)) e

stops_at_end : (xs : List Symbol) → all_may_lack xs ≡ false → fate xs [] ≡ stops []
unfolding fate
stops_at_end xs e = ap (λ b. cond b fits (stops [])) e

unfit : (d : ℕ) (taken rest : List Token) (ys : List Symbol) → Path (start d) taken ys → AtEnd false ys rest → Unfit taken rest
unfit d taken [] ys path at = λ q e.
    stops_not_fits _ [] (stops_at_end (raised (depth q) ys) (raised_all_lack (depth q) ys ∙ at))
    (not_fits (depth q) d taken [] ys q path (below_level (depth q) d) (e ∙ sym (append_nil taken)))
unfit d taken (t ∷ ts) ys path at = λ n b.
    stops_not_fits _ (t ∷ b.rest) (stops_by (raised (depth b.tree) ys) t b.rest (raised_refuses (depth b.tree) ys t at))
    (not_fits (depth b.tree) d taken (t ∷ b.rest) ys b.tree path (below_level (depth b.tree) d) (b.words ∙ append_assoc taken (t ∷ []) b.rest))

pub syntax_found : (d : ℕ) (ts rest : List Token) → Found false (start d) ts rest → StopsWith (IsSyntax d) ts rest
syntax_found d ts rest w = (w.taken, w.split, record { begins = begun d w.taken w.ys w.path; none = unfit d w.taken rest w.ys w.path w.at })

one_deeper : (d : ℕ) (taken : List Token) (t : Token) (ys zs : List Symbol) → Path (start d) taken ys → move (map deeper ys) t ≡ takes zs → Begins (suc d) (taken ++ t ∷ [])
one_deeper d taken t ys zs path e =
    let (z, m, r) = some_words zs in
    let P : Push → Type 0 = λ p. Behind p z in
    let m' = (path 1).back (t ∷ z) (back_move (map deeper ys) t z (subst P (sym e) m)) in
    let Q : List Token → Type 0 = Means (start (suc d)) in
    tree_of (suc d) (taken ++ t ∷ []) z (subst Q (sym (append_assoc taken (t ∷ []) z)) m') r

pub deep_found : (d : ℕ) (ts rest : List Token) → Found true (start d) ts rest → StopsWith (IsDeep d) ts rest
deep_found d ts [] w = absurd w.at
deep_found d ts (t ∷ us) w =
    let P : Push → Type 0 = λ p. Deepened p (move (map deeper w.ys) t) in
    let (zs, e) = subst P w.at (deeper_move w.ys t) in (
      w.taken,
      w.split,
      record {
        opens = move_opens w.ys t w.at;
        begins = begun d w.taken w.ys w.path;
        deeper = one_deeper d w.taken t w.ys zs w.path e;
        none = λ b. deepens_not_fits _ (t ∷ b.rest) (deepens_by w.ys t b.rest w.at) (not_fits 0 d w.taken (t ∷ b.rest) w.ys b.tree w.path b.shallow (b.words ∙ append_assoc w.taken (t ∷ []) b.rest));
      },
    )

pub syntax_exact : (d : ℕ) (ts rest : List Token) → fate (start d) ts ≡ stops rest → StopsWith (IsSyntax d) ts rest
syntax_exact d ts rest e = syntax_found d ts rest (let P : Fate → Type 0 = Walk (start d) ts in subst P e (walk ts (start d)))

pub deep_exact : (d : ℕ) (ts rest : List Token) → fate (start d) ts ≡ deepens rest → StopsWith (IsDeep d) ts rest
deep_exact d ts rest e = deep_found d ts rest (let P : Fate → Type 0 = Walk (start d) ts in subst P e (walk ts (start d)))
