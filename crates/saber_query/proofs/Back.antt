-- What the machine takes are words of trees, and whatever it stands at can be ended.
use Rattle.std.proofs.Common.{◌≡◌, ℕ, zero, suc, ◌≤◌, List, [], ◌∷◌, ◌++◌, Some, None, Bool, true, false, ◌&&◌, refl, sym, ◌∙◌, ap, arith, append_assoc}
use Rattle.saber_query.specs.declared.token.Keyword.TheVariants as k
use Rattle.saber_query.specs.declared.token.Sign.TheVariants as s
use Rattle.saber_query.specs.declared.token.Token.{Token}
use Rattle.saber_query.specs.declared.token.Token.TheVariants.{Word, Mark, Named, Number}
use Rattle.saber_query.specs.declared.tree.Factor.TheVariants as f
use Rattle.saber_query.specs.declared.tree.Adding.TheVariants.{Plus, Minus}
use Rattle.saber_query.specs.declared.tree.Expr.{Expr}
use Rattle.saber_query.specs.declared.tree.Item.TheVariants.{Count, Sum, Min, Max, Value}
use Rattle.saber_query.specs.declared.tree.Measure.TheVariants.{Rows, Range, Partition}
use Rattle.saber_query.specs.declared.tree.StreamWord.{StreamWord}
use Rattle.saber_query.specs.declared.tree.StreamWord.TheVariants.{Rstream, Istream, Dstream}
use Rattle.saber_query.specs.declared.tree.Cmp.TheVariants as c
use Rattle.saber_query.specs.declared.tree.Decl.{Decl}
use Rattle.saber_query.specs.Trees.{negated, enclosed, compare, no_more, and_also, no_other, or_else, Asked, Query, where_depth, depth}
use Rattle.saber_query.specs.Words.{expr_words, cmp_sign, measure_words, item_words, items_words, decl_words, decls_words, source_words, second_source_words, where_words, last_words, words, names_words, column_words, columns_words, stream_keyword, asked_words, body_words}
use Rattle.saber_query.specs.Machine.{Symbol, declaration_symbols, select_symbols, word_symbols, start, open_sign, close_sign, star_sign, from_word, slide_word, close_bracket, a_name, a_number, comparison, measure, factor, more_column, more_factors, more_terms, item, more_items, unit, more_ands, more_ors, a_window, a_where, a_semicolon, rows_word, select_word, by_word, semicolon_sign, decl, more_decls, more_names, source, a_second, column, more_columns, a_group, body, Push, takes, too_deep, refuses, push, may_lack, all_may_lack, push_result, move}
use Rattle.saber_query.specs.Tokens.{keyword_among}
use Rattle.saber_query.specs.Real.{IsReal, AllReal}
use Rattle.saber_query.specs.Parts.{Part, part_words, Means}
use Rattle.saber_query.proofs.Flat.{asked_flat, body_flat}

join : (a w b v c : List Token) → a ≡ w ++ b → b ≡ v ++ c → a ≡ (w ++ v) ++ c
join a w b v c e e' = e ∙ ap (λ z. w ++ z) e' ∙ sym (append_assoc w v c)

-- what a push leaves to be meant
abbrev pub Onto : Push → List Symbol → List Token → Type 0
Onto (takes ys) xs ts = Means (ys ++ xs) ts
Onto too_deep xs ts = ⊥
Onto refuses xs ts = ⊥

-- an expression in front
abbrev IsExpr : List Symbol → List Token → Type 0
IsExpr xs ts = (e : Expr) × (rest : List Token) × (ts ≡ expr_words e ++ rest) × Means xs rest

to_expr : (xs : List Symbol) (ts : List Token) → Means (factor ∷ more_factors ∷ more_terms ∷ xs) ts → IsExpr xs ts
to_expr xs ts (f, r, e, (fs, r', e', (us, r'', e'', m))) =
    (record { first = record { first = f; more = fs }; more = us }, r'', join _ _ _ _ _ (join _ _ _ _ _ e e') e'', m)

back_factor : (t : Token) (xs : List Symbol) (ts : List Token) → Onto (push factor t) xs ts → Means (factor ∷ xs) (t ∷ ts)
back_factor (Named n) xs ts (o, r, e, m) = (f.Column (record { first = n; second = o }), r, ap (λ z. Named n ∷ z) e, m)
back_factor (Number n) xs ts m = (f.Number n, ts, refl, m)
back_factor (Mark s.Minus) xs ts (n, r, e, m) = (f.Negative n, r, ap (λ z. Mark s.Minus ∷ z) e, m)
back_factor _ xs ts h = absurd h

to_item : (xs : List Symbol) (ts : List Token) → IsExpr xs ts → Means (item ∷ xs) ts
to_item xs ts (e, r, p, m) = (Value e, r, p, m)

to_unit : (d : ℕ) (xs : List Symbol) (ts : List Token) → IsExpr (comparison ∷ factor ∷ more_factors ∷ more_terms ∷ xs) ts → Means (unit d ∷ xs) ts
to_unit d xs ts (x, r, e, (c, r', e', m)) =
    let (y, r'', e'', m') = to_expr xs r' m in
    ((compare x c y, omega arith), r'', join _ _ _ _ _ e (e' ∙ ap (λ z. Mark (cmp_sign c) ∷ z) e''), m')

item_from : (t : Token) (xs : List Symbol) (ts : List Token) → Onto (push factor t) (more_factors ∷ more_terms ∷ xs) ts → Means (item ∷ xs) (t ∷ ts)
item_from t xs ts m = to_item xs (t ∷ ts) (to_expr xs (t ∷ ts) (back_factor t (more_factors ∷ more_terms ∷ xs) ts m))

unit_from : (d : ℕ) (t : Token) (xs : List Symbol) (ts : List Token) → Onto (push factor t) (more_factors ∷ more_terms ∷ comparison ∷ factor ∷ more_factors ∷ more_terms ∷ xs) ts → Means (unit d ∷ xs) (t ∷ ts)
unit_from d t xs ts m =
    let ys : List Symbol = comparison ∷ factor ∷ more_factors ∷ more_terms ∷ xs in
    to_unit d xs (t ∷ ts) (to_expr ys (t ∷ ts) (back_factor t (more_factors ∷ more_terms ∷ ys) ts m))

-- a declaration in front
to_decl : (xs : List Symbol) (ts : List Token) → Means (declaration_symbols ++ xs) ts → (d : Decl) × (r : List Token) × (Word k.Stream ∷ ts ≡ decl_words d ++ r) × Means xs r
to_decl xs ts (n, r1, e1, (u, r2, e2, (f, r3, e3, (ns, r4, e4, (v, r5, e5, (w, r6, e6, m)))))) = (
  record { name = n; first = f; more = ns },
  r6,
  ap (λ z. Word k.Stream ∷ z) (e1 ∙ ap (λ z. Named n ∷ z) (e2 ∙ ap (λ z. Mark s.Open ∷ z) (e3 ∙ ap (λ z. Named f ∷ z) (join _ _ _ _ _ e4 (e5 ∙ ap (λ z. Mark s.Close ∷ z) e6))))),
  m,
)

append_nil : (ts : List Token) → ts ++ [] ≡ ts
append_nil [] = refl
append_nil (t ∷ ts) = ap (λ z. t ∷ z) (append_nil ts)

-- what is asked in front
to_asked : (d : ℕ) (xs : List Symbol) (ts : List Token) → Means (select_symbols d ++ xs) ts → (a : Asked) × (r : List Token) × (where_depth a.predicate ≤ d) × (Word k.Select ∷ ts ≡ asked_words a ++ r) × Means xs r
to_asked d xs ts (i, r1, e1, (j, r2, e2, (u, r3, e3, (f, r4, e4, (o, r5, e5, ((p, h), r6, e6, (g, r7, e7, m))))))) = (
  record { item = i; items = j; from = f; second = o; predicate = p; group = g },
  r7,
  h,
  ap (λ z. Word k.Select ∷ z) (e1 ∙ ap (λ z. item_words i ++ z) (e2 ∙ ap (λ z. items_words j ++ z) (e3 ∙ ap (λ z. Word k.From ∷ z) (e4 ∙ ap (λ z. source_words f ++ z) (e5 ∙ ap (λ z. second_source_words o ++ z) (e6 ∙ ap (λ z. where_words p ++ z) e7))))))
      ∙ sym (asked_flat (record { item = i; items = j; from = f; second = o; predicate = p; group = g }) r7),
  m,
)

to_bare : (d : ℕ) (xs : List Symbol) (ts : List Token) → Means (select_symbols d ++ xs) ts → Means (body d ∷ xs) (Word k.Select ∷ ts)
to_bare d xs ts m =
    let (a, r, h, e, m') = to_asked d xs ts m in
    ((None, a, h), r, e ∙ ap (λ z. z ++ r) (sym (append_nil (asked_words a))), m')

to_worded : (w : StreamWord) (d : ℕ) (xs : List Symbol) (ts : List Token) → Means (word_symbols d ++ xs) ts → Means (body d ∷ xs) (Word (stream_keyword w) ∷ ts)
to_worded w d xs ts (u, r1, e1, (v, r2, e2, m)) =
    let (a, r, h, e, (u', r', e', m')) = to_asked d (close_sign ∷ xs) r2 m in
    ((Some w, a, h), r', ap (λ z. Word (stream_keyword w) ∷ z) (e1 ∙ ap (λ z. Mark s.Open ∷ z) (join r1 (asked_words a) r (Mark s.Close ∷ []) r' (e2 ∙ e) e')), m')

pub back_push : (x : Symbol) (t : Token) (xs : List Symbol) (ts : List Token) → Onto (push x t) xs ts → Means (x ∷ xs) (t ∷ ts)
back_push open_sign (Mark s.Open) xs ts m = (tt, ts, refl, m)
back_push close_sign (Mark s.Close) xs ts m = (tt, ts, refl, m)
back_push star_sign (Mark s.Star) xs ts m = (tt, ts, refl, m)
back_push from_word (Word k.From) xs ts m = (tt, ts, refl, m)
back_push slide_word (Word k.Slide) xs ts m = (tt, ts, refl, m)
back_push close_bracket (Mark s.CloseBracket) xs ts m = (tt, ts, refl, m)
back_push a_name (Named n) xs ts m = (n, ts, refl, m)
back_push a_number (Number n) xs ts m = (n, ts, refl, m)
back_push comparison (Mark s.Equal) xs ts m = (c.Equal, ts, refl, m)
back_push comparison (Mark s.Unequal) xs ts m = (c.Unequal, ts, refl, m)
back_push comparison (Mark s.Less) xs ts m = (c.Less, ts, refl, m)
back_push comparison (Mark s.AtMost) xs ts m = (c.AtMost, ts, refl, m)
back_push comparison (Mark s.Greater) xs ts m = (c.Greater, ts, refl, m)
back_push comparison (Mark s.AtLeast) xs ts m = (c.AtLeast, ts, refl, m)
back_push measure (Word k.Rows) xs ts m = (Rows, ts, refl, m)
back_push measure (Word k.Range) xs ts m = (Range, ts, refl, m)
back_push measure (Word k.Partition) xs ts (u, r, e, (c, r', e', (cs, r'', e'', (v, r3, e3, m)))) = (
  Partition (record { first = c; more = cs }),
  r3,
  ap (λ z. Word k.Partition ∷ z) (e ∙ ap (λ z. Word k.By ∷ z) (join r (column_words c ++ columns_words cs) r'' (Word k.Rows ∷ []) r3 (join r (column_words c) r' (columns_words cs) r'' e' e'') e3)),
  m,
)
back_push rows_word (Word k.Rows) xs ts m = (tt, ts, refl, m)
back_push factor t xs ts m = back_factor t xs ts m
back_push more_column (Mark s.Dot) xs ts (n, r, e, m) = (Some n, r, ap (λ z. Mark s.Dot ∷ z) e, m)
back_push more_factors (Mark s.Star) xs ts (f, r, e, (fs, r', e', m)) = (f ∷ fs, r', ap (λ z. Mark s.Star ∷ z) (join _ _ _ _ _ e e'), m)
back_push more_terms (Mark s.Plus) xs ts (f, r, e, (fs, r', e', (us, r'', e'', m))) =
    (record { adding = Plus; prod = record { first = f; more = fs } } ∷ us, r'', ap (λ z. Mark s.Plus ∷ z) (join _ _ _ _ _ (join _ _ _ _ _ e e') e''), m)
back_push more_terms (Mark s.Minus) xs ts (f, r, e, (fs, r', e', (us, r'', e'', m))) =
    (record { adding = Minus; prod = record { first = f; more = fs } } ∷ us, r'', ap (λ z. Mark s.Minus ∷ z) (join _ _ _ _ _ (join _ _ _ _ _ e e') e''), m)
back_push item (Word k.Count) xs ts (u, r, e, (u', r', e', (u'', r'', e'', m))) =
    (Count, r'', ap (λ z. Word k.Count ∷ z) (e ∙ ap (λ z. Mark s.Open ∷ z) (e' ∙ ap (λ z. Mark s.Star ∷ z) e'')), m)
back_push item (Word k.Sum) xs ts (u, r, e, m) =
    let (x, r', e', (u', r'', e'', m')) = to_expr (close_sign ∷ xs) r m in
    (Sum x, r'', ap (λ z. Word k.Sum ∷ z) (e ∙ ap (λ z. Mark s.Open ∷ z) (join _ _ _ _ _ e' e'')), m')
back_push item (Word k.Min) xs ts (u, r, e, m) =
    let (x, r', e', (u', r'', e'', m')) = to_expr (close_sign ∷ xs) r m in
    (Min x, r'', ap (λ z. Word k.Min ∷ z) (e ∙ ap (λ z. Mark s.Open ∷ z) (join _ _ _ _ _ e' e'')), m')
back_push item (Word k.Max) xs ts (u, r, e, m) =
    let (x, r', e', (u', r'', e'', m')) = to_expr (close_sign ∷ xs) r m in
    (Max x, r'', ap (λ z. Word k.Max ∷ z) (e ∙ ap (λ z. Mark s.Open ∷ z) (join _ _ _ _ _ e' e'')), m')
back_push item (Named n) xs ts m = item_from (Named n) xs ts m
back_push item (Number n) xs ts m = item_from (Number n) xs ts m
back_push item (Mark s.Minus) xs ts m = item_from (Mark s.Minus) xs ts m
back_push more_items (Mark s.Comma) xs ts (i, r, e, (is, r', e', m)) = (i ∷ is, r', ap (λ z. Mark s.Comma ∷ z) (join _ _ _ _ _ e e'), m)
back_push (unit d) (Named n) xs ts m = unit_from d (Named n) xs ts m
back_push (unit d) (Number n) xs ts m = unit_from d (Number n) xs ts m
back_push (unit d) (Mark s.Minus) xs ts m = unit_from d (Mark s.Minus) xs ts m
back_push (unit zero) (Word k.Not) xs ts h = absurd h
back_push (unit zero) (Mark s.Open) xs ts h = absurd h
back_push (unit (suc d)) (Word k.Not) xs ts ((t, h), r, e, m) = ((negated t, omega arith), r, ap (λ z. Word k.Not ∷ z) e, m)
back_push (unit (suc d)) (Mark s.Open) xs ts ((t, h), r, e, ((a, h'), r', e', ((o, h''), r'', e'', (u, r3, e3, m)))) =
    ((enclosed t a o, omega arith), r3, ap (λ z. Mark s.Open ∷ z) (join _ _ _ _ _ e (join _ _ _ _ _ e' (join _ _ _ _ _ e'' e3))), m)
back_push (more_ands d) (Word k.And) xs ts ((t, h), r, e, ((a, h'), r', e', m)) = ((and_also t a, omega arith), r', ap (λ z. Word k.And ∷ z) (join _ _ _ _ _ e e'), m)
back_push (more_ors d) (Word k.Or) xs ts ((t, h), r, e, ((a, h'), r', e', ((o, h''), r'', e'', m))) =
    ((or_else t a o, omega arith), r'', ap (λ z. Word k.Or ∷ z) (join _ _ _ _ _ e (join _ _ _ _ _ e' e'')), m)
back_push a_window (Mark s.OpenBracket) xs ts (w, r, e, (n, r', e', (u, r'', e'', (l, r3, e3, (u', r4, e4, m))))) =
    (Some (record { measure = w; size = n; slide = l }), r4, ap (λ z. Mark s.OpenBracket ∷ z) (join ts (measure_words w) r (Number n ∷ Word k.Slide ∷ Number l ∷ Mark s.CloseBracket ∷ []) r4 e (e' ∙ ap (λ z. Number n ∷ z) (e'' ∙ ap (λ z. Word k.Slide ∷ z) (e3 ∙ ap (λ z. Number l ∷ z) e4)))), m)
back_push (a_where d) (Word k.Where) xs ts ((t, h), r, e, ((a, h'), r', e', ((o, h''), r'', e'', m))) =
    ((Some (record { first = t; ands = a; ors = o }), omega arith), r'', ap (λ z. Word k.Where ∷ z) (join _ _ _ _ _ e (join _ _ _ _ _ e' e'')), m)
back_push a_semicolon (Mark s.Semicolon) xs ts m = (true, ts, refl, m)
back_push select_word (Word k.Select) xs ts m = (tt, ts, refl, m)
back_push by_word (Word k.By) xs ts m = (tt, ts, refl, m)
back_push semicolon_sign (Mark s.Semicolon) xs ts m = (tt, ts, refl, m)
back_push decl (Word k.Stream) xs ts m = to_decl xs ts m
back_push more_decls (Word k.Stream) xs ts m =
    let (d, r, e, (ds, r', e', m')) = to_decl (more_decls ∷ xs) ts m in
    (d ∷ ds, r', join (Word k.Stream ∷ ts) (decl_words d) r (decls_words ds) r' e e', m')
back_push more_names (Mark s.Comma) xs ts (n, r, e, (ns, r', e', m)) = (n ∷ ns, r', ap (λ z. Mark s.Comma ∷ z) (join ts (Named n ∷ []) r (names_words ns) r' e e'), m)
back_push source (Named n) xs ts (w, r, e, m) = (record { name = n; window = w }, r, ap (λ z. Named n ∷ z) e, m)
back_push a_second (Mark s.Comma) xs ts (f, r, e, m) = (Some f, r, ap (λ z. Mark s.Comma ∷ z) e, m)
back_push column (Named n) xs ts (o, r, e, m) = (record { first = n; second = o }, r, ap (λ z. Named n ∷ z) e, m)
back_push more_columns (Mark s.Comma) xs ts (c, r, e, (cs, r', e', m)) = (c ∷ cs, r', ap (λ z. Mark s.Comma ∷ z) (join ts (column_words c) r (columns_words cs) r' e e'), m)
back_push a_group (Word k.Group) xs ts (u, r, e, (c, r', e', (cs, r'', e'', m))) =
    (Some (record { first = c; more = cs }), r'', ap (λ z. Word k.Group ∷ z) (e ∙ ap (λ z. Word k.By ∷ z) (join r (column_words c) r' (columns_words cs) r'' e' e'')), m)
back_push (body d) (Word k.Select) xs ts m = to_bare d xs ts m
back_push (body d) (Word k.Rstream) xs ts m = to_worded Rstream d xs ts m
back_push (body d) (Word k.Istream) xs ts m = to_worded Istream d xs ts m
back_push (body d) (Word k.Dstream) xs ts m = to_worded Dstream d xs ts m
back_push _ _ xs ts h = absurd h

skip : (x : Symbol) (xs : List Symbol) (ts : List Token) → may_lack x ≡ true → Means xs ts → Means (x ∷ xs) ts
skip more_column xs ts e m = (None, ts, refl, m)
skip more_factors xs ts e m = ([], ts, refl, m)
skip more_terms xs ts e m = ([], ts, refl, m)
skip more_items xs ts e m = ([], ts, refl, m)
skip (more_ands d) xs ts e m = ((no_more, omega arith), ts, refl, m)
skip (more_ors d) xs ts e m = ((no_other, omega arith), ts, refl, m)
skip a_window xs ts e m = (None, ts, refl, m)
skip (a_where d) xs ts e m = ((None, omega arith), ts, refl, m)
skip a_semicolon xs ts e m = (false, ts, refl, m)
skip more_decls xs ts e m = ([], ts, refl, m)
skip more_names xs ts e m = ([], ts, refl, m)
skip a_second xs ts e m = (None, ts, refl, m)
skip more_columns xs ts e m = ([], ts, refl, m)
skip a_group xs ts e m = (None, ts, refl, m)
skip _ xs ts e m = cc

abbrev pub Behind : Push → List Token → Type 0
Behind (takes ys) ts = Means ys ts
Behind too_deep ts = ⊥
Behind refuses ts = ⊥

back_pushed : (x : Symbol) (xs : List Symbol) (us ts : List Token) (p : Push) (lacks : Bool) (other : Push) → (Onto p xs ts → Means (x ∷ xs) us) → (lacks ≡ true → Behind other ts → Means (x ∷ xs) us) →
    Behind (push_result p lacks xs other) ts → Means (x ∷ xs) us
back_pushed x xs us ts (takes ys) lacks other f g h = f h
back_pushed x xs us ts too_deep lacks other f g h = absurd h
back_pushed x xs us ts refuses true other f g h = g refl h
back_pushed x xs us ts refuses false other f g h = absurd h

pub back_move : (xs : List Symbol) (t : Token) (ts : List Token) → Behind (move xs t) ts → Means xs (t ∷ ts)
back_move [] t ts h = absurd h
back_move (x ∷ xs) t ts h = back_pushed x xs (t ∷ ts) ts (push x t) (may_lack x) (move xs t) (back_push x t xs ts) (λ e m. skip x xs (t ∷ ts) e (back_move xs t ts m)) h

-- every symbol stands for some words that a text can have
abbrev some_expr : Expr
some_expr = record { first = record { first = f.Number 0; more = [] }; more = [] }

-- a name that is no keyword
abbrev some_name : List ℕ
some_name = 97 ∷ []

abbrev some_part : (x : Symbol) → Part x
some_part a_name = some_name
some_part a_number = 0
some_part comparison = c.Equal
some_part measure = Rows
some_part factor = f.Number 0
some_part more_column = None
some_part more_factors = []
some_part more_terms = []
some_part item = Count
some_part more_items = []
some_part (unit d) = (compare some_expr c.Equal some_expr, omega arith)
some_part (more_ands d) = (no_more, omega arith)
some_part (more_ors d) = (no_other, omega arith)
some_part a_window = None
some_part (a_where d) = (None, omega arith)
some_part a_semicolon = false
some_part decl = record { name = some_name; first = some_name; more = [] }
some_part more_decls = []
some_part more_names = []
some_part source = record { name = some_name; window = None }
some_part a_second = None
some_part column = record { first = some_name; second = None }
some_part more_columns = []
some_part a_group = None
some_part (body d) = (None, record { item = Count; items = []; from = record { name = some_name; window = None }; second = None; predicate = None; group = None }, omega arith)
some_part _ = tt

real_append : (ts us : List Token) → AllReal ts → AllReal us → AllReal (ts ++ us)
real_append [] us h h' = h'
real_append (t ∷ ts) us (h, h') h'' = (h, real_append ts us h' h'')

name_real : IsReal (Named some_name)
unfolding keyword_among
name_real = (refl, refl)

some_real : (x : Symbol) → AllReal (part_words x (some_part x))
some_real a_name = (name_real, tt)
some_real a_number = (omega arith, tt)
some_real comparison = (tt, tt)
some_real measure = (tt, tt)
some_real factor = (omega arith, tt)
some_real more_column = tt
some_real more_factors = tt
some_real more_terms = tt
some_real item = (tt, (tt, (tt, (tt, tt))))
some_real more_items = tt
some_real (unit d) = (omega arith, (tt, (omega arith, tt)))
some_real (more_ands d) = tt
some_real (more_ors d) = tt
some_real a_window = tt
some_real (a_where d) = tt
some_real a_semicolon = tt
some_real decl = (tt, (name_real, (tt, (name_real, (tt, (tt, tt))))))
some_real more_decls = tt
some_real more_names = tt
some_real source = (name_real, tt)
some_real a_second = tt
some_real column = (name_real, tt)
some_real more_columns = tt
some_real a_group = tt
some_real (body d) = (tt, (tt, (tt, (tt, (tt, (tt, (name_real, tt)))))))
some_real rows_word = (tt, tt)
some_real select_word = (tt, tt)
some_real by_word = (tt, tt)
some_real semicolon_sign = (tt, tt)
some_real open_sign = (tt, tt)
some_real close_sign = (tt, tt)
some_real star_sign = (tt, tt)
some_real from_word = (tt, tt)
some_real slide_word = (tt, tt)
some_real close_bracket = (tt, tt)

pub some_words : (xs : List Symbol) → (ts : List Token) × Means xs ts × AllReal ts
some_words [] = ([], refl, tt)
some_words (x ∷ xs) = let (ts, m, r) = some_words xs in (part_words x (some_part x) ++ ts, (some_part x, ts, refl, m), real_append (part_words x (some_part x)) ts (some_real x) r)

pub all_lack : (xs : List Symbol) → all_may_lack xs ≡ true → Means xs []
all_lack [] e = refl
all_lack (x ∷ xs) e = let (e', e'') = both_true _ _ e in skip x xs [] e' (all_lack xs e'') where
  both_true : (a b : Bool) → a && b ≡ true → (a ≡ true) × (b ≡ true)
  both_true true b h = (refl, h)
  both_true false b h = cc

-- what the machine begins with stands for a whole tree
pub to_query : (d : ℕ) (ts : List Token) → Means (start d) ts → (q : Query) × (depth q ≤ d) × (ts ≡ words q)
to_query d ts (a, r1, e1, (b, r2, e2, ((o, s, h), r3, e3, (l, r4, e4, m)))) = (
  record { decl = a; decls = b; word = o; item = s.item; items = s.items; from = s.from; second = s.second; predicate = s.predicate; group = s.group; closed = l },
  h,
  e1 ∙ ap (λ z. decl_words a ++ z) (e2 ∙ ap (λ z. decls_words b ++ z) (e3 ∙ ap (λ z. body_words o s ++ z) (e4 ∙ ap (λ z. last_words l ++ z) m ∙ append_nil (last_words l)) ∙ body_flat o s (last_words l))),
)
