-- The machine takes the words of each tree.
use Rattle.saber_query.specs.Reading.{Refuses}
use Rattle.std.proofs.Common.{◌≡◌, ℕ, zero, suc, ◌≤◌, List, [], ◌∷◌, ◌++◌, Option, Some, None, Bool, true, false, cond, ◌&&◌, refl, sym, ◌∙◌, ap, arith, append_assoc}
use Rattle.saber_query.specs.declared.token.Keyword.TheVariants as k
use Rattle.saber_query.specs.declared.token.Sign.TheVariants as s
use Rattle.saber_query.specs.declared.token.Token.{Token}
use Rattle.saber_query.specs.declared.token.Token.TheVariants.{Word, Mark, Named, Number}
use Rattle.saber_query.specs.declared.tree.Factor.{Factor}
use Rattle.saber_query.specs.declared.tree.Factor.TheVariants as f
use Rattle.saber_query.specs.declared.tree.Adding.{Adding}
use Rattle.saber_query.specs.declared.tree.Adding.TheVariants.{Plus, Minus}
use Rattle.saber_query.specs.declared.tree.Term.{Term}
use Rattle.saber_query.specs.declared.tree.Prod.{Prod}
use Rattle.saber_query.specs.declared.tree.Expr.{Expr}
use Rattle.saber_query.specs.declared.tree.Item.{Item}
use Rattle.saber_query.specs.declared.tree.Item.TheVariants.{Count, Sum, Min, Max, Value}
use Rattle.saber_query.specs.declared.tree.Measure.{Measure}
use Rattle.saber_query.specs.declared.tree.Measure.TheVariants.{Rows, Range, Partition}
use Rattle.saber_query.specs.declared.tree.StreamWord.{StreamWord}
use Rattle.saber_query.specs.declared.tree.StreamWord.TheVariants.{Rstream, Istream, Dstream}
use Rattle.saber_query.specs.declared.tree.Window.{Window}
use Rattle.saber_query.specs.declared.tree.Source.{Source}
use Rattle.saber_query.specs.declared.tree.Decl.{Decl}
use Rattle.saber_query.specs.declared.tree.Column.{Column}
use Rattle.saber_query.specs.declared.tree.Keys.{Keys}
use Rattle.saber_query.specs.declared.tree.Cmp.{Cmp}
use Rattle.saber_query.specs.declared.tree.Cmp.TheVariants as c
use Rattle.saber_query.specs.Trees.{Test, negated, enclosed, compare, Ands, no_more, and_also, Ors, no_other, or_else, Tests, Asked, Query, test_depth, ands_depth, ors_depth, where_depth, depth}
use Rattle.saber_query.specs.Words.{second_words, factor_words, factors_words, prod_words, adding_sign, terms_words, expr_words, item_words, items_words, measure_words, window_words, cmp_sign, test_words, ands_words, ors_words, where_words, last_words, words, names_words, decl_words, decls_words, source_words, second_source_words, column_words, columns_words, group_words, opened_words, shut_words}
use Rattle.saber_query.specs.Machine.{Symbol, close_sign, from_word, slide_word, close_bracket, a_number, comparison, measure, factor, more_column, more_factors, more_terms, item, more_items, unit, more_ands, more_ors, a_window, a_where, a_semicolon, rows_word, semicolon_sign, decl, more_decls, more_names, source, a_second, column, more_columns, a_group, body, select_symbols, refuses, may_lack, all_may_lack, push_result, move, fits, stops, fate_after, fate, start}

pub skipped : (x : Symbol) (xs : List Symbol) (ts : List Token) → may_lack x ≡ true → Refuses x ts → fate (x ∷ xs) ts ≡ fate xs ts
unfolding fate
skipped x xs [] e h = ap (λ b. cond (b && all_may_lack xs) fits (stops [])) e
skipped x xs (t ∷ ts) e h =
    ap (λ p. fate_after (push_result p (may_lack x) xs (move xs t)) (t ∷ ts) (λ ys. fate ys ts)) h
    ∙ ap (λ b. fate_after (cond b (move xs t) refuses) (t ∷ ts) (λ ys. fate ys ts)) e

-- nothing of an expression goes on
pub record EndsExpr (ts : List Token) : Type 0 where
  pub column : Refuses more_column ts
  pub factors : Refuses more_factors ts
  pub terms : Refuses more_terms ts

pub column_law : (n : List ℕ) (o : Option (List ℕ)) (xs : List Symbol) (ts : List Token) → Refuses more_column ts → fate (factor ∷ xs) (Named n ∷ (second_words o ++ ts)) ≡ fate xs ts
unfolding fate
column_law n None xs ts h = skipped more_column xs ts refl h
column_law n (Some m) xs ts h = refl

pub factor_law : (x : Factor) (xs : List Symbol) (ts : List Token) → Refuses more_column ts → fate (factor ∷ xs) (factor_words x ++ ts) ≡ fate xs ts
unfolding fate
factor_law (f.Column col) xs ts h = column_law col.first col.second xs ts h
factor_law (f.Number n) xs ts h = refl
factor_law (f.Negative n) xs ts h = refl

pub factors_end : (fs : List Factor) (ts : List Token) → Refuses more_column ts → Refuses more_column (factors_words fs ++ ts)
factors_end [] ts h = h
factors_end (x ∷ fs) ts h = refl

pub factors_law : (fs : List Factor) (xs : List Symbol) (ts : List Token) → Refuses more_column ts → Refuses more_factors ts → fate (more_factors ∷ xs) (factors_words fs ++ ts) ≡ fate xs ts
unfolding fate
factors_law [] xs ts h h' = skipped more_factors xs ts refl h'
factors_law (x ∷ fs) xs ts h h' =
    ap (fate (factor ∷ more_factors ∷ xs)) (append_assoc (factor_words x) (factors_words fs) ts)
    ∙ factor_law x (more_factors ∷ xs) (factors_words fs ++ ts) (factors_end fs ts h)
    ∙ factors_law fs xs ts h h'

pub prod_law : (p : Prod) (xs : List Symbol) (ts : List Token) → Refuses more_column ts → Refuses more_factors ts → fate (factor ∷ more_factors ∷ xs) (prod_words p ++ ts) ≡ fate xs ts
prod_law p xs ts h h' =
    ap (fate (factor ∷ more_factors ∷ xs)) (append_assoc (factor_words p.first) (factors_words p.more) ts)
    ∙ factor_law p.first (more_factors ∷ xs) (factors_words p.more ++ ts) (factors_end p.more ts h)
    ∙ factors_law p.more xs ts h h'

adding_ends : (a : Adding) (ts : List Token) → Refuses more_column (Mark (adding_sign a) ∷ ts) × Refuses more_factors (Mark (adding_sign a) ∷ ts)
adding_ends Plus ts = (refl, refl)
adding_ends Minus ts = (refl, refl)

pub terms_end : (us : List Term) (ts : List Token) → EndsExpr ts → Refuses more_column (terms_words us ++ ts) × Refuses more_factors (terms_words us ++ ts)
terms_end [] ts h = (h.column, h.factors)
terms_end (u ∷ us) ts h = adding_ends u.adding ((prod_words u.prod ++ terms_words us) ++ ts)

added : (a : Adding) (xs : List Symbol) (ts : List Token) → fate (more_terms ∷ xs) (Mark (adding_sign a) ∷ ts) ≡ fate (factor ∷ more_factors ∷ more_terms ∷ xs) ts
unfolding fate
added Plus xs ts = refl
added Minus xs ts = refl

pub terms_law : (us : List Term) (xs : List Symbol) (ts : List Token) → EndsExpr ts → fate (more_terms ∷ xs) (terms_words us ++ ts) ≡ fate xs ts
terms_law [] xs ts h = skipped more_terms xs ts refl h.terms
terms_law (u ∷ us) xs ts h =
    let (h', h'') = terms_end us ts h in
    added u.adding xs ((prod_words u.prod ++ terms_words us) ++ ts)
    ∙ ap (fate (factor ∷ more_factors ∷ more_terms ∷ xs)) (append_assoc (prod_words u.prod) (terms_words us) ts)
    ∙ prod_law u.prod (more_terms ∷ xs) (terms_words us ++ ts) h' h''
    ∙ terms_law us xs ts h

pub expr_law : (e : Expr) (xs : List Symbol) (ts : List Token) → EndsExpr ts → fate (factor ∷ more_factors ∷ more_terms ∷ xs) (expr_words e ++ ts) ≡ fate xs ts
expr_law e xs ts h =
    let (h', h'') = terms_end e.more ts h in
    ap (fate (factor ∷ more_factors ∷ more_terms ∷ xs)) (append_assoc (prod_words e.first) (terms_words e.more) ts)
    ∙ prod_law e.first (more_terms ∷ xs) (terms_words e.more ++ ts) h' h''
    ∙ terms_law e.more xs ts h

-- an item, or a unit, that begins as an expression
item_begins : (x : Factor) (xs : List Symbol) (ts : List Token) → fate (item ∷ xs) (factor_words x ++ ts) ≡ fate (factor ∷ more_factors ∷ more_terms ∷ xs) (factor_words x ++ ts)
unfolding fate
item_begins (f.Column col) xs ts = refl
item_begins (f.Number n) xs ts = refl
item_begins (f.Negative n) xs ts = refl

pub unit_begins : (d : ℕ) (x : Factor) (xs : List Symbol) (ts : List Token) → fate (unit d ∷ xs) (factor_words x ++ ts) ≡ fate (factor ∷ more_factors ∷ more_terms ∷ comparison ∷ factor ∷ more_factors ∷ more_terms ∷ xs) (factor_words x ++ ts)
unfolding fate
unit_begins zero (f.Column col) xs ts = refl
unit_begins (suc d) (f.Column col) xs ts = refl
unit_begins zero (f.Number n) xs ts = refl
unit_begins (suc d) (f.Number n) xs ts = refl
unit_begins zero (f.Negative n) xs ts = refl
unit_begins (suc d) (f.Negative n) xs ts = refl

pub expr_begins : (e : Expr) (ts : List Token) → expr_words e ++ ts ≡ factor_words e.first.first ++ (factors_words e.first.more ++ (terms_words e.more ++ ts))
expr_begins e ts = append_assoc (prod_words e.first) (terms_words e.more) ts ∙ append_assoc (factor_words e.first.first) (factors_words e.first.more) (terms_words e.more ++ ts)

pub item_law : (i : Item) (xs : List Symbol) (ts : List Token) → EndsExpr ts → fate (item ∷ xs) (item_words i ++ ts) ≡ fate xs ts
unfolding fate
item_law Count xs ts h = refl
item_law (Sum e) xs ts h =
    ap (fate (factor ∷ more_factors ∷ more_terms ∷ close_sign ∷ xs)) (append_assoc (expr_words e) (Mark s.Close ∷ []) ts)
    ∙ expr_law e (close_sign ∷ xs) (Mark s.Close ∷ ts) (record { column = refl; factors = refl; terms = refl })
item_law (Min e) xs ts h =
    ap (fate (factor ∷ more_factors ∷ more_terms ∷ close_sign ∷ xs)) (append_assoc (expr_words e) (Mark s.Close ∷ []) ts)
    ∙ expr_law e (close_sign ∷ xs) (Mark s.Close ∷ ts) (record { column = refl; factors = refl; terms = refl })
item_law (Max e) xs ts h =
    ap (fate (factor ∷ more_factors ∷ more_terms ∷ close_sign ∷ xs)) (append_assoc (expr_words e) (Mark s.Close ∷ []) ts)
    ∙ expr_law e (close_sign ∷ xs) (Mark s.Close ∷ ts) (record { column = refl; factors = refl; terms = refl })
item_law (Value e) xs ts h =
    ap (fate (item ∷ xs)) (expr_begins e ts) ∙ item_begins e.first.first xs _ ∙ ap (fate (factor ∷ more_factors ∷ more_terms ∷ xs)) (sym (expr_begins e ts)) ∙ expr_law e xs ts h

pub items_end : (is : List Item) (ts : List Token) → EndsExpr ts → EndsExpr (items_words is ++ ts)
items_end [] ts h = h
items_end (i ∷ is) ts h = record { column = refl; factors = refl; terms = refl }

pub items_law : (is : List Item) (xs : List Symbol) (ts : List Token) → EndsExpr ts → Refuses more_items ts → fate (more_items ∷ xs) (items_words is ++ ts) ≡ fate xs ts
unfolding fate
items_law [] xs ts h h' = skipped more_items xs ts refl h'
items_law (i ∷ is) xs ts h h' =
    ap (fate (item ∷ more_items ∷ xs)) (append_assoc (item_words i) (items_words is) ts)
    ∙ item_law i (more_items ∷ xs) (items_words is ++ ts) (items_end is ts h)
    ∙ items_law is xs ts h h'

pub cmp_ends : (c : Cmp) (ts : List Token) → EndsExpr (Mark (cmp_sign c) ∷ ts)
cmp_ends c.Equal ts = record { column = refl; factors = refl; terms = refl }
cmp_ends c.Unequal ts = record { column = refl; factors = refl; terms = refl }
cmp_ends c.Less ts = record { column = refl; factors = refl; terms = refl }
cmp_ends c.AtMost ts = record { column = refl; factors = refl; terms = refl }
cmp_ends c.Greater ts = record { column = refl; factors = refl; terms = refl }
cmp_ends c.AtLeast ts = record { column = refl; factors = refl; terms = refl }

pub compared_by : (c : Cmp) (xs : List Symbol) (ts : List Token) → fate (comparison ∷ xs) (Mark (cmp_sign c) ∷ ts) ≡ fate xs ts
unfolding fate
compared_by c.Equal xs ts = refl
compared_by c.Unequal xs ts = refl
compared_by c.Less xs ts = refl
compared_by c.AtMost xs ts = refl
compared_by c.Greater xs ts = refl
compared_by c.AtLeast xs ts = refl

-- nothing of a predicate's units goes on
pub record EndsAnds (ts : List Token) : Type 0 where
  pub expr : EndsExpr ts
  pub ands : (d : ℕ) → Refuses (more_ands d) ts

pub ands_end : (a : Ands) (ts : List Token) → EndsExpr ts → EndsExpr (ands_words a ++ ts)
ands_end no_more ts h = h
ands_end (and_also t a) ts h = record { column = refl; factors = refl; terms = refl }

pub ors_end : (o : Ors) (ts : List Token) → EndsAnds ts → EndsAnds (ors_words o ++ ts)
ors_end no_other ts h = h
ors_end (or_else t a o) ts h = record { expr = record { column = refl; factors = refl; terms = refl }; ands = λ d. refl }

pub at_close : (ts : List Token) → EndsAnds (Mark s.Close ∷ ts)
at_close ts = record { expr = record { column = refl; factors = refl; terms = refl }; ands = λ d. refl }

pub three : (w v u ts : List Token) → (w ++ (v ++ u)) ++ ts ≡ w ++ (v ++ (u ++ ts))
three w v u ts = append_assoc w (v ++ u) ts ∙ ap (λ z. w ++ z) (append_assoc v u ts)

pub four : (w v u y ts : List Token) → (w ++ (v ++ (u ++ y))) ++ ts ≡ w ++ (v ++ (u ++ (y ++ ts)))
four w v u y ts = append_assoc w (v ++ (u ++ y)) ts ∙ ap (λ z. w ++ z) (three v u y ts)

mutual
  unfolding fate

  pub test_law : (t : Test) (d : ℕ) (xs : List Symbol) (ts : List Token) → test_depth t ≤ d → EndsExpr ts → fate (unit d ∷ xs) (test_words t ++ ts) ≡ fate xs ts
  test_law (negated t) zero xs ts g h = absurd (omega arith)
  test_law (negated t) (suc d) xs ts g h = test_law t d xs ts (omega arith) h
  test_law (enclosed t a o) zero xs ts g h = absurd (omega arith)
  test_law (enclosed t a o) (suc d) xs ts g h =
      ap (fate (unit d ∷ more_ands d ∷ more_ors d ∷ close_sign ∷ xs)) (four (test_words t) (ands_words a) (ors_words o) (Mark s.Close ∷ []) ts)
      ∙ test_law t d (more_ands d ∷ more_ors d ∷ close_sign ∷ xs) _ (omega arith) (ands_end a _ (ors_end o _ (at_close ts)).expr)
      ∙ ands_law a d (more_ors d ∷ close_sign ∷ xs) _ (omega arith) (ors_end o _ (at_close ts))
      ∙ ors_law o d (close_sign ∷ xs) _ (omega arith) (at_close ts) refl
  test_law (compare x c y) d xs ts g h =
      ap (fate (unit d ∷ xs)) (append_assoc (expr_words x) (Mark (cmp_sign c) ∷ expr_words y) ts ∙ expr_begins x _)
      ∙ unit_begins d x.first.first xs _
      ∙ ap (fate (factor ∷ more_factors ∷ more_terms ∷ comparison ∷ factor ∷ more_factors ∷ more_terms ∷ xs)) (sym (expr_begins x (Mark (cmp_sign c) ∷ (expr_words y ++ ts))))
      ∙ expr_law x (comparison ∷ factor ∷ more_factors ∷ more_terms ∷ xs) _ (cmp_ends c _)
      ∙ compared_by c _ _
      ∙ expr_law y xs ts h

  pub ands_law : (a : Ands) (d : ℕ) (xs : List Symbol) (ts : List Token) → ands_depth a ≤ d → EndsAnds ts → fate (more_ands d ∷ xs) (ands_words a ++ ts) ≡ fate xs ts
  ands_law no_more d xs ts g h = skipped (more_ands d) xs ts refl (h.ands d)
  ands_law (and_also t a) d xs ts g h =
      ap (fate (unit d ∷ more_ands d ∷ xs)) (append_assoc (test_words t) (ands_words a) ts)
      ∙ test_law t d (more_ands d ∷ xs) _ (omega arith) (ands_end a ts h.expr)
      ∙ ands_law a d xs ts (omega arith) h

  pub ors_law : (o : Ors) (d : ℕ) (xs : List Symbol) (ts : List Token) → ors_depth o ≤ d → EndsAnds ts → Refuses (more_ors d) ts → fate (more_ors d ∷ xs) (ors_words o ++ ts) ≡ fate xs ts
  ors_law no_other d xs ts g h h' = skipped (more_ors d) xs ts refl h'
  ors_law (or_else t a o) d xs ts g h h' =
      ap (fate (unit d ∷ more_ands d ∷ more_ors d ∷ xs)) (three (test_words t) (ands_words a) (ors_words o) ts)
      ∙ test_law t d (more_ands d ∷ more_ors d ∷ xs) _ (omega arith) (ands_end a _ (ors_end o _ h).expr)
      ∙ ands_law a d (more_ors d ∷ xs) _ (omega arith) (ors_end o _ h)
      ∙ ors_law o d xs ts (omega arith) h h'

names_law : (ns : List (List ℕ)) (xs : List Symbol) (ts : List Token) → Refuses more_names ts → fate (more_names ∷ xs) (names_words ns ++ ts) ≡ fate xs ts
unfolding fate
names_law [] xs ts h = skipped more_names xs ts refl h
names_law (n ∷ ns) xs ts h = names_law ns xs ts h

decl_law : (d : Decl) (xs : List Symbol) (ts : List Token) → fate (decl ∷ xs) (decl_words d ++ ts) ≡ fate xs ts
unfolding fate
decl_law d xs ts =
    ap (fate (more_names ∷ close_sign ∷ semicolon_sign ∷ xs)) (append_assoc (names_words d.more) (Mark s.Close ∷ Mark s.Semicolon ∷ []) ts)
    ∙ names_law d.more (close_sign ∷ semicolon_sign ∷ xs) (Mark s.Close ∷ Mark s.Semicolon ∷ ts) refl

decl_again : (d : Decl) (xs : List Symbol) (ts : List Token) → fate (more_decls ∷ xs) (decl_words d ++ ts) ≡ fate (decl ∷ more_decls ∷ xs) (decl_words d ++ ts)
unfolding fate
decl_again d xs ts = refl

decls_law : (ds : List Decl) (xs : List Symbol) (ts : List Token) → Refuses more_decls ts → fate (more_decls ∷ xs) (decls_words ds ++ ts) ≡ fate xs ts
decls_law [] xs ts h = skipped more_decls xs ts refl h
decls_law (d ∷ ds) xs ts h =
    ap (fate (more_decls ∷ xs)) (append_assoc (decl_words d) (decls_words ds) ts)
    ∙ decl_again d xs (decls_words ds ++ ts)
    ∙ decl_law d (more_decls ∷ xs) (decls_words ds ++ ts)
    ∙ decls_law ds xs ts h

key_law : (c : Column) (xs : List Symbol) (ts : List Token) → Refuses more_column ts → fate (column ∷ xs) (column_words c ++ ts) ≡ fate xs ts
unfolding fate
key_law c xs ts h = qualified c.second where
  qualified : (o : Option (List ℕ)) → fate (more_column ∷ xs) (second_words o ++ ts) ≡ fate xs ts
  qualified None = skipped more_column xs ts refl h
  qualified (Some m) = refl

pub keys_end : (cs : List Column) (ts : List Token) → Refuses more_column ts → Refuses more_column (columns_words cs ++ ts)
keys_end [] ts h = h
keys_end (c ∷ cs) ts h = refl

keys_law : (cs : List Column) (xs : List Symbol) (ts : List Token) → Refuses more_column ts → Refuses more_columns ts → fate (more_columns ∷ xs) (columns_words cs ++ ts) ≡ fate xs ts
unfolding fate
keys_law [] xs ts h h' = skipped more_columns xs ts refl h'
keys_law (c ∷ cs) xs ts h h' =
    ap (fate (column ∷ more_columns ∷ xs)) (append_assoc (column_words c) (columns_words cs) ts)
    ∙ key_law c (more_columns ∷ xs) (columns_words cs ++ ts) (keys_end cs ts h)
    ∙ keys_law cs xs ts h h'

-- BY and its columns
by_law : (g : Keys) (xs : List Symbol) (ts : List Token) → Refuses more_column ts → Refuses more_columns ts → fate (column ∷ more_columns ∷ xs) ((column_words g.first ++ columns_words g.more) ++ ts) ≡ fate xs ts
by_law g xs ts h h' =
    ap (fate (column ∷ more_columns ∷ xs)) (append_assoc (column_words g.first) (columns_words g.more) ts)
    ∙ key_law g.first (more_columns ∷ xs) (columns_words g.more ++ ts) (keys_end g.more ts h)
    ∙ keys_law g.more xs ts h h'

partitioned : (g : Keys) (xs : List Symbol) (ts : List Token) → fate (column ∷ more_columns ∷ rows_word ∷ xs) (((column_words g.first ++ columns_words g.more) ++ Word k.Rows ∷ []) ++ ts) ≡ fate xs ts
unfolding fate
partitioned g xs ts =
    ap (fate (column ∷ more_columns ∷ rows_word ∷ xs)) (append_assoc (column_words g.first ++ columns_words g.more) (Word k.Rows ∷ []) ts)
    ∙ by_law g (rows_word ∷ xs) (Word k.Rows ∷ ts) refl refl

measured : (m : Measure) (xs : List Symbol) (ts : List Token) → fate (measure ∷ xs) (measure_words m ++ ts) ≡ fate xs ts
unfolding fate
measured Rows xs ts = refl
measured Range xs ts = refl
measured (Partition g) xs ts = partitioned g xs ts

window_law : (w : Option Window) (xs : List Symbol) (ts : List Token) → Refuses a_window ts → fate (a_window ∷ xs) (window_words w ++ ts) ≡ fate xs ts
unfolding fate
window_law None xs ts h = skipped a_window xs ts refl h
window_law (Some w) xs ts h =
    let ns : List Token = Number w.size ∷ Word k.Slide ∷ Number w.slide ∷ Mark s.CloseBracket ∷ [] in
    ap (fate (measure ∷ a_number ∷ slide_word ∷ a_number ∷ close_bracket ∷ xs)) (append_assoc (measure_words w.measure) ns ts)
    ∙ measured w.measure (a_number ∷ slide_word ∷ a_number ∷ close_bracket ∷ xs) (ns ++ ts)

source_law : (f : Source) (xs : List Symbol) (ts : List Token) → Refuses a_window ts → fate (source ∷ xs) (source_words f ++ ts) ≡ fate xs ts
unfolding fate
source_law f xs ts h = window_law f.window xs ts h

second_law : (o : Option Source) (xs : List Symbol) (ts : List Token) → Refuses a_window ts → Refuses a_second ts → fate (a_second ∷ xs) (second_source_words o ++ ts) ≡ fate xs ts
unfolding fate
second_law None xs ts h h' = skipped a_second xs ts refl h'
second_law (Some f) xs ts h h' = source_law f xs ts h

pub second_ends : (o : Option Source) (ts : List Token) → Refuses a_window ts → Refuses a_window (second_source_words o ++ ts)
second_ends None ts h = h
second_ends (Some f) ts h = refl

-- nothing of what is before WHERE goes on, nor of a predicate
pub record EndsPred (ts : List Token) : Type 0 where
  pub ands : EndsAnds ts
  pub ors : (d : ℕ) → Refuses (more_ors d) ts
  pub wheres : (d : ℕ) → Refuses (a_where d) ts
  pub window : Refuses a_window ts
  pub second : Refuses a_second ts

-- nothing of what is asked goes on
pub record EndsAsked (ts : List Token) : Type 0 where
  pub pred : EndsPred ts
  pub column : Refuses more_column ts
  pub columns : Refuses more_columns ts
  pub group : Refuses a_group ts

pub tail_ends : (g : Option Keys) (ts : List Token) → EndsAsked ts → EndsPred (group_words g ++ ts)
tail_ends (Some g) ts h = record { ands = record { expr = record { column = refl; factors = refl; terms = refl }; ands = λ d. refl }; ors = λ d. refl; wheres = λ d. refl; window = refl; second = refl }
tail_ends None ts h = h.pred

group_law : (g : Option Keys) (xs : List Symbol) (ts : List Token) → EndsAsked ts → fate (a_group ∷ xs) (group_words g ++ ts) ≡ fate xs ts
unfolding fate
group_law None xs ts h = skipped a_group xs ts refl h.group
group_law (Some g) xs ts h = by_law g xs ts h.column h.columns

where_law : (p : Option Tests) (d : ℕ) (xs : List Symbol) (ts : List Token) → where_depth p ≤ d → EndsPred ts → fate (a_where d ∷ xs) (where_words p ++ ts) ≡ fate xs ts
unfolding fate
where_law None d xs ts g h = skipped (a_where d) xs ts refl (h.wheres d)
where_law (Some p) d xs ts g h =
    ap (fate (unit d ∷ more_ands d ∷ more_ors d ∷ xs)) (three (test_words p.first) (ands_words p.ands) (ors_words p.ors) ts)
    ∙ test_law p.first d _ _ (omega arith) (ands_end p.ands _ (ors_end p.ors _ h.ands).expr)
    ∙ ands_law p.ands d _ _ (omega arith) (ors_end p.ors _ h.ands)
    ∙ ors_law p.ors d _ _ (omega arith) h.ands (h.ors d)

pub where_ends : (p : Option Tests) (ts : List Token) → EndsPred ts → Refuses a_window (where_words p ++ ts) × Refuses a_second (where_words p ++ ts)
where_ends None ts h = (h.window, h.second)
where_ends (Some p) ts h = (refl, refl)

taken_from : (xs : List Symbol) (ts : List Token) → fate (from_word ∷ xs) (Word k.From ∷ ts) ≡ fate xs ts
unfolding fate
taken_from xs ts = refl

asked_law : (a : Asked) (d : ℕ) (xs : List Symbol) (ts : List Token) → where_depth a.predicate ≤ d → EndsAsked ts →
    fate (select_symbols d ++ xs) (item_words a.item ++ (items_words a.items ++ Word k.From ∷ (source_words a.from ++ (second_source_words a.second ++ (where_words a.predicate ++ (group_words a.group ++ ts)))))) ≡ fate xs ts
asked_law a d xs ts g h =
    let t = tail_ends a.group ts h in
    let (w, u) = where_ends a.predicate _ t in
    item_law a.item _ _ (items_end a.items _ (record { column = refl; factors = refl; terms = refl }))
    ∙ items_law a.items _ _ (record { column = refl; factors = refl; terms = refl }) refl
    ∙ taken_from _ _
    ∙ source_law a.from _ _ (second_ends a.second _ w)
    ∙ second_law a.second _ _ w u
    ∙ where_law a.predicate d _ _ g t
    ∙ group_law a.group xs ts h

-- what comes behind it, by the word before it
abbrev shuts : Option StreamWord → List Symbol
shuts None = []
shuts (Some w) = close_sign ∷ []

opened_law : (o : Option StreamWord) (d : ℕ) (xs : List Symbol) (ts : List Token) → fate (body d ∷ xs) (opened_words o ++ Word k.Select ∷ ts) ≡ fate (select_symbols d ++ (shuts o ++ xs)) ts
unfolding fate
opened_law None d xs ts = refl
opened_law (Some Rstream) d xs ts = refl
opened_law (Some Istream) d xs ts = refl
opened_law (Some Dstream) d xs ts = refl

pub opened_ends : (o : Option StreamWord) (ts : List Token) → Refuses more_decls (opened_words o ++ Word k.Select ∷ ts)
opened_ends None ts = refl
opened_ends (Some Rstream) ts = refl
opened_ends (Some Istream) ts = refl
opened_ends (Some Dstream) ts = refl

shut_law : (o : Option StreamWord) (xs : List Symbol) (ts : List Token) → fate (shuts o ++ xs) (shut_words o ++ ts) ≡ fate xs ts
unfolding fate
shut_law None xs ts = refl
shut_law (Some w) xs ts = refl

pub shut_ends : (o : Option StreamWord) (b : Bool) → EndsAsked (shut_words o ++ last_words b)
shut_ends (Some w) b = record { pred = record { ands = at_close _; ors = λ d. refl; wheres = λ d. refl; window = refl; second = refl }; column = refl; columns = refl; group = refl }
shut_ends None true = record { pred = record { ands = record { expr = record { column = refl; factors = refl; terms = refl }; ands = λ d. refl }; ors = λ d. refl; wheres = λ d. refl; window = refl; second = refl }; column = refl; columns = refl; group = refl }
shut_ends None false = record { pred = record { ands = record { expr = record { column = tt; factors = tt; terms = tt }; ands = λ d. tt }; ors = λ d. tt; wheres = λ d. tt; window = tt; second = tt }; column = tt; columns = tt; group = tt }

last_law : (b : Bool) → fate (a_semicolon ∷ []) (last_words b) ≡ fits
unfolding fate
last_law true = refl
last_law false = refl

abbrev asked_in : Query → Asked
asked_in q = record { item = q.item; items = q.items; from = q.from; second = q.second; predicate = q.predicate; group = q.group }

-- the words of a tree fit
pub words_fit : (q : Query) (d : ℕ) → depth q ≤ d → fate (start d) (words q) ≡ fits
words_fit q d g =
    decl_law q.decl _ _
    ∙ decls_law q.decls _ _ (opened_ends q.word _)
    ∙ opened_law q.word d (a_semicolon ∷ []) _
    ∙ asked_law (asked_in q) d (shuts q.word ++ a_semicolon ∷ []) (shut_words q.word ++ last_words q.closed) g (shut_ends q.word q.closed)
    ∙ shut_law q.word (a_semicolon ∷ []) (last_words q.closed)
    ∙ last_law q.closed
