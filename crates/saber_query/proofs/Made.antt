-- A tree of the code for each tree of the grammar that has few words.
use Rattle.std.proofs.Common.{◌≡◌, ◌≤◌, List, [], ◌∷◌, ◌++◌, map, length, length-append, Option, Some, None, option_map, Box, refl, ◌∙◌, ap, arith, rules}
use Rattle.std.specs.Prelude.{Vec}
use Rattle.std.specs.declared.alloc.Global.{Global}
use denote.RawPtr.{null_ptr}
use Rattle.saber_query.specs.declared.token.Token.{Token}
use Rattle.saber_query.specs.declared.token.Token.TheVariants.{Word, Mark}
use Rattle.saber_query.specs.declared.token.Keyword.TheVariants as k
use Rattle.saber_query.specs.declared.token.Sign.TheVariants as s
use Rattle.saber_query.specs.declared.tree.Cmp.{Cmp}
use Rattle.saber_query.specs.declared.tree.Expr.{Expr}
use Rattle.saber_query.specs.declared.tree.Unit.{Unit as Unit_tree, Not, Enclosed, Compare, the_lemmas}
use Rattle.saber_query.specs.declared.tree.Conj.{Conj}
use Rattle.saber_query.specs.declared.tree.Pred.{Pred, roll-Pred}
use Rattle.saber_query.specs.declared.tree.Select.{Select}
use Rattle.saber_query.specs.Trees.{Test, negated, enclosed, compare, Ands, no_more, and_also, Ors, no_other, or_else, Tests, Both, Query, test_of, both_of, tests_of, query_of, ands_of, ors_of, enclosed_by, both_by, tests_by}
use Rattle.saber_query.specs.Words.{test_words, ands_words, ors_words, decl_words, decls_words, item_words, items_words, source_words, second_source_words, where_words, group_words, last_words, opened_words, shut_words, words}

-- ---- lists and boxes, which lie nowhere

vec : {X : Type 0} (xs : List X) → length xs ≤ 65536 → Vec X Global
vec xs h = record { ptr = null_ptr; len = length xs; cap = length xs; alloc = record { memory = record { seal = tt } }; items = xs; ok = (refl, omega arith); small = omega arith }

boxed : {X : Type 0} → X → Box X Global
boxed x = record { ptr = null_ptr; alloc = record { memory = record { seal = tt } }; value = x }

not_made : (u : Unit_tree) → test_of (Not (boxed u)) ≡ negated (test_of u)
unfolding boxed
not_made u = search (rules, the_lemmas)

compare_made : (x : Expr) (c : Cmp) (y : Expr) → test_of (Compare x c y) ≡ compare x c y
compare_made x c y = search (rules, the_lemmas)

abbrev conj : (u : Unit_tree) (us : List Unit_tree) → length us ≤ 65536 → Conj
conj u us h = record { first = u; more = vec us h }

conj_made : (u : Unit_tree) (us : List Unit_tree) (h : length us ≤ 65536) → both_of (conj u us h) ≡ both_by (test_of u) (map test_of us)
unfolding vec
conj_made u us h = search (rules, the_lemmas)

abbrev pred : (c : Conj) (cs : List Conj) → length cs ≤ 65536 → Pred
pred c cs h = roll-Pred (record { first = c; more = vec cs h })

pred_made : (c : Conj) (cs : List Conj) (h : length cs ≤ 65536) → tests_of (pred c cs h) ≡ tests_by (both_of c) (map both_of cs)
unfolding vec
pred_made c cs h = search (rules, the_lemmas)

enclosed_made : (p : Pred) → test_of (Enclosed (boxed p)) ≡ enclosed_by (tests_of p)
unfolding boxed
enclosed_made p = search (rules, the_lemmas)

-- ---- the parts of a predicate

record Unit_for (t : Test) : Type 0 where
  tree : Unit_tree
  same : test_of tree ≡ t

record Units_for (a : Ands) : Type 0 where
  trees : List Unit_tree
  same : ands_of (map test_of trees) ≡ a
  few : length trees ≤ length (ands_words a)

record Conjs_for (o : Ors) : Type 0 where
  trees : List Conj
  same : ors_of (map both_of trees) ≡ o
  few : length trees ≤ length (ors_words o)

record Pred_for (t : Test) (a : Ands) (o : Ors) : Type 0 where
  tree : Pred
  same : tests_of tree ≡ record { first = t; ands = a; ors = o }

first_few : (xs ys : List Token) → length (xs ++ ys) ≤ 65536 → length xs ≤ 65536
first_few xs ys h = omega (arith, length-append xs ys)

second_few : (xs ys : List Token) → length (xs ++ ys) ≤ 65536 → length ys ≤ 65536
second_few xs ys h = omega (arith, length-append xs ys)

conj_for : (t : Test) (a : Ands) → length (ands_words a) ≤ 65536 → Unit_for t → Units_for a → (c : Conj) × (both_of c ≡ record { first = t; ands = a })
conj_for t a h u us =
    let few : length us.trees ≤ 65536 = omega (arith, us.few) in
    (conj u.tree us.trees few, conj_made u.tree us.trees few ∙ ap (λ x. both_by x (map test_of us.trees)) u.same ∙ ap (λ x. record { first = t; ands = x }) us.same)

pred_for : (t : Test) (a : Ands) (o : Ors) → length (ands_words a) ≤ 65536 → length (ors_words o) ≤ 65536 → Unit_for t → Units_for a → Conjs_for o → Pred_for t a o
pred_for t a o h h' u us cs =
    let few : length cs.trees ≤ 65536 = omega (arith, cs.few) in
    let c = conj_for t a h u us in
    record {
      tree = pred c.0 cs.trees few;
      same = pred_made c.0 cs.trees few ∙ ap (λ x. tests_by x (map both_of cs.trees)) c.1 ∙ ap (λ x. record { first = t; ands = a; ors = x }) cs.same;
    }

mutual
  unit_for : (t : Test) → length (test_words t) ≤ 65536 → Unit_for t
  unit_for (negated t) h = let u = unit_for t (omega arith) in record { tree = Not (boxed u.tree); same = not_made u.tree ∙ ap negated u.same }
  unit_for (enclosed t a o) h =
      let all : length (test_words t ++ (ands_words a ++ (ors_words o ++ Mark s.Close ∷ []))) ≤ 65536 = omega arith in
      let more = second_few (test_words t) (ands_words a ++ (ors_words o ++ Mark s.Close ∷ [])) all in
      let ands = first_few (ands_words a) (ors_words o ++ Mark s.Close ∷ []) more in
      let ors = first_few (ors_words o) (Mark s.Close ∷ []) (second_few (ands_words a) (ors_words o ++ Mark s.Close ∷ []) more) in
      let p = pred_for t a o ands ors (unit_for t (first_few (test_words t) (ands_words a ++ (ors_words o ++ Mark s.Close ∷ [])) all)) (units_for a ands) (conjs_for o ors) in
      record { tree = Enclosed (boxed p.tree); same = enclosed_made p.tree ∙ ap enclosed_by p.same }
  unit_for (compare x c y) h = record { tree = Compare x c y; same = compare_made x c y }

  units_for : (a : Ands) → length (ands_words a) ≤ 65536 → Units_for a
  units_for no_more h = record { trees = []; same = refl; few = omega arith }
  units_for (and_also t a) h =
      let all : length (test_words t ++ ands_words a) ≤ 65536 = omega arith in
      let u = unit_for t (first_few (test_words t) (ands_words a) all) in
      let us = units_for a (second_few (test_words t) (ands_words a) all) in
      record {
        trees = u.tree ∷ us.trees;
        same = ap (λ x. and_also x (ands_of (map test_of us.trees))) u.same ∙ ap (and_also t) us.same;
        few = omega (arith, us.few, length-append (test_words t) (ands_words a));
      }

  conjs_for : (o : Ors) → length (ors_words o) ≤ 65536 → Conjs_for o
  conjs_for no_other h = record { trees = []; same = refl; few = omega arith }
  conjs_for (or_else t a o) h =
      let all : length (test_words t ++ (ands_words a ++ ors_words o)) ≤ 65536 = omega arith in
      let more = second_few (test_words t) (ands_words a ++ ors_words o) all in
      let ands = first_few (ands_words a) (ors_words o) more in
      let c = conj_for t a ands (unit_for t (first_few (test_words t) (ands_words a ++ ors_words o) all)) (units_for a ands) in
      let cs = conjs_for o (second_few (ands_words a) (ors_words o) more) in
      record {
        trees = c.0 ∷ cs.trees;
        same = ap (λ (b : Both). or_else b.first b.ands (ors_of (map both_of cs.trees))) c.1 ∙ ap (or_else t a) cs.same;
        few = omega (arith, cs.few, length-append (test_words t) (ands_words a ++ ors_words o), length-append (ands_words a) (ors_words o));
      }

-- ---- the whole

where_for : (o : Option Tests) → length (where_words o) ≤ 65536 → (p : Option Pred) × (option_map tests_of p ≡ o)
where_for None h = (None, refl)
where_for (Some t) h =
    let all : length (test_words t.first ++ (ands_words t.ands ++ ors_words t.ors)) ≤ 65536 = omega arith in
    let more = second_few (test_words t.first) (ands_words t.ands ++ ors_words t.ors) all in
    let ands = first_few (ands_words t.ands) (ors_words t.ors) more in
    let ors = second_few (ands_words t.ands) (ors_words t.ors) more in
    let p = pred_for t.first t.ands t.ors ands ors (unit_for t.first (first_few (test_words t.first) (ands_words t.ands ++ ors_words t.ors) all)) (units_for t.ands ands) (conjs_for t.ors ors) in
    (Some p.tree, ap (λ x. Some x) p.same)

few_where : (q : Query) → length (words q) ≤ 65536 → length (where_words q.predicate) ≤ 65536
few_where q h =
    let e0 = shut_words q.word ++ last_words q.closed in
    let e1 = group_words q.group ++ e0 in
    let e2 = where_words q.predicate ++ e1 in
    let e3 = second_source_words q.second ++ e2 in
    let e4 = source_words q.from ++ e3 in
    let e5 = items_words q.items ++ Word k.From ∷ e4 in
    let e6 = item_words q.item ++ e5 in
    let e7 = opened_words q.word ++ Word k.Select ∷ e6 in
    let e8 = decls_words q.decls ++ e7 in
    let h8 = second_few (decl_words q.decl) e8 h in
    let h7 = second_few (decls_words q.decls) e7 h8 in
    let h6 : length (Word k.Select ∷ e6) ≤ 65536 = second_few (opened_words q.word) (Word k.Select ∷ e6) h7 in
    let h5 = second_few (item_words q.item) e5 (omega (arith, h6)) in
    let h4 : length (Word k.From ∷ e4) ≤ 65536 = second_few (items_words q.items) (Word k.From ∷ e4) h5 in
    let h3 = second_few (source_words q.from) e3 (omega (arith, h4)) in
    first_few (where_words q.predicate) e1 (second_few (second_source_words q.second) e2 h3)

pub select_for : (q : Query) → length (words q) ≤ 65536 → (s : Select) × (query_of s ≡ q)
select_for q h =
    let p = where_for q.predicate (few_where q h) in (
      record { decl = q.decl; decls = q.decls; word = q.word; item = q.item; items = q.items; from = q.from; second = q.second; predicate = p.0; group = q.group; closed = q.closed },
      ap (λ x. record { decl = q.decl; decls = q.decls; word = q.word; item = q.item; items = q.items; from = q.from; second = q.second; predicate = x; group = q.group; closed = q.closed }) p.1,
    )
