-- Units joined by AND and those joined by OR, one after another.
use Rattle.std.proofs.Common.{◌≡◌, ℕ, suc, ◌+◌, ◌<◌, ◌≤◌, List, [], ◌∷◌, map, length, drop, get_or, Bool, true, false, not, ℤ, ◌&&◌, ◌||◌, Box, rules, refl, ◌∙◌, ap, subst, sym, arith, add-one, drop-cons}
use Rattle.std.proofs.lemmas.List.{drop_all}
use Rattle.std.specs.declared.alloc.Global.{Global}
use Rattle.saber_plan.specs.declared.rows.Side.{Side}
use Rattle.saber_plan.specs.declared.expressions.Expr.{Expr}
use Rattle.saber_plan.specs.declared.predicates.Cmp.{Cmp}
use Rattle.saber_plan.specs.declared.predicates.Pred.{Pred}
use Rattle.saber_plan.specs.declared.predicates.Conj.{Conj}
use Rattle.saber_plan.specs.declared.predicates.Unit.{Unit as Unit_tree, Not, Any, Compare, the_lemmas}
use Rattle.saber_plan.specs.Trees.{Test, negated, one_of, compare, Both, no_more, both, Tests, no_other, either, joined_tests, chosen_tests, test_of, both_of, tests_of}
use Rattle.saber_plan.specs.Values.{value_at, compares, test_holds, all_hold, some_holds}
use Rattle.saber_plan.specs.Checked.{AllFit, SomeFit}

-- how many parts a predicate has; the walk over it ends, since each part has fewer
abbrev mutual
  pub test_size : Test → ℕ
  test_size (negated t) = test_size t + 1
  test_size (one_of ts) = tests_size ts + 1
  test_size (compare x c y) = 0

  pub both_size : Both → ℕ
  both_size no_more = 0
  both_size (both t ts) = test_size t + both_size ts + 1

  pub tests_size : Tests → ℕ
  tests_size no_other = 0
  tests_size (either b bs) = both_size b + tests_size bs + 1

module _ (at : Side → ℕ → ℤ) (columns : Side → ℕ) where
  -- the answer is that of the units that are left
  pub record Left_all (whole : Both) (rest : List Unit_tree) : Type 0 where
    pub same : all_hold at (joined_tests (map test_of rest)) ≡ all_hold at whole
    pub fits : AllFit columns (joined_tests (map test_of rest))
    pub small : both_size (joined_tests (map test_of rest)) ≤ both_size whole

  pub record Left_some (whole : Tests) (rest : List Conj) : Type 0 where
    pub same : some_holds at (chosen_tests (map both_of rest)) ≡ some_holds at whole
    pub fits : SomeFit columns (chosen_tests (map both_of rest))
    pub small : tests_size (chosen_tests (map both_of rest)) ≤ tests_size whole

  head_all : (whole : Both) (u : Unit_tree) (us : List Unit_tree) (i : ℕ) → i < length us → u ≡ get_or us i u → Left_all whole (drop i us) → Left_all whole (u ∷ drop (suc i) us)
  head_all whole u us i h e k = subst (λ x. Left_all whole (x ∷ drop (suc i) us)) (sym e) (subst (Left_all whole) (drop-cons us i u h) k)

  head_some : (whole : Tests) (b : Conj) (bs : List Conj) (i : ℕ) → i < length bs → b ≡ get_or bs i b → Left_some whole (drop i bs) → Left_some whole (b ∷ drop (suc i) bs)
  head_some whole b bs i h e k = subst (λ x. Left_some whole (x ∷ drop (suc i) bs)) (sym e) (subst (Left_some whole) (drop-cons bs i b h) k)

  -- a part that leaves the answer open
  all_cons : (whole : Both) (u : Unit_tree) (us : List Unit_tree) → test_holds at (test_of u) ≡ true → Left_all whole (u ∷ us) → Left_all whole us
  unfolding test_holds
  all_cons whole u us e k = record {
    same = sym (ap (λ b. b && all_hold at (joined_tests (map test_of us))) e) ∙ k.same;
    fits = k.fits.1;
    small = omega (arith, k.small);
  }

  some_cons : (whole : Tests) (b : Conj) (bs : List Conj) → all_hold at (both_of b) ≡ false → Left_some whole (b ∷ bs) → Left_some whole bs
  unfolding test_holds
  some_cons whole b bs e k = record {
    same = sym (ap (λ x. x || some_holds at (chosen_tests (map both_of bs))) e) ∙ k.same;
    fits = k.fits.1;
    small = omega (arith, k.small);
  }

  pub all_more : (whole : Both) (u : Unit_tree) (us : List Unit_tree) (i : ℕ) → i < length us → u ≡ get_or us i u → test_holds at (test_of u) ≡ true → Left_all whole (drop i us) → Left_all whole (drop (i + 1) us)
  all_more whole u us i h e t k = rw add-one (all_cons whole u (drop (suc i) us) t (head_all whole u us i h e k))

  pub some_more : (whole : Tests) (b : Conj) (bs : List Conj) (i : ℕ) → i < length bs → b ≡ get_or bs i b → all_hold at (both_of b) ≡ false → Left_some whole (drop i bs) → Left_some whole (drop (i + 1) bs)
  some_more whole b bs i h e t k = rw add-one (some_cons whole b (drop (suc i) bs) t (head_some whole b bs i h e k))

  -- one that settles it
  false_cons : (whole : Both) (u : Unit_tree) (us : List Unit_tree) → test_holds at (test_of u) ≡ false → Left_all whole (u ∷ us) → false ≡ all_hold at whole
  unfolding test_holds
  false_cons whole u us e k = sym (ap (λ b. b && all_hold at (joined_tests (map test_of us))) e) ∙ k.same

  true_cons : (whole : Tests) (b : Conj) (bs : List Conj) → all_hold at (both_of b) ≡ true → Left_some whole (b ∷ bs) → true ≡ some_holds at whole
  unfolding test_holds
  true_cons whole b bs e k = sym (ap (λ x. x || some_holds at (chosen_tests (map both_of bs))) e) ∙ k.same

  pub all_false : (whole : Both) (u : Unit_tree) (us : List Unit_tree) (i : ℕ) → i < length us → u ≡ get_or us i u → test_holds at (test_of u) ≡ false → Left_all whole (drop i us) → false ≡ all_hold at whole
  all_false whole u us i h e t k = false_cons whole u (drop (suc i) us) t (head_all whole u us i h e k)

  pub some_true : (whole : Tests) (b : Conj) (bs : List Conj) (i : ℕ) → i < length bs → b ≡ get_or bs i b → all_hold at (both_of b) ≡ true → Left_some whole (drop i bs) → true ≡ some_holds at whole
  some_true whole b bs i h e t k = true_cons whole b (drop (suc i) bs) t (head_some whole b bs i h e k)

  -- none is left
  true_nil : (whole : Both) → Left_all whole [] → true ≡ all_hold at whole
  unfolding test_holds
  true_nil whole k = k.same

  false_nil : (whole : Tests) → Left_some whole [] → false ≡ some_holds at whole
  unfolding test_holds
  false_nil whole k = k.same

  pub all_true : (whole : Both) (us : List Unit_tree) (i : ℕ) → length us ≤ i → Left_all whole (drop i us) → true ≡ all_hold at whole
  all_true whole us i h k = true_nil whole (subst (Left_all whole) (drop_all i us h) k)

  pub some_false : (whole : Tests) (bs : List Conj) (i : ℕ) → length bs ≤ i → Left_some whole (drop i bs) → false ≡ some_holds at whole
  some_false whole bs i h k = false_nil whole (subst (Left_some whole) (drop_all i bs h) k)

  -- ---- one unit alone

  alone : (b : Bool) → b ≡ ((b && true) || false)
  alone true = refl
  alone false = refl

  pub alone_holds : (ts : Tests) (t : Test) (r : Bool) → ts ≡ either (both t no_more) no_other → r ≡ test_holds at t → r ≡ some_holds at ts
  unfolding test_holds
  alone_holds ts t r e h = h ∙ alone (test_holds at t) ∙ sym (ap (some_holds at) e)

-- ---- what a unit's tree is

not_shape : (b : Box Unit_tree Global) → test_of (Not b) ≡ negated (test_of b.value)
not_shape b = search (rules, the_lemmas)

any_shape : (p : Pred) → test_of (Any p) ≡ one_of (tests_of p)
any_shape p = search (rules, the_lemmas)

compare_shape : (x : Expr) (c : Cmp) (y : Expr) → test_of (Compare x c y) ≡ compare x c y
compare_shape x c y = search (rules, the_lemmas)

module _ (at : Side → ℕ → ℤ) (u : Unit_tree) where
  pub not_holds : (b : Box Unit_tree Global) (r : Bool) → u ≡ Not b → r ≡ test_holds at (test_of b.value) → not r ≡ test_holds at (test_of u)
  unfolding test_holds
  not_holds b r e h = ap not h ∙ sym (ap (test_holds at) (ap test_of e ∙ not_shape b))

  pub any_holds : (p : Pred) (r : Bool) → u ≡ Any p → r ≡ some_holds at (tests_of p) → r ≡ test_holds at (test_of u)
  unfolding test_holds
  any_holds p r e h = h ∙ sym (ap (test_holds at) (ap test_of e ∙ any_shape p))

  pub compare_holds : (x : Expr) (c : Cmp) (y : Expr) (r : Bool) → u ≡ Compare x c y → r ≡ compares c (value_at at x) (value_at at y) → r ≡ test_holds at (test_of u)
  unfolding test_holds
  compare_holds x c y r e h = h ∙ sym (ap (test_holds at) (ap test_of e ∙ compare_shape x c y))
