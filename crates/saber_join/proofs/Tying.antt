-- What WHERE ties: rows of a pair that passes have one key.
use Rattle.std.proofs.Common.{◌≡◌, ℕ, zero, suc, ◌+◌, ◌<◌, ◌≤◌, List, [], ◌∷◌, length, drop, get_or, map, fold, Bool, true, false, ◌&&◌, ◌||◌, ℤ, ◌*ℤ◌, ◌+ℤ◌, pos, Option, Some, None, IfSome, int_le, refl, sym, ◌∙◌, ap, subst, arith, rules}
use Rattle.std.specs.List.{AllByRecursion}
use Rattle.std.proofs.lemmas.Bool.{and_parts}
use Rattle.std.proofs.lemmas.List.{drop_more, drop_all, length-map, get_or-map}
use Rattle.std.proofs.lemmas.Int.{ints}
use Rattle.std.proofs.Math.IntN.{+ℤ_idl, suc_ℤ-*ℤ, zero-*ℤ}
use Rattle.saber_plan.specs.declared.rows.Side.{Side}
use Rattle.saber_plan.specs.declared.rows.Side.TheVariants.{Left, Right}
use Rattle.saber_plan.specs.declared.rows.Row.{Row}
use Rattle.saber_plan.specs.declared.expressions.Factor.{Factor}
use Rattle.saber_plan.specs.declared.expressions.Factor.TheVariants.{Column, Constant}
use Rattle.saber_plan.specs.declared.expressions.Product.{Product}
use Rattle.saber_plan.specs.declared.predicates.Cmp.TheVariants.{Equal}
use Rattle.saber_plan.specs.declared.expressions.Expr.{Expr}
use Rattle.saber_plan.specs.declared.predicates.Cmp.{Cmp}
use Rattle.saber_plan.specs.declared.predicates.Conj.{Conj}
use Rattle.saber_plan.specs.declared.predicates.Unit.{Unit as Unit_tree, Compare, the_lemmas}
use Rattle.saber_plan.specs.Trees.{Tree, Test, compare, Both, Tests, no_other, either, joined_tests, chosen_tests, test_of, both_of}
use Rattle.saber_plan.specs.Values.{value, value_at, column_of, factor_value, product_value, signed_value, test_holds, all_hold, passes}
use Rattle.saber_plan.specs.Checked.{HasColumn, ExprFits, TestFits, AllFit, PredicateFits, columns_on}
use Rattle.saber_plan.specs.GivenRows.{IsRowOf}
use Rattle.saber_eval.specs.Widths.{widths}
use Rattle.saber_plan.specs.Windows.{by_side}
use Rattle.saber_join.specs.Ties.{Ends, IsColumn, IsOf, Over, Ties, TiesTest, TiesAll, TiesPairs, CanTie, narrow, key_in}

-- ---- an expression over one side is worth the same whatever the other side has

left_factor : (xs ys zs : List ℤ) (f : Factor) → IsOf Left f → factor_value (column_of xs ys) f ≡ factor_value (column_of xs zs) f
left_factor xs ys zs (Column s k) e = ap (λ t. column_of xs ys t k) e ∙ sym (ap (λ t. column_of xs zs t k) e)
left_factor xs ys zs (Constant z) e = refl

right_factor : (xs ys zs : List ℤ) (f : Factor) → IsOf Right f → factor_value (column_of xs zs) f ≡ factor_value (column_of ys zs) f
right_factor xs ys zs (Column s k) e = ap (λ t. column_of xs zs t k) e ∙ sym (ap (λ t. column_of ys zs t k) e)
right_factor xs ys zs (Constant z) e = refl

module _ (s : Side) (at to : Side → ℕ → ℤ) (same : (f : Factor) → IsOf s f → factor_value at f ≡ factor_value to f) where
  same_factors : (z : ℤ) (fs : List Factor) → AllByRecursion (IsOf s) fs → fold (λ z f. z *ℤ factor_value at f) z fs ≡ fold (λ z f. z *ℤ factor_value to f) z fs
  same_factors z [] h = refl
  same_factors z (f ∷ fs) h = ap (λ v. fold (λ z f. z *ℤ factor_value at f) (z *ℤ v) fs) (same f h.0) ∙ same_factors (z *ℤ factor_value to f) fs h.1

  same_products : (z : ℤ) (ps : List Product) → Over s ps → fold (λ z p. z +ℤ product_value at p) z ps ≡ fold (λ z p. z +ℤ product_value to p) z ps
  same_products z [] h = refl
  same_products z (p ∷ ps) h = ap (λ v. fold (λ z p. z +ℤ product_value at p) (z +ℤ signed_value p.minus v) ps) (same_factors (pos 1) p.factors h.0) ∙ same_products (z +ℤ product_value to p) ps h.1

  same_value : (ps : List Product) → Over s ps → value_at at ps ≡ value_at to ps
  unfolding value_at
  same_value ps h = same_products (pos 0) ps h

pub keys_meet : (e : Ends) (p : Option Tests) → TiesPairs p e → (xs ys : List ℤ) → passes p xs ys ≡ true → value e.left xs xs ≡ value e.right ys ys
keys_meet e p t xs ys h =
    same_value Left (column_of xs xs) (column_of xs ys) (left_factor xs xs ys) e.left t.left
    ∙ t.equal xs ys h
    ∙ same_value Right (column_of xs ys) (column_of ys ys) (right_factor xs ys ys) e.right t.right

pub one_key : (p : Option Tests) (o : Option Ends) → CanTie p o → (x y : Row) → x.side ≡ Left → y.side ≡ Right → passes p x.values y.values ≡ true → key_in o x ≡ key_in o y
one_key p None t x y a b h = refl
one_key p (Some e) t x y a b h =
    ap (λ s. narrow (by_side s (value e.left x.values x.values) (value e.right x.values x.values))) a
    ∙ ap narrow (keys_meet e p t x.values y.values h)
    ∙ sym (ap (λ s. narrow (by_side s (value e.left y.values y.values) (value e.right y.values y.values))) b)

-- ---- the value of a column alone

once : (z : ℤ) → pos 1 *ℤ z ≡ z
once z = suc_ℤ-*ℤ (pos 0) z ∙ ap (λ y. y +ℤ z) (zero-*ℤ z) ∙ +ℤ_idl z

column_alone : (s : Side) (k : ℕ) (xs : List ℤ) → value (record { minus = false; factors = Column s k ∷ [] } ∷ []) xs xs ≡ get_or xs k (pos 0)
unfolding value_at
column_alone Left k xs = +ℤ_idl (pos 1 *ℤ get_or xs k (pos 0)) ∙ once (get_or xs k (pos 0))
column_alone Right k xs = +ℤ_idl (pos 1 *ℤ get_or xs k (pos 0)) ∙ once (get_or xs k (pos 0))

pub column_value : (k : ℕ) (ps : List Product) (xs : List ℤ) → IsColumn k ps → value ps xs xs ≡ get_or xs k (pos 0)
column_value k ps xs (s, e) = ap (λ l. value l xs xs) e ∙ column_alone s k xs

-- ---- all of what is left gives all

pub all_more : {A : Type 0} (P : A → Type 0) (xs : List A) (i : ℕ) (d : A) → i < length xs → P (get_or xs i d) → (AllByRecursion P (drop i xs) → AllByRecursion P xs) → AllByRecursion P (drop (i + 1) xs) → AllByRecursion P xs
all_more P xs i d l h k r = k (subst (AllByRecursion P) (sym (drop_more xs i d l)) (h, r))

pub all_done : {A : Type 0} (P : A → Type 0) (xs : List A) (i : ℕ) → length xs ≤ i → (AllByRecursion P (drop i xs) → AllByRecursion P xs) → AllByRecursion P xs
all_done P xs i l k = k (subst (AllByRecursion P) (sym (drop_all i xs l)) tt)

-- ---- what an equality ties

int_same : (a b : ℤ) → (int_le a b && int_le b a) ≡ true → a ≡ b
int_same a b h = let p = and_parts (int_le a b) (int_le b a) h in grind (arith, ints, p)

pub ties_by : (x y : List Product) → Over Left x → Over Right y → TiesTest (compare x Equal y) (record { left = x; right = y })
unfolding test_holds
ties_by x y l r = record {
  left = l;
  right = r;
  equal = λ xs ys h. int_same (value x xs ys) (value y xs ys) h;
  left_fits = λ columns h. h.0;
  right_fits = λ columns h. h.1;
}

pub ties_back : (x y : List Product) → Over Left y → Over Right x → TiesTest (compare x Equal y) (record { left = y; right = x })
unfolding test_holds
ties_back x y l r = record {
  left = l;
  right = r;
  equal = λ xs ys h. sym (int_same (value x xs ys) (value y xs ys) h);
  left_fits = λ columns h. h.1;
  right_fits = λ columns h. h.0;
}

-- ---- units joined by AND, and WHERE where it is one list of them

fewer : {Holds More : List ℤ → List ℤ → Type 0} {Fits All : (Side → ℕ) → Type 0} (e : Ends) → ((xs ys : List ℤ) → More xs ys → Holds xs ys) → ((columns : Side → ℕ) → All columns → Fits columns) → Ties Holds Fits e → Ties More All e
fewer e h f t = record {
  left = t.left;
  right = t.right;
  equal = λ xs ys m. t.equal xs ys (h xs ys m);
  left_fits = λ columns a. t.left_fits columns (f columns a);
  right_fits = λ columns a. t.right_fits columns (f columns a);
}

hold_at : (at : Side → ℕ → ℤ) (ts : List Test) (i : ℕ) (d : Test) → i < length ts → all_hold at (joined_tests ts) ≡ true → test_holds at (get_or ts i d) ≡ true
unfolding test_holds
hold_at at [] i d l h = absurd (omega arith)
hold_at at (t ∷ ts) zero d l h = (and_parts (test_holds at t) (all_hold at (joined_tests ts)) h).0
hold_at at (t ∷ ts) (suc i) d l h = hold_at at ts i d (omega arith) (and_parts (test_holds at t) (all_hold at (joined_tests ts)) h).1

fit_at : (columns : Side → ℕ) (ts : List Test) (i : ℕ) (d : Test) → i < length ts → AllFit columns (joined_tests ts) → TestFits columns (get_or ts i d)
fit_at columns [] i d l h = absurd (omega arith)
fit_at columns (t ∷ ts) zero d l h = h.0
fit_at columns (t ∷ ts) (suc i) d l h = fit_at columns ts i d (omega arith) h.1

pub ties_among : (us : List Unit_tree) (i : ℕ) (u : Unit_tree) (e : Ends) → i < length us → u ≡ get_or us i u → TiesTest (test_of u) e → TiesAll (joined_tests (map test_of us)) e
ties_among us i u e l same t =
    let there : i < length (map test_of us) = subst (λ n. i < n) (sym (length-map us test_of)) l in
    let it : get_or (map test_of us) i (test_of u) ≡ test_of u = get_or-map test_of us i u (test_of u) l ∙ ap test_of (sym same) in
    fewer e
    (λ xs ys h. subst (λ x. test_holds (column_of xs ys) x ≡ true) it (hold_at (column_of xs ys) (map test_of us) i (test_of u) there h))
    (λ columns h. subst (TestFits columns) it (fit_at columns (map test_of us) i (test_of u) there h))
    t

or_none : (b : Bool) → (b || false) ≡ true → b ≡ true
or_none true h = refl
or_none false h = h

pub ties_where : (b : Both) (e : Ends) → TiesAll b e → TiesPairs (Some (either b no_other)) e
unfolding test_holds
ties_where b e t = fewer e (λ xs ys h. or_none (all_hold (column_of xs ys) b) h) (λ columns h. h.0) t

pub compare_shape : (x : Expr) (c : Cmp) (y : Expr) → test_of (Compare x c y) ≡ compare x c y
compare_shape x c y = search (rules, the_lemmas)

pub where_one : (cs : List Conj) (b : Conj) → length cs ≡ 1 → b ≡ get_or cs 0 b → chosen_tests (map both_of cs) ≡ either (both_of b) no_other
where_one [] b l e = absurd (omega (arith, l))
where_one (c ∷ []) b l e = ap (λ x. either (both_of x) no_other) (sym e)
where_one (c ∷ d ∷ cs) b l e = absurd (omega (arith, l))

pub where_some : (o : Option Ends) (b : Both) → IfSome o (λ e. TiesAll b e) → IfSome o (λ e. TiesPairs (Some (either b no_other)) e)
where_some None b h = tt
where_some (Some e) b h = ties_where b e h

-- ---- a row's own expression fits it

factor_fits : (s : Side) (columns to : Side → ℕ) (f : Factor) → IsOf s f → columns s ≡ to s → HasColumn columns f → HasColumn to f
factor_fits s columns to (Column t k) o e h = subst (λ (n : ℕ). k < n) (ap columns o ∙ e ∙ sym (ap to o)) h
factor_fits s columns to (Constant z) o e h = tt

factors_fit : (s : Side) (columns to : Side → ℕ) (fs : List Factor) → AllByRecursion (IsOf s) fs → columns s ≡ to s → AllByRecursion (HasColumn columns) fs → AllByRecursion (HasColumn to) fs
factors_fit s columns to [] o e h = tt
factors_fit s columns to (f ∷ fs) o e h = (factor_fits s columns to f o.0 e h.0, factors_fit s columns to fs o.1 e h.1)

products_fit : (s : Side) (columns to : Side → ℕ) (ps : List Product) → Over s ps → columns s ≡ to s → AllByRecursion (λ (p : Product). AllByRecursion (HasColumn columns) p.factors) ps → AllByRecursion (λ (p : Product). AllByRecursion (HasColumn to) p.factors) ps
products_fit s columns to [] o e h = tt
products_fit s columns to (p ∷ ps) o e h = (factors_fit s columns to p.factors o.0 e h.0, products_fit s columns to ps o.1 e h.1)

own_width : (s : Side) (zs : List ℤ) → length zs ≡ widths zs zs s
own_width Left zs = refl
own_width Right zs = refl

own_fits : (q : Tree) (s : Side) (ps : List Product) → Over s ps → ExprFits (columns_on q.streams) ps → (r : Row) → IsRowOf q r → r.side ≡ s → ExprFits (widths r.values r.values) ps
own_fits q s ps o f r row e = record {
  there = products_fit s (columns_on q.streams) (widths r.values r.values) ps o (sym (row.fits.count ∙ ap (columns_on q.streams) e) ∙ own_width s r.values) f.there;
  small = f.small;
}

pub left_key_fits : (q : Tree) → PredicateFits (columns_on q.streams) q.predicate → (o : Option Ends) (e : Ends) → CanTie q.predicate o → o ≡ Some e → (r : Row) → IsRowOf q r → r.side ≡ Left → ExprFits (widths r.values r.values) e.left
left_key_fits q fit o e tie is r row side = let t : TiesPairs q.predicate e = subst (CanTie q.predicate) is tie in own_fits q Left e.left t.left (t.left_fits (columns_on q.streams) fit) r row side

pub right_key_fits : (q : Tree) → PredicateFits (columns_on q.streams) q.predicate → (o : Option Ends) (e : Ends) → CanTie q.predicate o → o ≡ Some e → (r : Row) → IsRowOf q r → r.side ≡ Right → ExprFits (widths r.values r.values) e.right
right_key_fits q fit o e tie is r row side = let t : TiesPairs q.predicate e = subst (CanTie q.predicate) is tie in own_fits q Right e.right t.right (t.right_fits (columns_on q.streams) fit) r row side
