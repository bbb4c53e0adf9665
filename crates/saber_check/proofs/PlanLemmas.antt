-- Facts on plans.
use Rattle.std.proofs.Common.{◌≡◌, ℕ, ◌+◌, ◌*◌, ◌≤◌, ◌<◌, List, [], ◌∷◌, ◌++◌, map, drop, get_or, append_assoc, append-nil, length, refl, sym, ap, ◌∙◌, arith}
use Rattle.std.proofs.lemmas.List.{drop_all, map-append}
use Rattle.saber_plan.specs.declared.predicates.Unit.{Unit as Plan_unit}
use Rattle.saber_plan.specs.declared.predicates.Conj.{Conj as Plan_conj}
use Rattle.saber_plan.specs.Trees as t
use Rattle.saber_query.specs.declared.tree.Unit.{Unit as Unit_tree}
use Rattle.saber_query.specs.declared.tree.Conj.{Conj}
use Rattle.saber_query.specs.Trees.{Both, Tests, test_of, both_of, ands_of, ors_of, both_by, tests_by, Query}
use Rattle.saber_check.specs.Plans.{plan_test, plan_both, plan_tests, plan_ands, plan_ors}
use Rattle.saber_check.proofs.Lemmas.{drop_item}
use Rattle.saber_check.specs.Widths.{span, name_width}

pub names_span : (ns : List (List ℕ)) → span name_width ns ≡ 2 * length ns
names_span [] = refl
names_span (n ∷ ns) = omega (arith, names_span ns)

-- a list that grows by what the next item gives
pub grow : {X Y A : Type 0} (f : X → A) (g : Y → A) (xs new : List X) (x : X) (ys : List Y) (k : ℕ) (y : Y) (all : List A) → new ≡ xs ++ x ∷ [] → f x ≡ g y → k < length ys → y ≡ get_or ys k y → map f xs ++ map g (drop k ys) ≡ all → map f new ++ map g (drop (k + 1) ys) ≡ all
grow f g xs new x ys k y all e h l i v =
    let d = drop_item ys k y l i in
    let m : map f new ≡ map f xs ++ f x ∷ [] = ap (map f) e ∙ map-append f xs (x ∷ []) in
    let r : map g (drop k ys) ≡ g y ∷ map g (drop (k + 1) ys) = ap (map g) d in
    grind (arith, append_assoc, m, r, h, v)

pub grown : {X Y A : Type 0} (f : X → A) (g : Y → A) (xs : List X) (ys : List Y) (k : ℕ) (all : List A) → length ys ≤ k → map f xs ++ map g (drop k ys) ≡ all → map f xs ≡ all
grown f g xs ys k all l v =
    let d : drop k ys ≡ [] = drop_all k ys l in
    let r : map g (drop k ys) ≡ [] = ap (map g) d in
    grind (arith, append-nil, r, v)

abbrev pub unit_plan : Query → Unit_tree → t.Test
unit_plan q u = plan_test q (test_of u)

abbrev pub conj_plan : Query → Conj → t.Both
conj_plan q b = plan_both q (both_of b)

pub units_plan : (q : Query) (us : List Unit_tree) → plan_ands q (ands_of (map test_of us)) ≡ t.joined_tests (map (unit_plan q) us)
units_plan q [] = refl
units_plan q (u ∷ us) = ap (λ x. t.both (unit_plan q u) x) (units_plan q us)

pub conjs_plan : (q : Query) (bs : List Conj) → plan_ors q (ors_of (map both_of bs)) ≡ t.chosen_tests (map (conj_plan q) bs)
conjs_plan q [] = refl
conjs_plan q (b ∷ bs) = ap (λ x. t.either (conj_plan q b) x) (conjs_plan q bs)

pub conj_planned : (q : Query) (b : Both) (u : Unit_tree) (more us : List Unit_tree) (made : t.Both) (start list : List Plan_unit) (first : Plan_unit) (j : ℕ) →
    b ≡ both_by (test_of u) (map test_of more) → us ≡ more → t.test_of first ≡ plan_test q (test_of u) → start ≡ first ∷ [] → made ≡ t.joined_tests (map t.test_of list) → length us ≤ j →
    map t.test_of list ++ map (unit_plan q) (drop j us) ≡ map t.test_of start ++ map (unit_plan q) us → made ≡ plan_both q b
conj_planned q b u more us made start list first j s e f n m l v =
    let g = grown t.test_of (unit_plan q) list us j _ l v in
    m ∙ ap t.joined_tests g ∙ ap (λ xs. t.joined_tests (map t.test_of xs ++ map (unit_plan q) us)) n
    ∙ ap (λ x. t.both x (t.joined_tests (map (unit_plan q) us))) f
    ∙ ap (λ xs. t.both (unit_plan q u) (t.joined_tests (map (unit_plan q) xs))) e
    ∙ ap (λ x. t.both (unit_plan q u) x) (sym (units_plan q more))
    ∙ sym (ap (plan_both q) s)

pub pred_planned : (q : Query) (p : Tests) (b : Conj) (more bs : List Conj) (made : t.Tests) (start list : List Plan_conj) (first : Plan_conj) (j : ℕ) →
    p ≡ tests_by (both_of b) (map both_of more) → bs ≡ more → t.both_of first ≡ plan_both q (both_of b) → start ≡ first ∷ [] → made ≡ t.chosen_tests (map t.both_of list) → length bs ≤ j →
    map t.both_of list ++ map (conj_plan q) (drop j bs) ≡ map t.both_of start ++ map (conj_plan q) bs → made ≡ plan_tests q p
pred_planned q p b more bs made start list first j s e f n m l v =
    let g = grown t.both_of (conj_plan q) list bs j _ l v in
    m ∙ ap t.chosen_tests g ∙ ap (λ xs. t.chosen_tests (map t.both_of xs ++ map (conj_plan q) bs)) n
    ∙ ap (λ x. t.either x (t.chosen_tests (map (conj_plan q) bs))) f
    ∙ ap (λ xs. t.either (conj_plan q b) (t.chosen_tests (map (conj_plan q) xs))) e
    ∙ ap (λ x. t.either (conj_plan q b) x) (sym (conjs_plan q more))
    ∙ sym (ap (plan_tests q) s)
