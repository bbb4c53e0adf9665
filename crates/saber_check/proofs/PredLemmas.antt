-- Predicates as parts that stand one after the other.
use Rattle.std.proofs.Common.{◌≡◌, ℕ, ◌+◌, List, [], ◌∷◌, ◌++◌, map, length, ◌≤◌, refl, sym, ◌∙◌, append_assoc, ap, arith, subst, ◌^◌}
use Rattle.saber_query.specs.declared.tree.Unit.{Unit as Unit_tree}
use Rattle.saber_query.specs.declared.tree.Conj.{Conj}
use Rattle.saber_check.specs.declared.fault.Fault.{Fault}
use Rattle.saber_query.specs.Trees.{Test, negated, Tests, Both, test_of, both_of, ands_of, ors_of, enclosed_by, both_by, tests_by, Query}
use Rattle.saber_check.specs.Widths.{test_width, both_width, tests_width, ands_width, ors_width, span}
use Rattle.saber_check.specs.declared.walk.Walk.{Walk}
use Rattle.saber_check.specs.Least.{each, least, earlier, Visits}
use Rattle.saber_check.proofs.Lemmas.{Going, going_done, walking}
use Rattle.saber_check.specs.Walked.{test_faults, both_faults, tests_faults, ands_faults, ors_faults}

abbrev pub unit_width : Unit_tree → ℕ
unit_width u = test_width (test_of u)

abbrev pub unit_faults : Query → ℕ → ℕ → Unit_tree → List Fault
unit_faults q k i u = test_faults q i (test_of u)

abbrev pub conj_width : Conj → ℕ
conj_width b = both_width (both_of b)

abbrev pub conj_faults : Query → ℕ → ℕ → Conj → List Fault
conj_faults q k i b = both_faults q i (both_of b)

pub units_width : (us : List Unit_tree) → ands_width (ands_of (map test_of us)) ≡ span unit_width us
units_width [] = refl
units_width (u ∷ us) = omega (arith, units_width us)

pub conjs_width : (bs : List Conj) → ors_width (ors_of (map both_of bs)) ≡ span conj_width bs
conjs_width [] = refl
conjs_width (b ∷ bs) = omega (arith, conjs_width bs)

pub units_faults : (q : Query) (k i : ℕ) (us : List Unit_tree) → ands_faults q i (ands_of (map test_of us)) ≡ each unit_width (unit_faults q) k (i + 1) us
unfolding each ands_faults
units_faults q k i [] = refl
units_faults q k i (u ∷ us) = ap (λ ys. test_faults q (i + 1) (test_of u) ++ ys) (units_faults q (k + 1) (i + 1 + unit_width u) us)

pub conjs_faults : (q : Query) (k i : ℕ) (bs : List Conj) → ors_faults q i (ors_of (map both_of bs)) ≡ each conj_width (conj_faults q) k (i + 1) bs
unfolding each ors_faults
conjs_faults q k i [] = refl
conjs_faults q k i (b ∷ bs) =
    let e : i + 1 + test_width (both_of b).first + ands_width (both_of b).ands + 1 ≡ i + 1 + conj_width b + 1 = omega arith in
    let h = conjs_faults q (k + 1) (i + 1 + test_width (both_of b).first + ands_width (both_of b).ands) bs in
    grind (arith, append_assoc, e, h)

-- the units behind the first
pub units_visited : (q : Query) (us : List Unit_tree) (j : ℕ) (old new : Walk) → length us ≤ j → Going unit_width (unit_faults q) 1 us j old new → Visits old new (ands_width (ands_of (map test_of us))) (ands_faults q old.index (ands_of (map test_of us)))
units_visited q us j old new h g =
    let v = going_done unit_width (unit_faults q) 1 us j old new h g in
    record { place = omega (arith, v.place, units_width us); least = v.least ∙ ap (λ xs. earlier old.least (least xs)) (sym (units_faults q 1 old.index us)) }

pub conjs_visited : (q : Query) (bs : List Conj) (j : ℕ) (old new : Walk) → length bs ≤ j → Going conj_width (conj_faults q) 1 bs j old new → Visits old new (ors_width (ors_of (map both_of bs))) (ors_faults q old.index (ors_of (map both_of bs)))
conjs_visited q bs j old new h g =
    let v = going_done conj_width (conj_faults q) 1 bs j old new h g in
    record { place = omega (arith, v.place, conjs_width bs); least = v.least ∙ ap (λ xs. earlier old.least (least xs)) (sym (conjs_faults q 1 old.index bs)) }

pub not_visited : (q : Query) (u t : Test) (old mid new : Walk) → u ≡ negated t → Visits old mid 1 [] → Visits mid new (test_width t) (test_faults q mid.index t) → Visits old new (test_width u) (test_faults q old.index u)
unfolding test_faults
not_visited q u t old mid new e v w =
    let h : Visits old new (test_width (negated t)) (test_faults q (old.index + 1) t) = record { place = omega (arith, v.place, w.place); least = grind (arith, walking, v.place, v.least, w.least) } in
    subst (λ (x : Test). Visits old new (test_width x) (test_faults q old.index x)) (sym e) h

pub enclosed_visited : (q : Query) (u : Test) (t : Tests) (old mid next new : Walk) → u ≡ enclosed_by t → Visits old mid 1 [] → Visits mid next (tests_width t) (tests_faults q mid.index t) → Visits next new 1 [] → Visits old new (test_width u) (test_faults q old.index u)
unfolding test_faults
enclosed_visited q u t old mid next new e v w x =
    let h : Visits old new (test_width (enclosed_by t)) (tests_faults q (old.index + 1) t) = record { place = omega (arith, v.place, w.place, x.place); least = grind (arith, walking, v.place, v.least, w.least, x.least) } in
    subst (λ (x : Test). Visits old new (test_width x) (test_faults q old.index x)) (sym e) h

-- a first unit and a loop over the units behind it
pub conj_visited : (q : Query) (b : Both) (t : Test) (us vs : List Unit_tree) (j : ℕ) (old mid new : Walk) → b ≡ both_by t (map test_of us) → vs ≡ us → Visits old mid (test_width t) (test_faults q old.index t) → length vs ≤ j → Going unit_width (unit_faults q) 1 vs j mid new → Visits old new (both_width b) (both_faults q old.index b)
conj_visited q b t us vs j old mid new e f v h g =
    let w = units_visited q vs j mid new h g in
    let a : List Test = map test_of us in
    let y : Visits mid new (ands_width (ands_of a)) (ands_faults q mid.index (ands_of a)) = subst (λ (zs : List Unit_tree). Visits mid new (ands_width (ands_of (map test_of zs))) (ands_faults q mid.index (ands_of (map test_of zs)))) f w in
    let z : Visits old new (both_width (both_by t a)) (both_faults q old.index (both_by t a)) = record { place = omega (arith, v.place, y.place); least = grind (arith, walking, v.place, v.least, y.least) } in
    subst (λ (x : Both). Visits old new (both_width x) (both_faults q old.index x)) (sym e) z

pub pred_visited : (q : Query) (p : Tests) (b : Both) (us vs : List Conj) (j : ℕ) (old mid new : Walk) → p ≡ tests_by b (map both_of us) → vs ≡ us → Visits old mid (both_width b) (both_faults q old.index b) → length vs ≤ j → Going conj_width (conj_faults q) 1 vs j mid new → Visits old new (tests_width p) (tests_faults q old.index p)
pred_visited q p b us vs j old mid new e f v h g =
    let w = conjs_visited q vs j mid new h g in
    let a : List Both = map both_of us in
    let y : Visits mid new (ors_width (ors_of a)) (ors_faults q mid.index (ors_of a)) = subst (λ (zs : List Conj). Visits mid new (ors_width (ors_of (map both_of zs))) (ors_faults q mid.index (ors_of (map both_of zs)))) f w in
    let k : old.index + both_width b ≡ old.index + test_width b.first + ands_width b.ands = omega arith in
    let z : Visits old new (tests_width (tests_by b a)) (tests_faults q old.index (tests_by b a)) = record { place = omega (arith, v.place, y.place); least = grind (arith, walking, append_assoc, v.place, v.least, y.least, k) } in
    subst (λ (x : Tests). Visits old new (tests_width x) (tests_faults q old.index x)) (sym e) z

-- room for the parts behind the first
pub conj_room : (b : Both) (t : Test) (us vs : List Unit_tree) (old mid : Walk) (xs : List Fault) → b ≡ both_by t (map test_of us) → vs ≡ us → old.index + both_width b ≤ 2 ^ 60 → Visits old mid (test_width t) xs → mid.index + span unit_width vs ≤ 2 ^ 60
conj_room b t us vs old mid xs e f r v = omega (arith, ap both_width e, units_width us, ap (span unit_width) f, v.place)

pub pred_room : (p : Tests) (b : Both) (us vs : List Conj) (old mid : Walk) (xs : List Fault) → p ≡ tests_by b (map both_of us) → vs ≡ us → old.index + tests_width p ≤ 2 ^ 60 → Visits old mid (both_width b) xs → mid.index + span conj_width vs ≤ 2 ^ 60
pred_room p b us vs old mid xs e f r v = omega (arith, ap tests_width e, conjs_width us, ap (span conj_width) f, v.place)
