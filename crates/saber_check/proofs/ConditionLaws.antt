-- The predicate of a query without a fault fits.
use Rattle.std.proofs.Common.{◌≡◌, ℕ, ◌+◌, List, [], ◌++◌, Option, Some, None, option_map}
use Rattle.std.specs.Option.{option_map_or}
use Rattle.saber_plan.specs.Checked.{TestFits, AllFit, SomeFit, PredicateFits}
use Rattle.saber_query.specs.Trees.{Query, Test, negated, enclosed, compare, Ands, no_more, and_also, Ors, no_other, or_else, Tests}
use Rattle.saber_check.specs.declared.fault.Fault.{Fault}
use Rattle.saber_check.specs.Widths.{expr_width, test_width, ands_width}
use Rattle.saber_check.specs.Walked.{expr_faults, test_faults, ands_faults, ors_faults, tests_faults, where_faults}
use Rattle.saber_check.specs.Plans.{plan_test, plan_ands, plan_ors, plan_tests}
use Rattle.saber_check.proofs.NoFaults.{before, behind}
use Rattle.saber_check.proofs.ColumnLaws.{AreDeclared}
use Rattle.saber_check.proofs.ItemLaws.{sides, expr_fits}

three : (a b c : List Fault) → a ++ b ++ c ≡ [] → (a ≡ []) × (b ≡ []) × (c ≡ [])
three a b c h = let l = before (a ++ b) c h in (before a b l, behind a b l, behind (a ++ b) c h)

mutual
  unfolding test_faults

  test_fits : (q : Query) (i : ℕ) (t : Test) → AreDeclared q → test_faults q i t ≡ [] → TestFits (sides q) (plan_test q t)
  test_fits q i (negated t) d e = test_fits q (i + 1) t d e
  test_fits q i (enclosed t a o) d e =
      let h = three (test_faults q (i + 1) t) (ands_faults q (i + 1 + test_width t) a) (ors_faults q (i + 1 + test_width t + ands_width a) o) e in
      ((test_fits q (i + 1) t d h.0, ands_fit q (i + 1 + test_width t) a d h.1), ors_fit q (i + 1 + test_width t + ands_width a) o d h.2)
  test_fits q i (compare x c y) d e =
      (expr_fits q i x d (before (expr_faults q i x) (expr_faults q (i + expr_width x + 1) y) e), expr_fits q (i + expr_width x + 1) y d (behind (expr_faults q i x) (expr_faults q (i + expr_width x + 1) y) e))

  ands_fit : (q : Query) (i : ℕ) (a : Ands) → AreDeclared q → ands_faults q i a ≡ [] → AllFit (sides q) (plan_ands q a)
  ands_fit q i no_more d e = tt
  ands_fit q i (and_also t a) d e =
      (test_fits q (i + 1) t d (before (test_faults q (i + 1) t) (ands_faults q (i + 1 + test_width t) a) e), ands_fit q (i + 1 + test_width t) a d (behind (test_faults q (i + 1) t) (ands_faults q (i + 1 + test_width t) a) e))

  ors_fit : (q : Query) (i : ℕ) (o : Ors) → AreDeclared q → ors_faults q i o ≡ [] → SomeFit (sides q) (plan_ors q o)
  ors_fit q i no_other d e = tt
  ors_fit q i (or_else t a o) d e =
      let h = three (test_faults q (i + 1) t) (ands_faults q (i + 1 + test_width t) a) (ors_faults q (i + 1 + test_width t + ands_width a) o) e in
      ((test_fits q (i + 1) t d h.0, ands_fit q (i + 1 + test_width t) a d h.1), ors_fit q (i + 1 + test_width t + ands_width a) o d h.2)

where_fits : (q : Query) (i : ℕ) (o : Option Tests) → AreDeclared q → option_map_or (tests_faults q (i + 1)) o [] ≡ [] → PredicateFits (sides q) (option_map (plan_tests q) o)
where_fits q i None d e = tt
where_fits q i (Some t) d e =
    let h = three (test_faults q (i + 1) t.first) (ands_faults q (i + 1 + test_width t.first) t.ands) (ors_faults q (i + 1 + test_width t.first + ands_width t.ands) t.ors) e in
    ((test_fits q (i + 1) t.first d h.0, ands_fit q (i + 1 + test_width t.first) t.ands d h.1), ors_fit q (i + 1 + test_width t.first + ands_width t.ands) t.ors d h.2)

pub predicate_fits : (q : Query) (i : ℕ) → AreDeclared q → where_faults q i ≡ [] → PredicateFits (sides q) (option_map (plan_tests q) q.predicate)
predicate_fits q i d e = where_fits q i q.predicate d e
