-- The code of predicates' trees, so that a type may have one in its value: a list of what builds them, from the inside out.
use Rattle.std.specs.Prelude.{◌≡◌, ℕ, zero, suc, List, [], ◌∷◌, refl}
use Rattle.std.specs.Coded.{Coded, code_by, coded_list}
use Rattle.std.proofs.Common.{◌∙◌, ap}
use Rattle.saber_plan.specs.declared.expressions.Product.{Product}
use Rattle.saber_plan.specs.declared.predicates.Cmp.{Cmp}
use Rattle.saber_plan.specs.declared.predicates.Cmp.TheVariants.{Equal}
use Rattle.saber_plan.specs.Trees.{Test, negated, one_of, compare, Both, no_more, both, Tests, no_other, either}

-- what builds, and of what it compares
abbrev pub Token : Type 0
Token = ℕ × List Product × Cmp × List Product

abbrev pub bare : ℕ → Token
bare n = (n, [], Equal, [])

abbrev mutual
  pub test_tokens : Test → List Token → List Token
  test_tokens (negated t) k = test_tokens t (bare 0 ∷ k)
  test_tokens (one_of ts) k = some_tokens ts (bare 1 ∷ k)
  test_tokens (compare x c y) k = (2, x, c, y) ∷ k

  pub all_tokens : Both → List Token → List Token
  all_tokens no_more k = bare 3 ∷ k
  all_tokens (both t ts) k = test_tokens t (all_tokens ts (bare 4 ∷ k))

  pub some_tokens : Tests → List Token → List Token
  some_tokens no_other k = bare 5 ∷ k
  some_tokens (either b bs) k = all_tokens b (some_tokens bs (bare 6 ∷ k))

-- what is built so far
pub data Built : Type 0 where
  unit : Test → Built
  joined : Both → Built
  chosen : Tests → Built

abbrev pub built : ℕ → List Product → Cmp → List Product → List Built → List Built
built zero x c y (unit t ∷ s) = unit (negated t) ∷ s
built (suc zero) x c y (chosen ts ∷ s) = unit (one_of ts) ∷ s
built (suc (suc zero)) x c y s = unit (compare x c y) ∷ s
built (suc (suc (suc zero))) x c y s = joined no_more ∷ s
built (suc (suc (suc (suc zero)))) x c y (joined ts ∷ unit t ∷ s) = joined (both t ts) ∷ s
built (suc (suc (suc (suc (suc zero))))) x c y s = chosen no_other ∷ s
built (suc (suc (suc (suc (suc (suc zero)))))) x c y (chosen bs ∷ joined b ∷ s) = chosen (either b bs) ∷ s
built _ x c y s = s

abbrev pub build : List Token → List Built → List Built
build [] s = s
build (k ∷ ks) s = build ks (built k.0 k.1 k.2 k.3 s)

abbrev pub tests_in : List Built → Tests
tests_in (chosen ts ∷ s) = ts
tests_in _ = no_other

mutual
  pub test_back : (t : Test) (k : List Token) (s : List Built) → build (test_tokens t k) s ≡ build k (unit t ∷ s)
  test_back (negated t) k s = test_back t (bare 0 ∷ k) s
  test_back (one_of ts) k s = some_back ts (bare 1 ∷ k) s
  test_back (compare x c y) k s = refl

  pub all_back : (b : Both) (k : List Token) (s : List Built) → build (all_tokens b k) s ≡ build k (joined b ∷ s)
  all_back no_more k s = refl
  all_back (both t ts) k s = test_back t (all_tokens ts (bare 4 ∷ k)) s ∙ all_back ts (bare 4 ∷ k) (unit t ∷ s)

  pub some_back : (ts : Tests) (k : List Token) (s : List Built) → build (some_tokens ts k) s ≡ build k (chosen ts ∷ s)
  some_back no_other k s = refl
  some_back (either b bs) k s = all_back b (some_tokens bs (bare 6 ∷ k)) s ∙ some_back bs (bare 6 ∷ k) (joined b ∷ s)

abbrev pub coded_tests : Coded Token → Coded Tests
coded_tests token = code_by (List Token) (coded_list token) (λ ts. some_tokens ts []) (λ ks. tests_in (build ks [])) (λ ts. ap tests_in (some_back ts [] []))
