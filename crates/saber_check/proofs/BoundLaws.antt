-- No row makes an expression without a fault overflow.
use Rattle.std.proofs.Common.{◌≡◌, ℕ, suc, zero, ◌+◌, ◌-◌, ◌*◌, ◌^◌, ◌≤◌, min, List, [], ◌∷◌, map, Bool, true, false, Option, Some, None, if◌then◌else◌, nat_lt, pos, neg_ℤ, nat_abs, refl, sym, ap, ◌∙◌, arith, mul_comm}
use Rattle.std.specs.Prelude.{option_and_then}
use Rattle.std.specs.Option.{option_map_or}
use Rattle.std.proofs.Math.Nat.{mul-le-mul_left}
use Rattle.std.proofs.lemmas.Bool.Decides.{nat_tests}
use Rattle.saber_plan.specs.declared.expressions.Product.{Product}
use Rattle.saber_plan.specs.Bounds as plan
use Rattle.saber_query.specs.declared.tree.Factor.{Factor}
use Rattle.saber_query.specs.declared.tree.Factor.TheVariants as f
use Rattle.saber_query.specs.declared.tree.Prod.{Prod}
use Rattle.saber_query.specs.declared.tree.Term.{Term}
use Rattle.saber_query.specs.declared.tree.Expr.{Expr}
use Rattle.saber_query.specs.Trees.{Query}
use Rattle.saber_check.specs.declared.fault.Fault.{Fault}
use Rattle.saber_check.specs.Least.{each}
use Rattle.saber_check.specs.Widths.{factor_width, prod_width}
use Rattle.saber_check.specs.Bounds.{factor_bound, within, factors, products}
use Rattle.saber_check.specs.Walked.{running_product, product_bound, too_wide, product_faults, sum_faults, running_sum, expr_bound, prods, factor_faults, prod_faults, expr_faults}
use Rattle.saber_check.specs.Plans.{plan_factor, plan_term, plan_expr}
use Rattle.saber_check.proofs.NoFaults.{before, behind, first_part, other_parts}

-- ---- factors

abs_neg : (n : ℕ) → nat_abs (neg_ℤ (pos n)) ≡ n
abs_neg zero = refl
abs_neg (suc n) = refl

-- a number is cut in the plan, if at all
no_greater : (q : Query) (x : Factor) → plan.factor_bound (plan_factor q x) ≤ factor_bound x
no_greater q (f.Column c) = omega arith
no_greater q (f.Number n) = cut n (2 ^ 63 - 1)
  where
    cut : (m n : ℕ) → min m n ≤ m
    cut m n = omega arith
no_greater q (f.Negative n) = cut n (2 ^ 63)
  where
    cut : (m n : ℕ) → nat_abs (neg_ℤ (pos (min m n))) ≤ m
    cut m n = omega (arith, abs_neg (min m n))

times : (a b c d : ℕ) → a ≤ b → c ≤ d → a * c ≤ b * d
times a b c d h k =
    let l : a * c ≤ a * d = mul-le-mul_left a k in
    let r : d * a ≤ d * b = mul-le-mul_left d h in
    omega (arith, l, r, mul_comm a d, mul_comm b d)

at_most : (m n : ℕ) → nat_lt m n ≡ false → n ≤ m
at_most m n e = grind (arith, nat_tests)

-- a bound that passes is the number itself, and small
passing : (n x : ℕ) → within n ≡ Some x → (n ≡ x) × (n ≤ 2 ^ 126)
passing n x e = elim (nat_lt (2 ^ 126) n) as (λ (b : Bool). nat_lt (2 ^ 126) n ≡ b → (if b then None else Some n) ≡ Some x → (n ≡ x) × (n ≤ 2 ^ 126)) [
  | true ↦ λ h e. cc
  | false ↦ λ h e. (cc, at_most (2 ^ 126) n h)
] refl e

-- where something is reported unless the bound passes, and nothing is, the bound passes
goes_on : (o : Option ℕ) (g : ℕ → List Fault) (i : ℕ) → option_map_or g o (too_wide i) ≡ [] → (x : ℕ) × (o ≡ Some x) × (g x ≡ [])
goes_on None g i e = cc
goes_on (Some x) g i e = (x, refl, e)

-- ---- products

pub record ProductLaw (q : Query) (m n : ℕ) (fs : List Factor) : Type 0 where
  bound : ℕ
  same : running_product n fs ≡ Some bound
  fits : plan.ProductFits m (map (plan_factor q) fs)
  small : plan.bound_after m (map (plan_factor q) fs) ≤ bound

product_law : (q : Query) (m n i : ℕ) (fs : List Factor) → m ≤ n → product_faults n i fs ≡ [] → ProductLaw q m n fs
unfolding product_faults running_product
product_law q m n i [] r e = record { bound = n; same = refl; fits = tt; small = r }
product_law q m n i (x ∷ xs) r e =
    let g = goes_on (within (n * factor_bound x)) (λ b. product_faults b (i + factor_width x + 1) xs) i e in
    let p = passing (n * factor_bound x) g.0 g.1 in
    let t : m * plan.factor_bound (plan_factor q x) ≤ n * factor_bound x = times m n (plan.factor_bound (plan_factor q x)) (factor_bound x) r (no_greater q x) in
    let l = product_law q (m * plan.factor_bound (plan_factor q x)) g.0 (i + factor_width x + 1) xs (omega (arith, t, p.0)) g.2 in
    record { bound = l.bound; same = ap (λ o. option_and_then (λ b. running_product b xs) o) g.1 ∙ l.same; fits = (omega (arith, t, p.1), l.fits); small = l.small }

prod_law : (q : Query) (i : ℕ) (p : Prod) → prod_faults q i p ≡ [] → ProductLaw q 1 1 (factors p)
unfolding prod_faults
prod_law q i p e = product_law q 1 1 i (factors p) (omega arith) (behind (each factor_width (λ k. factor_faults q) 0 i (factors p)) (product_faults 1 i (factors p)) e)

-- ---- sums

-- one product more, in a sum that goes on
record Step (q : Query) (m n l : ℕ) (p : Prod) (ps : List Prod) : Type 0 where
  sum : ℕ
  fits : plan.ProductFits 1 (map (plan_factor q) (factors p))
  small : m + plan.bound_after 1 (map (plan_factor q) (factors p)) ≤ 2 ^ 126
  no_more : m + plan.bound_after 1 (map (plan_factor q) (factors p)) ≤ sum
  same : running_sum n (p ∷ ps) ≡ running_sum sum ps
  rest : sum_faults sum (l + prod_width p + 1) ps ≡ []

step : (q : Query) (m n i l : ℕ) (p : Prod) (ps : List Prod) → m ≤ n → prod_faults q i p ≡ [] → sum_faults n l (p ∷ ps) ≡ [] → Step q m n l p ps
unfolding sum_faults running_sum
step q m n i l p ps r a e =
    let h = prod_law q i p a in
    let g = goes_on (option_map_or (λ b. within (n + b)) (product_bound p) (Some n)) (λ b. sum_faults b (l + prod_width p + 1) ps) l e in
    let w : within (n + h.bound) ≡ Some g.0 = ap (λ o. option_map_or (λ b. within (n + b)) o (Some n)) (sym h.same) ∙ g.1 in
    let t = passing (n + h.bound) g.0 w in
    let s : option_and_then (λ b. within (n + b)) (product_bound p) ≡ Some g.0 = ap (option_and_then (λ b. within (n + b))) h.same ∙ w in
    record {
      sum = g.0;
      fits = h.fits;
      small = omega (arith, h.small, t.1);
      no_more = omega (arith, h.small, t.0);
      same = ap (option_and_then (λ b. running_sum b ps)) s;
      rest = g.2;
    }

record SumLaw (m n : ℕ) (ps : List Prod) (es : List Product) : Type 0 where
  bound : ℕ
  same : running_sum n ps ≡ Some bound
  fits : plan.SumFits m es
  small : plan.sum_bound m es ≤ bound

sum_law : (q : Query) (m n k i l : ℕ) (ts : List Term) → m ≤ n → each prod_width (λ k. prod_faults q) k i (prods ts) ≡ [] → sum_faults n l (prods ts) ≡ [] → SumLaw m n (prods ts) (map (plan_term q) ts)
unfolding running_sum
sum_law q m n k i l [] r a e = record { bound = n; same = refl; fits = tt; small = r }
sum_law q m n k i l (t ∷ ts) r a e =
    let s = step q m n i l t.prod (prods ts) r (first_part prod_width (λ k. prod_faults q) k i t.prod (prods ts) a) e in
    let w = sum_law q (m + plan.bound_after 1 (map (plan_factor q) (factors t.prod))) s.sum (k + 1) (i + prod_width t.prod + 1) (l + prod_width t.prod + 1) ts s.no_more (other_parts prod_width (λ k. prod_faults q) k i t.prod (prods ts) a) s.rest in
    record { bound = w.bound; same = s.same ∙ w.same; fits = (s.fits, s.small, w.fits); small = w.small }

pub record ExprLaw (q : Query) (e : Expr) : Type 0 where
  pub bound : ℕ
  pub same : expr_bound e ≡ Some bound
  pub fits : plan.SumFits 0 (plan_expr q e)
  pub small : plan.sum_bound 0 (plan_expr q e) ≤ bound

pub expr_law : (q : Query) (i : ℕ) (e : Expr) → expr_faults q i e ≡ [] → ExprLaw q e
unfolding expr_faults
expr_law q i e h =
    let a = before (each prod_width (λ k. prod_faults q) 0 i (products e)) (sum_faults 0 i (products e)) h in
    let b = behind (each prod_width (λ k. prod_faults q) 0 i (products e)) (sum_faults 0 i (products e)) h in
    let s = step q 0 0 i i e.first (prods e.more) (omega arith) (first_part prod_width (λ k. prod_faults q) 0 i e.first (prods e.more) a) b in
    let w = sum_law q (0 + plan.bound_after 1 (map (plan_factor q) (factors e.first))) s.sum 1 (i + prod_width e.first + 1) (i + prod_width e.first + 1) e.more s.no_more (other_parts prod_width (λ k. prod_faults q) 0 i e.first (prods e.more) a) s.rest in
    record { bound = w.bound; same = s.same ∙ w.same; fits = (s.fits, s.small, w.fits); small = w.small }
