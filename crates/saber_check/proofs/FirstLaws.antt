-- The least of some faults is the first of them.
use Rattle.std.proofs.Common.{◌≡◌, ℕ, suc, zero, length, slice_index_or, ◌+◌, ◌*◌, ◌<◌, ◌≤◌, ◌⊎◌, inl, inr, List, [], ◌∷◌, Option, Some, None, refl, sym, ◌∙◌, ap, arith, nat_le, Contains, subst, Bool, true, false, if◌then◌else◌}
use Rattle.std.specs.List.{AllByRecursion}
use Rattle.std.proofs.lemmas.Bool.Decides.{nat_tests}
use Rattle.std.proofs.lemmas.Bool.{cases_lt}
use Rattle.saber_check.specs.declared.fault.Fault.{Fault}
use Rattle.saber_query.specs.declared.fault.Cause.{Cause}
use Rattle.saber_query.specs.declared.fault.Cause.TheVariants as cause
use Rattle.saber_check.specs.Least.{key, sooner, least, rank}
use Rattle.saber_check.specs.First.{causes, IsFirst, IsNoLater}

pub inside : (x : Fault) (xs : List Fault) (g : Fault) → Contains (x ∷ xs) g → (x ≡ g) ⊎ Contains xs g
inside x xs g (zero, h, e) = inl e
inside x xs g (suc k, h, e) = inr (k, omega arith, e)

-- what holds of each holds of one of them
pub every : (P : Fault → Type 0) (xs : List Fault) (g : Fault) → AllByRecursion P xs → Contains xs g → P g
every P [] g a (k, h, e) = absurd (omega arith)
every P (x ∷ xs) g a m = elim (inside x xs g m) [ inl e ↦ subst P e a.0 | inr r ↦ every P xs g a.1 r ]

behind : (x : Fault) (xs : List Fault) (g : Fault) → Contains xs g → Contains (x ∷ xs) g
behind x xs g (k, h, e) = (suc k, omega arith, e)

here : (x : Fault) (xs : List Fault) → Contains (x ∷ xs) x
here x xs = (0, omega arith, refl)

pub rank_small : (c : Cause) → rank c < 16
rank_small cause.TooLong = omega arith
rank_small cause.BadByte = omega arith
rank_small cause.NumberRange = omega arith
rank_small cause.Syntax = omega arith
rank_small cause.Depth = omega arith
rank_small cause.DuplicateName = omega arith
rank_small cause.UnknownStream = omega arith
rank_small cause.UnknownColumn = omega arith
rank_small cause.Ambiguous = omega arith
rank_small cause.TooMany = omega arith
rank_small cause.WindowRange = omega arith
rank_small cause.Overlap = omega arith
rank_small cause.Shape = omega arith
rank_small cause.NotGrouped = omega arith
rank_small cause.ExprTooWide = omega arith
rank_small cause.SumTooWide = omega arith

-- ---- the order of causes

-- their ranks go up by one from a number
abbrev Up : ℕ → List Cause → Type 0
Up n [] = Unit {0}
Up n (c ∷ cs) = (rank c ≡ n) × Up (n + 1) cs

all_up : Up 0 causes
all_up = (refl, (refl, (refl, (refl, (refl, (refl, (refl, (refl, (refl, (refl, (refl, (refl, (refl, (refl, (refl, (refl, tt))))))))))))))))

up_at : (n : ℕ) (cs : List Cause) (i : ℕ) (c : Cause) → Up n cs → i < length cs → rank (slice_index_or cs i c) ≡ n + i
up_at n [] i c u h = absurd (omega arith)
up_at n (d ∷ ds) zero c u h = let e : n ≡ n + 0 = omega arith in u.0 ∙ e
up_at n (d ∷ ds) (suc i) c u h =
    let r : rank (slice_index_or ds i c) ≡ n + 1 + i = up_at (n + 1) ds i c u.1 (omega arith) in
    let e : n + 1 + i ≡ n + suc i = omega arith in
    r ∙ e

is_there : (c : Cause) → slice_index_or causes (rank c) c ≡ c
is_there cause.TooLong = refl
is_there _ = refl

no_later : (c d : Cause) → rank c ≤ rank d → IsNoLater c d
no_later c d h = (rank c, rank d, h, rank_small d, is_there c, is_there d)

pub ranks : (c d : Cause) → IsNoLater c d → rank c ≤ rank d
ranks c d (i, j, h, k, a, b) =
    let x : rank c ≡ 0 + i = ap rank (sym a) ∙ up_at 0 causes i c all_up (omega (arith, h, k)) in
    let y : rank d ≡ 0 + j = ap rank (sym b) ∙ up_at 0 causes j d all_up k in
    omega (arith, h, x, y)

order : (i a j b : ℕ) → a < 16 → b < 16 → 16 * i + a ≤ 16 * j + b → (i < j) ⊎ ((i ≡ j) × (a ≤ b))
order i a j b h k l = elim (cases_lt i j) [ inl p ↦ inl p | inr p ↦ inr (omega arith, omega arith) ]

-- the least by the key
record Lowest (f : Fault) (fs : List Fault) : Type 0 where
  there : Contains fs f
  low : (g : Fault) → Contains fs g → key f ≤ key g

none_inside : (xs : List Fault) → least xs ≡ None → (g : Fault) → ¬ (Contains xs g)
unfolding least sooner
none_inside [] e g (k, h, p) = absurd (omega arith)
none_inside (x ∷ xs) e g m = elim (least xs) as (λ (o : Option Fault). sooner x o ≡ None → ⊥) [ None ↦ λ q. cc | Some y ↦ λ q. cc ] e

pick : (x y f : Fault) (b : Bool) → nat_le (key x) (key y) ≡ b → Some (if b then x else y) ≡ Some f → ((x ≡ f) × (key x ≤ key y)) ⊎ ((y ≡ f) × (key y ≤ key x))
pick x y f true h e = let p : key x ≤ key y = grind (arith, nat_tests) in inl (cc, p)
pick x y f false h e = let p : key y ≤ key x = grind (arith, nat_tests) in inr (cc, p)

step : (x : Fault) (xs : List Fault) (o : Option Fault) → least xs ≡ o → (f : Fault) → sooner x o ≡ Some f → ((y : Fault) → o ≡ Some y → Lowest y xs) → Lowest f (x ∷ xs)
unfolding sooner
step x xs None h f e r =
    let p : x ≡ f = cc in
    record {
      there = subst (λ (z : Fault). Contains (x ∷ xs) z) p (here x xs);
      low = λ g m. elim (inside x xs g m) [ inl q ↦ let k : key f ≡ key g = ap key (sym p ∙ q) in omega (arith, k) | inr n ↦ absurd (none_inside xs h g n) ];
    }
step x xs (Some y) h f e r =
    let l = r y refl in
    elim (pick x y f (nat_le (key x) (key y)) refl e) [
      | inl p ↦ record {
        there = subst (λ (z : Fault). Contains (x ∷ xs) z) p.0 (here x xs);
        low = λ g m. let k : key x ≡ key f = ap key p.0 in elim (inside x xs g m) [ inl q ↦ let j : key x ≡ key g = ap key q in omega (arith, k, j) | inr n ↦ omega (arith, k, p.1, l.low g n) ];
      }
      | inr p ↦ record {
        there = subst (λ (z : Fault). Contains (x ∷ xs) z) p.0 (behind x xs y l.there);
        low = λ g m. let k : key y ≡ key f = ap key p.0 in elim (inside x xs g m) [ inl q ↦ let j : key x ≡ key g = ap key q in omega (arith, k, j, p.1) | inr n ↦ omega (arith, k, l.low g n) ];
      }
    ]

lowest : (xs : List Fault) (f : Fault) → least xs ≡ Some f → Lowest f xs
unfolding least
lowest [] f e = cc
lowest (x ∷ xs) f e = step x xs (least xs) refl f e (lowest xs)

pub first : (xs : List Fault) (f : Fault) → least xs ≡ Some f → IsFirst f xs
unfolding key
first xs f e =
    let l = lowest xs f e in
    record {
      there = l.there;
      first = λ g m. elim (order f.index (rank f.cause) g.index (rank g.cause) (rank_small f.cause) (rank_small g.cause) (l.low g m)) [ inl p ↦ inl p | inr p ↦ inr (p.0, no_later f.cause g.cause p.1) ];
    }

pub none : (xs : List Fault) → least xs ≡ None → (g : Fault) → ¬ (Contains xs g)
none = none_inside
