-- What follows where a part of a query has no fault.
use Rattle.std.proofs.Common.{◌≡◌, ℕ, ◌+◌, ◌≤◌, List, [], ◌∷◌, ◌++◌, length, Bool, true, false, ◌&&◌, ◌||◌, not, ◌==◌, Option, Some, None, refl, sym, ap, ◌∙◌, arith}
use Rattle.std.proofs.lemmas.Slice.Eq.{bytes_eq-Decides}
use Rattle.std.proofs.lemmas.Bool.Decides.{nat_tests}
use Rattle.saber_query.specs.declared.fault.Cause.{Cause}
use Rattle.saber_check.specs.declared.fault.Fault.{Fault}
use Rattle.saber_check.specs.Names.{same}
use Rattle.saber_check.specs.Least.{row, each, least, sooner}

-- ---- lists of faults

pub least_gives : (fs : List Fault) → least fs ≡ None → fs ≡ []
unfolding least sooner
least_gives [] e = refl
least_gives (f ∷ fs) e = elim (least fs) as (λ (o : Option Fault). sooner f o ≡ None → f ∷ fs ≡ []) [ None ↦ λ q. cc | Some g ↦ λ q. cc ] e

pub before : (xs ys : List Fault) → xs ++ ys ≡ [] → xs ≡ []
before [] ys e = refl
before (x ∷ xs) ys e = cc

pub behind : (xs ys : List Fault) → xs ++ ys ≡ [] → ys ≡ []
behind [] ys e = e
behind (x ∷ xs) ys e = cc

pub passes : (b : Bool) (i : ℕ) (c : Cause) → row b i c ≡ [] → b ≡ false
passes true i c e = cc
passes false i c e = refl

pub row_and : (a : Bool) (i : ℕ) (x : Cause) (fs : List Fault) → row a i x ++ fs ≡ [] → (a ≡ false) × (fs ≡ [])
row_and true i x fs e = cc
row_and false i x fs e = (refl, e)

pub rows_and : (a b : Bool) (i j : ℕ) (x y : Cause) (fs : List Fault) → row a i x ++ row b j y ++ fs ≡ [] → (a ≡ false) × (b ≡ false) × (fs ≡ [])
rows_and true b i j x y fs e = cc
rows_and false true i j x y fs e = cc
rows_and false false i j x y fs e = (refl, refl, e)

pub four_rows_and : (a b c d : Bool) (i j k l : ℕ) (x y z w : Cause) (fs : List Fault) → row a i x ++ row b j y ++ row c k z ++ row d l w ++ fs ≡ [] → (a ≡ false) × (b ≡ false) × (c ≡ false) × (d ≡ false) × (fs ≡ [])
four_rows_and true b c d i j k l x y z w fs h = cc
four_rows_and false true c d i j k l x y z w fs h = cc
four_rows_and false false true d i j k l x y z w fs h = cc
four_rows_and false false false true i j k l x y z w fs h = cc
four_rows_and false false false false i j k l x y z w fs h = (refl, refl, refl, refl, h)

pub first_part : {X : Type 0} (width : X → ℕ) (faults : ℕ → ℕ → X → List Fault) (k i : ℕ) (x : X) (xs : List X) → each width faults k i (x ∷ xs) ≡ [] → faults k i x ≡ []
unfolding each
first_part width faults k i x xs e = before (faults k i x) (each width faults (k + 1) (i + width x + 1) xs) e

pub other_parts : {X : Type 0} (width : X → ℕ) (faults : ℕ → ℕ → X → List Fault) (k i : ℕ) (x : X) (xs : List X) → each width faults k i (x ∷ xs) ≡ [] → each width faults (k + 1) (i + width x + 1) xs ≡ []
unfolding each
other_parts width faults k i x xs e = behind (faults k i x) (each width faults (k + 1) (i + width x + 1) xs) e

-- parts that are refused at this number are fewer
pub few : {X : Type 0} (width : X → ℕ) (faults : ℕ → ℕ → X → List Fault) (most : ℕ) → ((i : ℕ) (x : X) → ¬ (faults most i x ≡ [])) → (k i : ℕ) (xs : List X) → k ≤ most → each width faults k i xs ≡ [] → k + length xs ≤ most
few width faults most h k i [] r e = omega arith
few width faults most h k i (x ∷ xs) r e = elim (k == most) as (λ (b : Bool). (k == most) ≡ b → k + length (x ∷ xs) ≤ most) [
  | true ↦ λ q. let p : k ≡ most = grind (arith, nat_tests) in absurd (h i x (ap (λ n. faults n i x) (sym p) ∙ first_part width faults k i x xs e))
  | false ↦ λ q. let p : k + 1 ≤ most = grind (arith, nat_tests) in omega (arith, few width faults most h (k + 1) (i + width x + 1) xs p (other_parts width faults k i x xs e))
] refl

-- ---- tests

pub is_true : (b : Bool) → not b ≡ false → b ≡ true
is_true true e = refl
is_true false e = cc

pub neither : (a b : Bool) → (a || b) ≡ false → (a ≡ false) × (b ≡ false)
neither true b e = cc
neither false b e = (refl, e)

pub or_right : (a b : Bool) → (a || b) ≡ true → a ≡ false → b ≡ true
or_right true b e h = cc
or_right false b e h = e

pub not_both : (a b : Bool) → (a && b) ≡ false → a ≡ true → b ≡ false
not_both true b e h = e
not_both false b e h = cc

pub same_names : (m n : List ℕ) → same m n ≡ true → m ≡ n
same_names m n e = (bytes_eq-Decides m n).0 e

pub same_self : (n : List ℕ) → same n n ≡ true
same_self n = (bytes_eq-Decides n n).1 refl
