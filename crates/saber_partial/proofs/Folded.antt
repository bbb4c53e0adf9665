-- Numbers and how they go on, in lists.
use Rattle.std.proofs.Common.{◌≡◌, ℕ, zero, suc, ◌+◌, ◌*◌, ◌^◌, ◌≤◌, ◌<◌, List, [], ◌∷◌, ◌++◌, length, map, take, drop, get_or, set, true, false, cond, ℤ, pos, ◌+ℤ◌, nat_abs, refl, sym, ◌∙◌, ap, subst, arith}
use Rattle.std.proofs.lemmas.Int.{ints}
use Rattle.std.proofs.lemmas.List.{append_assoc, append-nil, drop-set-lt, drop_all, drop_more, take_all, take_more_set}
use Rattle.std.specs.List.{AllByRecursion}
use Rattle.saber_plan.specs.declared.plans.Fold.{Fold}
use Rattle.saber_plan.specs.declared.plans.Fold.TheVariants.{Sum, Min, Max, First}
use Rattle.saber_plan.specs.declared.plans.Aggregate.{Aggregate}
use Rattle.saber_plan.specs.Answers.{step}
use Rattle.saber_plan.specs.Values.{value}
use Rattle.saber_plan.specs.Facts.Parts.{same_self, same_is}
use Rattle.saber_plan.specs.Parts.{Number, Numbers, numbers, same_fold, join_values, join_numbers}
use Rattle.saber_partial.specs.Flat.{with_folds}
use Rattle.saber_partial.specs.Gathering.{plan_folds, values_over, stepped_numbers, Fits128, FitsStep, StepsFit, HasRoom, IsSmall}
use Rattle.saber_partial.specs.Tallies.{folds_of, SumWithin, IsTally, CanJoin}

abbrev pub number : Fold → ℤ → Number
number f z = record { fold = f; value = z }

-- ---- lists of numbers

pub length-stepped : (fs : List Fold) (xs ys : List ℤ) → length xs ≤ length fs → length xs ≡ length ys → length (stepped_numbers fs xs ys) ≡ length xs
length-stepped [] [] ys h e = refl
length-stepped [] (x ∷ xs) ys h e = absurd (omega (arith, h))
length-stepped (f ∷ fs) [] ys h e = refl
length-stepped (f ∷ fs) (x ∷ xs) [] h e = absurd (omega (arith, e))
length-stepped (f ∷ fs) (x ∷ xs) (y ∷ ys) h e = ap suc (length-stepped fs xs ys (omega (arith, h)) (omega (arith, e)))

pub length-with : (fs : List Fold) (xs : List ℤ) → length xs ≤ length fs → length (with_folds fs xs) ≡ length xs
length-with [] [] h = refl
length-with [] (x ∷ xs) h = absurd (omega (arith, h))
length-with (f ∷ fs) [] h = refl
length-with (f ∷ fs) (x ∷ xs) h = ap suc (length-with fs xs (omega (arith, h)))

pub folds-with : (fs : List Fold) (xs : List ℤ) → folds_of (with_folds fs xs) ≡ take (length xs) fs
folds-with [] [] = refl
folds-with [] (x ∷ xs) = refl
folds-with (f ∷ fs) [] = refl
folds-with (f ∷ fs) (x ∷ xs) = ap (λ l. f ∷ l) (folds-with fs xs)

pub values-with : (fs : List Fold) (xs : List ℤ) → length xs ≤ length fs → map (λ v. v.value) (with_folds fs xs) ≡ xs
values-with [] [] h = refl
values-with [] (x ∷ xs) h = absurd (omega (arith, h))
values-with (f ∷ fs) [] h = refl
values-with (f ∷ fs) (x ∷ xs) h = ap (λ l. x ∷ l) (values-with fs xs (omega (arith, h)))

-- the folds behind those of the numbers do nothing
pub with-front : (n : ℕ) (fs : List Fold) (xs : List ℤ) → length xs ≤ n → with_folds (take n fs) xs ≡ with_folds fs xs
with-front zero [] [] h = refl
with-front zero (f ∷ fs) [] h = refl
with-front zero fs (x ∷ xs) h = absurd (omega (arith, h))
with-front (suc n) [] xs h = refl
with-front (suc n) (f ∷ fs) [] h = refl
with-front (suc n) (f ∷ fs) (x ∷ xs) h = ap (λ l. number f x ∷ l) (with-front n fs xs (omega (arith, h)))

pub stepped-front : (n : ℕ) (fs : List Fold) (xs ys : List ℤ) → length xs ≤ n → stepped_numbers (take n fs) xs ys ≡ stepped_numbers fs xs ys
stepped-front zero [] xs ys h = refl
stepped-front zero (f ∷ fs) [] ys h = refl
stepped-front zero (f ∷ fs) (x ∷ xs) ys h = absurd (omega (arith, h))
stepped-front (suc n) [] xs ys h = refl
stepped-front (suc n) (f ∷ fs) [] ys h = refl
stepped-front (suc n) (f ∷ fs) (x ∷ xs) [] h = refl
stepped-front (suc n) (f ∷ fs) (x ∷ xs) (y ∷ ys) h = ap (λ l. step f x y ∷ l) (stepped-front n fs xs ys (omega (arith, h)))

-- numbers joined one by one are those of the joined lists
pub with-stepped : (fs : List Fold) (xs ys : List ℤ) → with_folds fs (stepped_numbers fs xs ys) ≡ join_values (with_folds fs xs) (with_folds fs ys)
with-stepped [] xs ys = refl
with-stepped (f ∷ fs) [] ys = refl
with-stepped (f ∷ fs) (x ∷ xs) [] = refl
with-stepped (f ∷ fs) (x ∷ xs) (y ∷ ys) =
    ap (λ l. number f (step f x y) ∷ l) (with-stepped fs xs ys)
    ∙ sym (ap (λ b. cond b (number f (step f x y) ∷ join_values (with_folds fs xs) (with_folds fs ys)) []) (same_self f))

stepped_nil : (fs : List Fold) (ys : List ℤ) → stepped_numbers fs [] ys ≡ []
stepped_nil [] ys = refl
stepped_nil (f ∷ fs) ys = refl

-- what is joined so far, and the rest as it will be
abbrev pub stepped_from : List Fold → List ℤ → List ℤ → ℕ → List ℤ
stepped_from fs xs ys k = take k xs ++ stepped_numbers (drop k fs) (drop k xs) (drop k ys)

pub stepped_all : (fs : List Fold) (xs ys : List ℤ) (k : ℕ) → length xs ≤ k → stepped_from fs xs ys k ≡ xs
stepped_all fs xs ys k h =
    (λ i. take_all k xs h i ++ stepped_numbers (drop k fs) (drop_all k xs h i) (drop k ys)) ∙ ap (λ l. xs ++ l) (stepped_nil (drop k fs) (drop k ys)) ∙ append-nil xs

pub stepped_more : (fs : List Fold) (xs ys : List ℤ) (k : ℕ) (z : ℤ) → k < length xs → length xs ≤ length fs → length xs ≡ length ys
    → z ≡ step (get_or fs k Sum) (get_or xs k (pos 0)) (get_or ys k (pos 0)) → stepped_from fs (set xs k z) ys (k + 1) ≡ stepped_from fs xs ys k
stepped_more fs xs ys k z low many long e =
    let rest = stepped_numbers (drop (k + 1) fs) (drop (k + 1) xs) (drop (k + 1) ys) in
    (λ i. take_more_set xs k z low i ++ stepped_numbers (drop (k + 1) fs) (drop-set-lt (k + 1) xs k z (omega arith) i) (drop (k + 1) ys))
    ∙ append_assoc (take k xs) (z ∷ []) rest
    ∙ ap (λ v. take k xs ++ (v ∷ rest)) e
    ∙ sym (λ i. take k xs ++ stepped_numbers (drop_more fs k Sum (omega (arith, low, many)) i) (drop_more xs k (pos 0) low i) (drop_more ys k (pos 0) (omega (arith, low, long)) i))

-- ---- the numbers of one row

pub length-over : (zs : List ℤ) (gs : List Aggregate) → length (values_over zs gs) ≡ length gs
length-over zs [] = refl
length-over zs (g ∷ gs) = ap suc (length-over zs gs)

pub length-folds : (gs : List Aggregate) → length (plan_folds gs) ≡ length gs
length-folds [] = refl
length-folds (g ∷ gs) = ap suc (length-folds gs)

row_values : (gs : List Aggregate) (zs : List ℤ) → (numbers gs (zs ∷ [])).values ≡ with_folds (plan_folds gs) (values_over zs gs)
row_values [] zs = refl
row_values (g ∷ gs) zs = ap (λ l. number g.fold (value g.expr zs []) ∷ l) (row_values gs zs)

pub one_row : (gs : List Aggregate) (zs : List ℤ) → numbers gs (zs ∷ []) ≡ record { count = 1; values = with_folds (plan_folds gs) (values_over zs gs) }
one_row gs zs = ap (λ (vs : List Number). record { count = 1; values = vs }) (row_values gs zs)

pub folds-row : (gs : List Aggregate) (rows : List (List ℤ)) → folds_of (numbers gs rows).values ≡ plan_folds gs
folds-row [] rows = refl
folds-row (g ∷ gs) rows = ap (λ l. g.fold ∷ l) (folds-row gs rows)

-- ---- sums stay small

abbrev AllWithin : ℕ → List Number → Type 0
AllWithin n vs = AllByRecursion (λ v. SumWithin n v.fold v.value) vs

more_within : (m n : ℕ) (f : Fold) (z : ℤ) → m ≤ n → SumWithin m f z → SumWithin n f z
more_within m n Sum z h s = omega (arith, h, s)
more_within m n Min z h s = tt
more_within m n Max z h s = tt
more_within m n First z h s = tt

pub all_within : (m n : ℕ) (vs : List Number) → m ≤ n → AllWithin m vs → AllWithin n vs
all_within m n [] h s = tt
all_within m n (v ∷ vs) h s = (more_within m n v.fold v.value h s.0, all_within m n vs h s.1)

sum_small : (m n : ℕ) (x y : ℤ) → nat_abs x ≤ m * 2 ^ 86 → nat_abs y ≤ n * 2 ^ 86 → nat_abs (x +ℤ y) ≤ (m + n) * 2 ^ 86
sum_small m n x y a b = omega (arith, ints, a, b)

step_small : (m n : ℕ) (f : Fold) (x y : ℤ) → SumWithin (m * 2 ^ 86) f x → SumWithin (n * 2 ^ 86) f y → SumWithin ((m + n) * 2 ^ 86) f (step f x y)
step_small m n Sum x y a b = sum_small m n x y a b
step_small m n Min x y a b = tt
step_small m n Max x y a b = tt
step_small m n First x y a b = tt

join_small : (m n : ℕ) (xs ys : List Number) → AllWithin (m * 2 ^ 86) xs → AllWithin (n * 2 ^ 86) ys → AllWithin ((m + n) * 2 ^ 86) (join_values xs ys)
join_small m n [] ys a b = tt
join_small m n (x ∷ xs) [] a b = tt
join_small m n (x ∷ xs) (y ∷ ys) a b =
    elim (same_fold x.fold y.fold) as (λ t. same_fold x.fold y.fold ≡ t → AllWithin ((m + n) * 2 ^ 86) (cond t (number x.fold (step x.fold x.value y.value) ∷ join_values xs ys) [])) [
      | true ↦ λ e. (step_small m n x.fold x.value y.value a.0 (subst (λ f. SumWithin (n * 2 ^ 86) f y.value) (sym (same_is x.fold y.fold e)) b.0), join_small m n xs ys a.1 b.1)
      | false ↦ λ e. tt
    ] refl

pub join_is_tally : (a b : Numbers) → IsTally a → IsTally b → CanJoin a b → IsTally (join_numbers a b)
join_is_tally a b g h c = let some = g.some in let few = c.counts in record {
  some = omega (arith, some);
  few = few;
  small = join_small a.count b.count a.values b.values g.small h.small;
}

pub row_is_tally : (fs : List Fold) (xs : List ℤ) → AllByRecursion IsSmall (with_folds fs xs) → IsTally (record { count = 1; values = with_folds fs xs })
row_is_tally fs xs h = record { some = omega arith; few = omega arith; small = h }

pub sums_have_room : (n : ℕ) (vs : List Number) → n ≤ 2 ^ 40 → AllWithin (n * 2 ^ 86) vs → AllByRecursion HasRoom vs
sums_have_room n vs k a = all_within (n * 2 ^ 86) (2 ^ 126) vs (omega (arith, k)) a

-- ---- a step is a number of 128 bits

both_fit : (m n : ℕ) (x y : ℤ) → m + n ≤ 2 ^ 40 → nat_abs x ≤ m * 2 ^ 86 → nat_abs y ≤ n * 2 ^ 86 → Fits128 (x +ℤ y)
both_fit m n x y k a b = (omega (arith, ints, k, a, b), omega (arith, ints, k, a, b))

step_fits : (m n : ℕ) (f : Fold) (x y : ℤ) → m + n ≤ 2 ^ 40 → SumWithin (m * 2 ^ 86) f x → SumWithin (n * 2 ^ 86) f y → FitsStep f x y
step_fits m n Sum x y k a b = both_fit m n x y k a b
step_fits m n Min x y k a b = tt
step_fits m n Max x y k a b = tt
step_fits m n First x y k a b = tt

pub steps_fit : (m n : ℕ) (fs : List Fold) (xs ys : List ℤ) → m + n ≤ 2 ^ 40 → length xs ≤ length fs → length xs ≡ length ys
    → AllWithin (m * 2 ^ 86) (with_folds fs xs) → AllWithin (n * 2 ^ 86) (with_folds fs ys) → StepsFit fs xs ys
steps_fit m n [] [] ys k h e a b i l = absurd (omega (arith, l))
steps_fit m n [] (x ∷ xs) ys k h e a b i l = absurd (omega (arith, h))
steps_fit m n (f ∷ fs) [] ys k h e a b i l = absurd (omega (arith, l))
steps_fit m n (f ∷ fs) (x ∷ xs) [] k h e a b i l = absurd (omega (arith, e))
steps_fit m n (f ∷ fs) (x ∷ xs) (y ∷ ys) k h e a b zero l = step_fits m n f x y k a.0 b.0
steps_fit m n (f ∷ fs) (x ∷ xs) (y ∷ ys) k h e a b (suc i) l = steps_fit m n fs xs ys k (omega (arith, h)) (omega (arith, e)) a.1 b.1 i (omega (arith, l))
