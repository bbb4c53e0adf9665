-- Codes of parts, so that a type may have one as its value.
use Rattle.std.specs.Prelude.{◌≡◌, ℕ, zero, suc, List, ℤ, refl}
use Rattle.std.specs.Coded.{Coded, code_by, coded×, coded_ℕ, coded_ℤ, coded_list}
use Rattle.std.specs.FinMap.{code}
use Rattle.saber_plan.specs.declared.plans.Fold.{Fold}
use Rattle.saber_plan.specs.declared.plans.Fold.TheVariants.{Sum, Min, Max, First}
use Rattle.saber_plan.specs.Parts.{Part, Number, Numbers}
use Rattle.saber_plan.specs.Tasks.{Parts}

-- a fold by its number
abbrev fold_code : Fold → ℕ
fold_code Sum = 0
fold_code Min = 1
fold_code Max = 2
fold_code First = 3

abbrev fold_at : ℕ → Fold
fold_at zero = Sum
fold_at (suc zero) = Min
fold_at (suc (suc zero)) = Max
fold_at (suc (suc (suc n))) = First

abbrev fold_back : (f : Fold) → fold_at (fold_code f) ≡ f
fold_back Sum = refl
fold_back Min = refl
fold_back Max = refl
fold_back First = refl

abbrev pub coded_fold : Coded Fold
coded_fold = code_by ℕ coded_ℕ fold_code fold_at fold_back

abbrev pub coded_number : Coded Number
coded_number = code_by (Fold × ℤ) (coded× coded_fold coded_ℤ) (λ v. (v.fold, v.value)) (λ p. record { fold = p.0; value = p.1 }) (λ _. refl)

abbrev pub coded_numbers : Coded Numbers
coded_numbers = code_by (ℕ × List Number) (coded× coded_ℕ (coded_list coded_number)) (λ a. (a.count, a.values)) (λ p. record { count = p.0; values = p.1 }) (λ _. refl)

abbrev pub coded_part : Coded Part
coded_part = code (coded_list coded_ℤ) coded_numbers

abbrev pub coded_parts : Coded Parts
coded_parts = code coded_ℕ coded_part
