-- The lines of a window's pairs.
use Rattle.std.proofs.Common.{◌≡◌, List, [], ◌∷◌, map, T, ℤ, refl, ◌∙◌, ap, Vec, Global}
use Rattle.std.specs.FinMap.{is_sorted}
use Rattle.saber_plan.specs.Facts.Maps.{entries-from_rising}
use Rattle.saber_plan.specs.Answers.{key_cmp}
use Rattle.saber_plan.specs.Parts.{numbers_of_one}
use Rattle.saber_plan.specs.Facts.Parts.{total, exact}
use Rattle.saber_join.specs.Found.{values_in, seen_entries, seen_pairs}

values_back : (zs : List ℤ) → map (λ v. v.value) (numbers_of_one zs).values ≡ zs
values_back [] = refl
values_back (z ∷ zs) = ap (λ l. z ∷ l) (values_back zs)

seconds : (es : List (List ℤ × Vec ℤ Global)) → map (λ e. map (λ v. v.value) e.1.values) (seen_entries es) ≡ map (λ v. v.items) (map (λ e. e.1) es)
seconds [] = refl
seconds (e ∷ es) = λ j. values_back e.1.items j ∷ seconds es j

-- the values of the pairs in a tree map
pub values_seen : (es : List (List ℤ × Vec ℤ Global)) → T (is_sorted key_cmp (seen_entries es)) → values_in (seen_pairs es) ≡ map (λ v. v.items) (map (λ e. e.1) es)
values_seen es s = ap (map (λ e. map (λ v. v.value) e.1.values)) (entries-from_rising total exact (seen_entries es) s) ∙ seconds es
