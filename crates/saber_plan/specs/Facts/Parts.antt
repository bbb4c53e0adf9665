-- Facts on parts: the order of their keys, and what the groups of rows have under a key. Any proof may cite them.
use Rattle.std.proofs.Common.{◌≡◌, ℕ, List, [], ◌∷◌, map, true, false, cond, Option, Some, None, ℤ, refl, sym, ◌∙◌, ap}
use Rattle.std.proofs.lemmas.Bool.{both_ways}
use Rattle.std.proofs.lemmas.Cmp.{lists_total, int_cmp_total}
use Rattle.std.specs.Cmp.{IsTotalOrder}
use Rattle.std.specs.Ordering.{eq_by_cmp}
use Rattle.std.specs.FinMap.{get, find, get-from_entries, IsAntisymmetric, slice_cmp-IsAntisymmetric, int_cmp-IsAntisymmetric}
use Rattle.saber_plan.specs.declared.plans.Aggregate.{Aggregate}
use Rattle.saber_plan.specs.declared.plans.Fold.{Fold}
use Rattle.saber_plan.specs.declared.plans.Fold.TheVariants.{Sum, Min, Max, First}
use Rattle.saber_plan.specs.Trees.{Tree}
use Rattle.saber_plan.specs.Answers.{key_cmp, key, rows_of_key}
use Rattle.saber_plan.specs.Parts.{Part, no_part, group_part, Numbers, numbers, same_fold, join_numbers, merge}
use Rattle.saber_plan.specs.Facts.Maps.{equal_if, both-empty_left, both-empty_right}

-- ---- the order of keys

pub total : IsTotalOrder key_cmp
total = lists_total int_cmp_total

pub exact : IsAntisymmetric key_cmp
exact = slice_cmp-IsAntisymmetric int_cmp-IsAntisymmetric

-- ---- the empty part is the merge's unit

pub merge-empty_right : (a : Part) → merge a no_part ≡ a
merge-empty_right a = both-empty_right total join_numbers exact a

pub merge-empty_left : (a : Part) → merge no_part a ≡ a
merge-empty_left a = both-empty_left total join_numbers exact a

-- ---- how aggregates go on

pub same_self : (f : Fold) → same_fold f f ≡ true
same_self Sum = refl
same_self Min = refl
same_self Max = refl
same_self First = refl

pub same_is : (f g : Fold) → same_fold f g ≡ true → f ≡ g
same_is Sum Sum e = refl
same_is Sum Min e = absurd (both_ways _ refl e)
same_is Sum Max e = absurd (both_ways _ refl e)
same_is Sum First e = absurd (both_ways _ refl e)
same_is Min Sum e = absurd (both_ways _ refl e)
same_is Min Min e = refl
same_is Min Max e = absurd (both_ways _ refl e)
same_is Min First e = absurd (both_ways _ refl e)
same_is Max Sum e = absurd (both_ways _ refl e)
same_is Max Min e = absurd (both_ways _ refl e)
same_is Max Max e = refl
same_is Max First e = absurd (both_ways _ refl e)
same_is First Sum e = absurd (both_ways _ refl e)
same_is First Min e = absurd (both_ways _ refl e)
same_is First Max e = absurd (both_ways _ refl e)
same_is First First e = refl

-- ---- a key of the group part

-- what a key has, from its rows
abbrev pub numbers_if : List Aggregate → List (List ℤ) → Option Numbers
numbers_if gs [] = None
numbers_if gs (r ∷ rs) = Some (numbers gs (r ∷ rs))

-- a list of keys, each with what g gives
abbrev pub keyed_list : {X : Type 0} → (List ℤ → X) → List (List ℤ) → List (List ℤ × X)
keyed_list g ks = map (λ k. (k, g k)) ks

same_key : (k l : List ℤ) → eq_by_cmp key_cmp k l ≡ true → k ≡ l
same_key k l e = exact k l (equal_if _ e)

abbrev pub if_any : {A B : Type 0} → List A → B → Option B
if_any [] b = None
if_any (x ∷ xs) b = Some b

find_keyed : {X : Type 0} (ks : List ℕ) (k : List ℤ) (g : List ℤ → X) (rows : List (List ℤ))
    → find key_cmp k (keyed_list g (map (key ks) rows)) ≡ if_any (rows_of_key ks k rows) (g k)
find_keyed ks k g [] = refl
find_keyed ks k g (r ∷ rows) =
    elim (eq_by_cmp key_cmp k (key ks r)) as (λ b. eq_by_cmp key_cmp k (key ks r) ≡ b
    → cond b (Some (g (key ks r))) (find key_cmp k (keyed_list g (map (key ks) rows)))
    ≡ if_any (cond b (r ∷ rows_of_key ks k rows) (rows_of_key ks k rows)) (g k)) [
      | true ↦ λ e. ap (λ l. Some (g l)) (sym (same_key _ _ e))
      | false ↦ λ e. find_keyed ks k g rows
    ] refl

if_any_answers : (gs : List Aggregate) (rs : List (List ℤ)) → if_any rs (numbers gs rs) ≡ numbers_if gs rs
if_any_answers gs [] = refl
if_any_answers gs (r ∷ rs) = refl

pub get-group_part : (q : Tree) (rows : List (List ℤ)) (k : List ℤ) → get (group_part q rows) k ≡ numbers_if q.aggregates (rows_of_key q.keys k rows)
unfolding group_part
get-group_part q rows k =
    get-from_entries total _ k
    ∙ find_keyed q.keys k (λ l. numbers q.aggregates (rows_of_key q.keys l rows)) rows
    ∙ if_any_answers q.aggregates (rows_of_key q.keys k rows)
