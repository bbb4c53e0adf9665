-- The parts of groups and their merge.
use Rattle.std.proofs.Common.{◌≡◌, ◌+◌, List, [], ◌∷◌, ◌++◌, map, fold, length, true, false, cond, Some, ℤ, refl, sym, ◌∙◌, ap, subst, append-nil, length-append, arith}
use Rattle.std.proofs.Math.IntN.{+ℤ_assoc}
use Rattle.std.proofs.lemmas.Int.{ints}
use Rattle.std.proofs.lemmas.List.{map-append}
use Rattle.std.proofs.lemmas.List.Sums.{fold-append}
use Rattle.std.proofs.lemmas.List.Elements.{filter-append}
use Rattle.std.specs.Int.{int_min, int_max}
use Rattle.std.specs.declared.cmp.Ordering.TheVariants.{Less, Equal, Greater}
use Rattle.std.specs.Ordering.{eq_by_cmp, match_ordering}
use Rattle.std.specs.FinMap.{get, entries, from_entries, put, entries-insert, same_map}
use Rattle.std.specs.FinMap.Entries.{by_order}
use Rattle.saber_plan.specs.declared.plans.Shape.TheVariants.{Group}
use Rattle.saber_plan.specs.declared.plans.Fold.{Fold}
use Rattle.saber_plan.specs.declared.plans.Fold.TheVariants.{Sum, Min, Max, First}
use Rattle.saber_plan.specs.declared.plans.Aggregate.{Aggregate}
use Rattle.saber_plan.specs.declared.expressions.Product.{Product}
use Rattle.saber_plan.specs.Trees.{Tree}
use Rattle.saber_plan.specs.Values.{value}
use Rattle.saber_plan.specs.Answers.{key_cmp, with_key, keys_of, key, rows_of_key, answers, aggregate, step, first_by, group_row, items_over, values_of, groups}
use Rattle.saber_plan.specs.Merges.{join}
use Rattle.saber_plan.specs.Parts.{Part, no_part, group_part, Numbers, Number, numbers, same_fold, join_values, join_numbers, answers_of, group_answer, merge}
use Rattle.saber_plan.specs.Facts.Parts.{total, exact, same_self, same_is, numbers_if, keyed_list, get-group_part}
use Rattle.saber_plan.specs.Facts.Maps.{get-both, both-assoc, entries-empty}

-- ---- the join of numbers

int_min_assoc : (x y z : ℤ) → int_min (int_min x y) z ≡ int_min x (int_min y z)
int_min_assoc x y z = grind (arith, ints)

int_max_assoc : (x y z : ℤ) → int_max (int_max x y) z ≡ int_max x (int_max y z)
int_max_assoc x y z = grind (arith, ints)

step_assoc : (f : Fold) (x y z : ℤ) → step f (step f x y) z ≡ step f x (step f y z)
step_assoc Sum = +ℤ_assoc
step_assoc Min = int_min_assoc
step_assoc Max = int_max_assoc
step_assoc First = λ x y z. refl

abbrev number : Fold → ℤ → Number
number f z = record { fold = f; value = z }

-- of three lists of aggregates, where the first two of them are alike
alike : (f h : Fold) (x y z : ℤ) (xs ys zs : List Number) → join_values (join_values xs ys) zs ≡ join_values xs (join_values ys zs)
    → join_values (cond (same_fold f f) (number f (step f x y) ∷ join_values xs ys) []) (number h z ∷ zs)
    ≡ join_values (number f x ∷ xs) (cond (same_fold f h) (number f (step f y z) ∷ join_values ys zs) [])
alike f h x y z xs ys zs rest =
    ap (λ b. join_values (cond b (number f (step f x y) ∷ join_values xs ys) []) (number h z ∷ zs)) (same_self f)
    ∙ elim (same_fold f h) as (λ b. cond b (number f (step f (step f x y) z) ∷ join_values (join_values xs ys) zs) []
    ≡ join_values (number f x ∷ xs) (cond b (number f (step f y z) ∷ join_values ys zs) [])) [
      | true ↦ (λ j. number f (step_assoc f x y z j) ∷ rest j) ∙ sym (ap (λ b. cond b (number f (step f x (step f y z)) ∷ join_values xs (join_values ys zs)) []) (same_self f))
      | false ↦ refl
    ]

-- and where they are not
apart : (f g h : Fold) (x y z w : ℤ) (xs zs vs ws : List Number) → same_fold f g ≡ false
    → join_values (cond (same_fold f g) (number f y ∷ vs) []) (number h z ∷ zs) ≡ join_values (number f x ∷ xs) (cond (same_fold g h) (number g w ∷ ws) [])
apart f g h x y z w xs zs vs ws e =
    ap (λ b. join_values (cond b (number f y ∷ vs) []) (number h z ∷ zs)) e
    ∙ elim (same_fold g h) as (λ b. [] ≡ join_values (number f x ∷ xs) (cond b (number g w ∷ ws) [])) [
      | true ↦ sym (ap (λ b. cond b (number f (step f x w) ∷ join_values xs ws) []) e)
      | false ↦ refl
    ]

join_values_assoc : (xs ys zs : List Number) → join_values (join_values xs ys) zs ≡ join_values xs (join_values ys zs)
join_values_assoc [] ys zs = refl
join_values_assoc (x ∷ xs) [] zs = refl
join_values_assoc (x ∷ xs) (y ∷ ys) [] = elim (same_fold x.fold y.fold) as (λ b. join_values (cond b (number x.fold (step x.fold x.value y.value) ∷ join_values xs ys) []) [] ≡ []) [ true ↦ refl | false ↦ refl ]
join_values_assoc (x ∷ xs) (y ∷ ys) (z ∷ zs) =
    elim (same_fold x.fold y.fold) as (λ b. same_fold x.fold y.fold ≡ b
    → join_values (join_values (x ∷ xs) (y ∷ ys)) (z ∷ zs) ≡ join_values (x ∷ xs) (join_values (y ∷ ys) (z ∷ zs))) [
      | true ↦ λ e. subst (λ g. join_values (cond (same_fold x.fold g) (number x.fold (step x.fold x.value y.value) ∷ join_values xs ys) []) (z ∷ zs)
          ≡ join_values (x ∷ xs) (cond (same_fold g z.fold) (number g (step g y.value z.value) ∷ join_values ys zs) []))
          (same_is x.fold y.fold e) (alike x.fold z.fold x.value y.value z.value xs ys zs (join_values_assoc xs ys zs))
      | false ↦ λ e. apart x.fold y.fold z.fold x.value _ z.value _ xs zs _ _ e
    ] refl

join_numbers_assoc : (a b c : Numbers) → join_numbers (join_numbers a b) c ≡ join_numbers a (join_numbers b c)
join_numbers_assoc a b c =
    let counts : (a.count + b.count) + c.count ≡ a.count + (b.count + c.count) = omega arith in
    λ k. record { count = counts k; values = join_values_assoc a.values b.values c.values k }

-- merge is associative, and the empty part is its unit
pub merge_is_associative : (a b c : Part) → merge (merge a b) c ≡ merge a (merge b c)
merge_is_associative a b c = both-assoc total join_numbers exact join_numbers_assoc a b c

-- ---- answers over two lists of rows

fold_out : (f : ℤ → ℤ → ℤ) → ((x y z : ℤ) → f (f x y) z ≡ f x (f y z)) → (a y : ℤ) (ys : List ℤ) → fold f (f a y) ys ≡ f a (fold f y ys)
fold_out f assoc a y [] = refl
fold_out f assoc a y (z ∷ ys) = ap (λ b. fold f b ys) (assoc a y z) ∙ fold_out f assoc a (f y z) ys

first-append : (f : ℤ → ℤ → ℤ) → ((x y z : ℤ) → f (f x y) z ≡ f x (f y z)) → (x : ℤ) (xs : List ℤ) (y : ℤ) (ys : List ℤ) → fold f x (xs ++ y ∷ ys) ≡ f (fold f x xs) (fold f y ys)
first-append f assoc x xs y ys = fold-append f x xs (y ∷ ys) ∙ fold_out f assoc (fold f x xs) y ys

values_cut : (e : List Product) (xs ys : List (List ℤ)) → values_of e (xs ++ ys) ≡ values_of e xs ++ values_of e ys
values_cut e xs ys = map-append (λ zs. value e zs []) xs ys

aggregate-append : (g : Aggregate) (x : List ℤ) (xs : List (List ℤ)) (y : List ℤ) (ys : List (List ℤ))
    → aggregate ((x ∷ xs) ++ y ∷ ys) g ≡ step g.fold (aggregate (x ∷ xs) g) (aggregate (y ∷ ys) g)
aggregate-append g x xs y ys =
    ap (first_by (step g.fold)) (values_cut g.expr (x ∷ xs) (y ∷ ys))
    ∙ first-append (step g.fold) (step_assoc g.fold) (value g.expr x []) (values_of g.expr xs) (value g.expr y []) (values_of g.expr ys)

abbrev over : List (List ℤ) → List Aggregate → List Number
over rows gs = map (λ g. number g.fold (aggregate rows g)) gs

aggregates-append : (gs : List Aggregate) (x : List ℤ) (xs : List (List ℤ)) (y : List ℤ) (ys : List (List ℤ))
    → over ((x ∷ xs) ++ y ∷ ys) gs ≡ join_values (over (x ∷ xs) gs) (over (y ∷ ys) gs)
aggregates-append [] x xs y ys = refl
aggregates-append (g ∷ gs) x xs y ys =
    (λ k. number g.fold (aggregate-append g x xs y ys k) ∷ aggregates-append gs x xs y ys k)
    ∙ sym (ap (λ b. cond b (number g.fold (step g.fold (aggregate (x ∷ xs) g) (aggregate (y ∷ ys) g)) ∷ join_values (over (x ∷ xs) gs) (over (y ∷ ys) gs)) []) (same_self g.fold))

-- the numbers of rows, and of rows after them
numbers-append : (gs : List Aggregate) (x : List ℤ) (xs : List (List ℤ)) (y : List ℤ) (ys : List (List ℤ)) → numbers gs ((x ∷ xs) ++ y ∷ ys) ≡ join_numbers (numbers gs (x ∷ xs)) (numbers gs (y ∷ ys))
numbers-append gs x xs y ys = λ k. record { count = length-append (x ∷ xs) (y ∷ ys) k; values = aggregates-append gs x xs y ys k }

numbers_if-append : (gs : List Aggregate) (xs ys : List (List ℤ)) → numbers_if gs (xs ++ ys) ≡ join join_numbers (numbers_if gs xs) (numbers_if gs ys)
numbers_if-append gs [] ys = refl
numbers_if-append gs (x ∷ xs) [] = ap (numbers_if gs) (append-nil (x ∷ xs))
numbers_if-append gs (x ∷ xs) (y ∷ ys) = ap Some (numbers-append gs x xs y ys)

-- the answers that numbers give
values-over : (gs : List Aggregate) (rows : List (List ℤ)) → map (λ v. v.value) (over rows gs) ≡ map (aggregate rows) gs
values-over [] rows = refl
values-over (g ∷ gs) rows = ap (λ l. aggregate rows g ∷ l) (values-over gs rows)

-- ---- a key of the group part

-- the part of two lists of rows is the merge of the parts of each
pub groups_join : (q : Tree) (xs ys : List (List ℤ)) → group_part q (xs ++ ys) ≡ merge (group_part q xs) (group_part q ys)
groups_join q xs ys = same_map total exact _ _ (λ k.
    get-group_part q (xs ++ ys) k ∙ ap (numbers_if q.aggregates) (filter-append (λ zs. eq_by_cmp key_cmp k (key q.keys zs)) xs ys) ∙ numbers_if-append q.aggregates (rows_of_key q.keys k xs) (rows_of_key q.keys k ys)
    ∙ sym (get-both total join_numbers (group_part q xs) (group_part q ys) k ∙ ap (λ o. join join_numbers o (get (group_part q ys) k)) (get-group_part q xs k) ∙ ap (join join_numbers (numbers_if q.aggregates (rows_of_key q.keys k xs))) (get-group_part q ys k)))

-- ---- its entries

put_keyed : {X : Type 0} (g : List ℤ → X) (k : List ℤ) (ls : List (List ℤ)) → put key_cmp k (g k) (keyed_list g ls) ≡ keyed_list g (with_key k ls)
unfolding with_key
put_keyed g k [] = refl
put_keyed g k (l ∷ ls) =
    elim (key_cmp k l) as (λ r. key_cmp k l ≡ r → by_order r ((k, g k) ∷ (l, g l) ∷ keyed_list g ls) ((l, g k) ∷ keyed_list g ls) ((l, g l) ∷ put key_cmp k (g k) (keyed_list g ls)) ≡ keyed_list g (match_ordering r (k ∷ l ∷ ls) (l ∷ ls) (l ∷ with_key k ls))) [
      | Less ↦ λ e. refl
      | Equal ↦ λ e i. (l, g (exact k l e i)) ∷ keyed_list g ls
      | Greater ↦ λ e i. (l, g l) ∷ put_keyed g k ls i
    ] refl

entries_keyed : {X : Type 0} (g : List ℤ → X) (ks : List (List ℤ)) → entries (from_entries {R = key_cmp} (keyed_list g ks)) ≡ keyed_list g (keys_of ks)
unfolding keys_of
entries_keyed g [] = entries-empty key_cmp
entries_keyed g (k ∷ ks) = entries-insert total (from_entries {R = key_cmp} (keyed_list g ks)) k (g k) ∙ ap (put key_cmp k (g k)) (entries_keyed g ks) ∙ put_keyed g k (keys_of ks)

answered_keyed : (is : List (List Product)) (g : List ℤ → Numbers) (h : List ℤ → List ℤ) → ((k : List ℤ) → answers_of Group is k (g k) ≡ h k) → (ks : List (List ℤ))
    → map (group_answer Group is) (keyed_list g ks) ≡ keyed_list h ks
answered_keyed is g h e [] = refl
answered_keyed is g h e (k ∷ ks) = λ j. (k, e k j) ∷ answered_keyed is g h e ks j

-- the answers in a group part are the groups
pub answers-group_part : (q : Tree) (rows : List (List ℤ)) → map (group_answer Group q.items) (entries (group_part q rows)) ≡ groups q rows
unfolding group_part
answers-group_part q rows =
    let of_key = λ (k : List ℤ). numbers q.aggregates (rows_of_key q.keys k rows) in
    ap (map (group_answer Group q.items)) (entries_keyed of_key (map (key q.keys) rows))
    ∙ answered_keyed q.items of_key (answers q rows)
    (λ k. let us = rows_of_key q.keys k rows in ap (λ zs. items_over q.items (group_row k (length us) zs) []) (values-over q.aggregates us))
    (keys_of (map (key q.keys) rows))

pub group_part-empty : (q : Tree) → group_part q [] ≡ no_part
unfolding group_part
group_part-empty q = refl
