-- Facts on what a query gathers and prints.
use Rattle.std.proofs.Common.{◌≡◌, ℕ, zero, suc, ◌+◌, ◌<◌, ◌≤◌, ◌^◌, List, [], ◌∷◌, ◌++◌, length, map, drop, get_or, Contains, Bool, true, false, ◌==◌, cond, Option, Some, None, if◌then◌else◌, refl, sym, ap, ◌∙◌, subst, append_assoc, append-nil, length-append, arith}
use Rattle.std.specs.List.{position, position_from}
use Rattle.std.proofs.lemmas.Bool.Decides.{nat_tests}
use Rattle.std.proofs.lemmas.List.{length-map, drop_all}
use Rattle.std.proofs.lemmas.Iterator.Adapters.{position_from-zero}
use Rattle.saber_plan.specs.declared.plans.Aggregate.{Aggregate}
use Rattle.saber_plan.specs.declared.expressions.Product.{Product}
use Rattle.saber_query.specs.declared.tree.Factor.{Factor}
use Rattle.saber_query.specs.declared.tree.Factor.TheVariants as f
use Rattle.saber_query.specs.declared.tree.Item.{Item}
use Rattle.saber_query.specs.declared.tree.Keys.{Keys}
use Rattle.saber_query.specs.Trees.{Query}
use Rattle.saber_check.specs.declared.outputs.Output.{Output}
use Rattle.saber_check.specs.declared.outputs.Output.TheVariants as out
use Rattle.saber_check.specs.Widths.{span, column_width, item_width, group_width}
use Rattle.saber_check.specs.Faults.{items, is_group, keys}
use Rattle.saber_check.specs.Plans.{plan_place, places, plan_keys, key_place, plan_value, plan_output, gathered_aggregates, printed_numbers, plan_outputs, plan_aggregates, plan_items, Small}
use Rattle.saber_check.proofs.Lemmas.{drop_item}

-- ---- how many there are

span_count : {X : Type 0} (width : X → ℕ) (xs : List X) → length xs ≤ span width xs
span_count width [] = omega arith
span_count width (x ∷ xs) = omega (arith, span_count width xs)

keys_count : (q : Query) (o : Option Keys) → length (places q o) ≤ group_width o
keys_count q None = omega arith
keys_count q (Some g) = omega (arith, length-map (keys g) (plan_place q), span_count column_width g.more)

pub few_keys : (q : Query) → Small q → length (plan_keys q) ≤ 2 ^ 30
few_keys q h = omega (arith, h, keys_count q q.group)

pub few_others : (q : Query) → Small q → length q.items ≤ 2 ^ 30
few_others q h = omega (arith, h, span_count item_width q.items)

gathered_count : (xs : List Output) → length (gathered_aggregates xs) ≤ length xs
gathered_count [] = omega arith
gathered_count (out.Place k ∷ xs) = omega (arith, gathered_count xs)
gathered_count (out.Aggregate g ∷ xs) = omega (arith, gathered_count xs)

printed_count : (n : ℕ) (xs : List Output) → length (printed_numbers n xs) ≡ length xs
printed_count n [] = refl
printed_count n (out.Place k ∷ xs) = ap suc (printed_count n xs)
printed_count n (out.Aggregate g ∷ xs) = ap suc (printed_count (n + 1) xs)

-- as many items are printed as are written
pub items_count : (q : Query) → length (plan_items q) ≡ length (items q)
items_count q = by (is_group q)
  where
    by : (b : Bool) → length (if b then printed_numbers (length (plan_keys q) + 1) (plan_outputs q) else map (plan_value q) (items q)) ≡ length (items q)
    by true = printed_count (length (plan_keys q) + 1) (plan_outputs q) ∙ length-map (items q) (plan_output q)
    by false = length-map (items q) (plan_value q)

pub aggregates_count : (q : Query) → length (plan_aggregates q) ≤ length (items q)
aggregates_count q = by (is_group q)
  where
    by : (b : Bool) → length (if b then gathered_aggregates (plan_outputs q) else []) ≤ length (items q)
    by true = omega (arith, gathered_count (plan_outputs q), length-map (items q) (plan_output q))
    by false = omega arith

-- ---- places among the keys

inside_from : (p : ℕ → Bool) (i j : ℕ) (ks : List ℕ) → position_from p i ks ≡ Some j → j < i + length ks
inside_from p i j [] e = cc
inside_from p i j (k ∷ ks) e = elim (p k) as (λ (b : Bool). cond b (Some i) (position_from p (i + 1) ks) ≡ Some j → j < i + length (k ∷ ks)) [
  | true ↦ λ e. let r : i ≡ j = cc in omega (arith, r)
  | false ↦ λ e. omega (arith, inside_from p (i + 1) j ks e)
] e

none_from : (n i : ℕ) (ks : List ℕ) → position_from (λ k. k == n) i ks ≡ None → ¬ (Contains ks n)
none_from n i [] e (k, h, r) = absurd (omega arith)
none_from n i (x ∷ xs) e (zero, h, r) = grind (arith, nat_tests, r, e)
none_from n i (x ∷ xs) e (suc k, h, r) = elim (x == n) as (λ (b : Bool). ¬ (cond b (Some i) (position_from (λ k. k == n) (i + 1) xs) ≡ None)) [
  | true ↦ λ e. cc
  | false ↦ λ e. none_from n (i + 1) xs e (k, omega arith, r)
] e

place_inside : (n j : ℕ) (ks : List ℕ) → position (λ k. k == n) ks ≡ Some j → j < length ks
place_inside n j ks e = omega (arith, inside_from (λ k. k == n) 0 j ks (sym (position_from-zero (λ k. k == n) ks) ∙ e))

-- a number without a place in a list isn't there
pub no_place : (n : ℕ) (ks : List ℕ) → position (λ k. k == n) ks ≡ None → ¬ (Contains ks n)
no_place n ks e = none_from n 0 ks (sym (position_from-zero (λ k. k == n) ks) ∙ e)

pub key_inside : (q : Query) (x : Factor) (j : ℕ) → key_place q x ≡ Some j → j < length (plan_keys q)
key_inside q (f.Column c) j e = place_inside (plan_place q c) j (plan_keys q) e
key_inside q (f.Number n) j e = cc
key_inside q (f.Negative n) j e = cc

-- ---- the walk over the items

gathered_more : (x : Output) (xs : List Output) → gathered_aggregates (x ∷ xs) ≡ gathered_aggregates (x ∷ []) ++ gathered_aggregates xs
gathered_more (out.Place k) xs = refl
gathered_more (out.Aggregate g) xs = refl

printed_more : (n : ℕ) (x : Output) (xs : List Output) → printed_numbers n (x ∷ xs) ≡ printed_numbers n (x ∷ []) ++ printed_numbers (n + length (gathered_aggregates (x ∷ []))) xs
printed_more n (out.Place k) xs = let r : n ≡ n + 0 = omega arith in ap (λ m. printed_numbers n (out.Place k ∷ []) ++ printed_numbers m xs) r
printed_more n (out.Aggregate g) xs = refl

-- what is there of all outputs, where the rest is to come
pub record Begun (first : ℕ) (gs : List Aggregate) (es : List (List Product)) (rest all : List Output) : Type 0 where
  pub gathered : gs ++ gathered_aggregates rest ≡ gathered_aggregates all
  pub printed : es ++ printed_numbers (first + length gs) rest ≡ printed_numbers first all

begun : (first : ℕ) (all : List Output) → Begun first [] [] all all
begun first all = let r : first + length {A = Aggregate} [] ≡ first = omega arith in record { gathered = refl; printed = ap (λ n. printed_numbers n all) r }

-- one output more
further : (first : ℕ) (gs hs : List Aggregate) (es fs : List (List Product)) (x : Output) (rest all : List Output) → Begun first gs es (x ∷ rest) all →
    hs ≡ gs ++ gathered_aggregates (x ∷ []) → fs ≡ es ++ printed_numbers (first + length gs) (x ∷ []) → Begun first hs fs rest all
further first gs hs es fs x rest all b h k =
    let n = first + length gs in
    let l : first + length hs ≡ n + length (gathered_aggregates (x ∷ [])) = omega (arith, ap length h, length-append gs (gathered_aggregates (x ∷ []))) in
    record {
      gathered =
          ap (λ ys. ys ++ gathered_aggregates rest) h ∙ append_assoc gs (gathered_aggregates (x ∷ [])) (gathered_aggregates rest)
          ∙ ap (λ ys. gs ++ ys) (sym (gathered_more x rest)) ∙ b.gathered;
      printed =
          ap (λ m. fs ++ printed_numbers m rest) l ∙ ap (λ ys. ys ++ printed_numbers (n + length (gathered_aggregates (x ∷ []))) rest) k
          ∙ append_assoc es (printed_numbers n (x ∷ [])) (printed_numbers (n + length (gathered_aggregates (x ∷ []))) rest)
          ∙ ap (λ ys. es ++ ys) (sym (printed_more n x rest)) ∙ b.printed;
    }

-- the outputs of the items before the index are there
pub record Walked (q : Query) (xs : List Item) (i first : ℕ) (gs : List Aggregate) (es : List (List Product)) : Type 0 where
  pub outputs : Begun first gs es (map (plan_output q) (drop i xs)) (plan_outputs q)
  pub few : length gs ≤ i + 1

pub walked_first : (q : Query) (xs : List Item) (first : ℕ) (gs hs : List Aggregate) (es fs : List (List Product)) → xs ≡ q.items → gs ≡ [] → es ≡ [] →
    hs ≡ gs ++ gathered_aggregates (plan_output q q.item ∷ []) → fs ≡ es ++ printed_numbers (first + length gs) (plan_output q q.item ∷ []) → Walked q xs 0 first hs fs
walked_first q xs first gs hs es fs e a b h k =
    let x = plan_output q q.item in
    let h' : hs ≡ [] ++ gathered_aggregates (x ∷ []) = h ∙ ap (λ ys. ys ++ gathered_aggregates (x ∷ [])) a in
    let k' : fs ≡ [] ++ printed_numbers (first + length {A = Aggregate} []) (x ∷ []) = k ∙ ap (λ ys. es ++ printed_numbers (first + length ys) (x ∷ [])) a ∙ ap (λ ys. ys ++ printed_numbers (first + 0) (x ∷ [])) b in
    let w = further first [] hs [] fs x (map (plan_output q) q.items) (plan_outputs q) (begun first (plan_outputs q)) h' k' in
    record { outputs = subst (λ ys. Begun first hs fs (map (plan_output q) ys) (plan_outputs q)) (sym e) w; few = omega (arith, ap length h', gathered_count (x ∷ [])) }

pub walked_next : (q : Query) (xs : List Item) (i first : ℕ) (x : Item) (gs hs : List Aggregate) (es fs : List (List Product)) → i < length xs → x ≡ get_or xs i x → Walked q xs i first gs es →
    hs ≡ gs ++ gathered_aggregates (plan_output q x ∷ []) → fs ≡ es ++ printed_numbers (first + length gs) (plan_output q x ∷ []) → Walked q xs (i + 1) first hs fs
walked_next q xs i first x gs hs es fs l e w h k =
    let o = subst (λ ys. Begun first gs es (map (plan_output q) ys) (plan_outputs q)) (drop_item xs i x l e) w.outputs in
    record {
      outputs = further first gs hs es fs (plan_output q x) (map (plan_output q) (drop (i + 1) xs)) (plan_outputs q) o h k;
      few = omega (arith, ap length h, length-append gs (gathered_aggregates (plan_output q x ∷ [])), gathered_count (plan_output q x ∷ []), w.few);
    }

pub walked_all : (q : Query) (xs : List Item) (i first : ℕ) (gs : List Aggregate) (es : List (List Product)) → length xs ≤ i → Walked q xs i first gs es → (gs ≡ gathered_aggregates (plan_outputs q)) × (es ≡ printed_numbers first (plan_outputs q))
walked_all q xs i first gs es l w =
    let o = subst (λ ys. Begun first gs es (map (plan_output q) ys) (plan_outputs q)) (drop_all i xs l) w.outputs in
    (sym (append-nil gs) ∙ o.gathered, sym (append-nil es) ∙ o.printed)
