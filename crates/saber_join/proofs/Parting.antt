-- Parts over rows that follow one another have no pair in common.
use Rattle.std.proofs.Common.{◌≡◌, ℕ, zero, suc, ◌-◌, ◌<◌, List, [], ◌∷◌, filter, take, Bool, true, false, cond, nat_le, Option, Some, None, ℤ, refl, sym, ◌∙◌, ap, length-take, arith, subst₂}
use Rattle.std.specs.FinMap.{get, find, get-from_entries, get-empty}
use Rattle.std.specs.FinMap.Entries.{find-where_key}
use Rattle.saber_plan.specs.declared.rows.Row.{Row}
use Rattle.saber_plan.specs.declared.windows.Mark.{Mark}
use Rattle.saber_plan.specs.declared.plans.Shape.TheVariants.{Join}
use Rattle.saber_plan.specs.Trees.{Tree}
use Rattle.saber_plan.specs.Windows.{Placed, place, has, inside, no_rows, placed_after, step_mark}
use Rattle.saber_plan.specs.Answers.{key_cmp, pairs, frame, by_shape, passing_values}
use Rattle.saber_plan.specs.Parts.{Part, Numbers, part, row_part, group_part, pair_numbers, pair_part, later}
use Rattle.saber_plan.specs.GivenRows.{AreNeighbors}
use Rattle.saber_plan.specs.Facts.Lists.{Each, each-filter}
use Rattle.saber_plan.specs.Facts.Parts.{total, exact}
use Rattle.saber_join.specs.Found.{Apart}
use Rattle.saber_join.proofs.Keyed.{not_both}
use Rattle.saber_join.proofs.Holding.{placed_below, pair_part-none}

get-pair_part : (q : Tree) (n : ℕ) (xs : List Placed) (k : List ℤ) → get (pair_part q n xs) k ≡ cond (nat_le n (later k)) (find key_cmp k (pairs q (pair_numbers q) xs)) None
unfolding pair_part
get-pair_part q n xs k = get-from_entries total _ k ∙ find-where_key key_cmp (λ l. nat_le n (later l)) k (λ l e. ap (λ m. nat_le n (later m)) (sym (exact k l e))) (pairs q (pair_numbers q) xs)

late_key : (b : Bool) (o : Option Numbers) (v : Numbers) → cond b o None ≡ Some v → b ≡ true
late_key true o v e = refl
late_key false o v e = absurd (not_both refl e)

always_none : (b : Bool) → cond {A = Option Numbers} b None None ≡ None
always_none true = refl
always_none false = refl

apart : (q : Tree) (x z : ℕ) (us vs : List Placed) → Each (λ r. place r < z) us → Apart (pair_part q x us) (pair_part q z vs)
apart q x z us vs h = record {
  at = λ k v g.
      let late = late_key (nat_le z (later k)) (find key_cmp k (pairs q (pair_numbers q) vs)) v (sym (get-pair_part q z vs k) ∙ g) in
      let out : find key_cmp k (pairs q (pair_numbers q) us) ≡ None = sym (get-pair_part q z us k ∙ ap (λ b. cond b (find key_cmp k (pairs q (pair_numbers q) us)) None) late) ∙ ap (λ p. get p k) (pair_part-none q z us h) ∙ get-empty key_cmp k in
      get-pair_part q x us k ∙ ap (λ o. cond (nat_le x (later k)) o None) out ∙ always_none (nat_le x (later k));
}

-- ---- the parts of windows

take_placed : (m : Mark) (xs : List Row) (y : ℕ) → take y (placed_after m xs) ≡ placed_after m (take y xs)
unfolding placed_after
take_placed m xs zero = refl
take_placed m [] (suc y) = refl
take_placed m (x ∷ xs) (suc y) = ap (λ l. record { row = x; before = m } ∷ l) (take_placed (step_mark m x) xs y)

inside_is : (q : Tree) (i : ℕ) (xs : List Row) (y : ℕ) → inside (frame q) i xs 0 y ≡ filter (has (frame q) i) (placed_after no_rows (take y xs))
inside_is q i xs y = let same : y - 0 ≡ y = omega arith in ap (λ n. filter (has (frame q) i) (take n (placed_after no_rows xs))) same ∙ ap (filter (has (frame q) i)) (take_placed no_rows xs y)

-- a join's part has the pairs of the rows so far
part_of_pairs : (q : Tree) → q.shape ≡ Join → (i : ℕ) (xs : List Row) (x y : ℕ) → part q i xs x y ≡ pair_part q x (filter (has (frame q) i) (placed_after no_rows (take y xs)))
part_of_pairs q e i xs x y = ap (λ s. by_shape s (row_part q (inside (frame q) i xs x y)) (group_part q (passing_values q (inside (frame q) i xs x y))) (pair_part q x (inside (frame q) i xs 0 y))) e ∙ ap (pair_part q x) (inside_is q i xs y)

first_rows : (xs : List Row) (z : ℕ) → Each (λ (r : Placed). place r < z) (placed_after no_rows (take z xs))
first_rows xs z = let few = length-take z xs in placed_below no_rows (take z xs) z (omega (arith, few))

pub neighbors_apart : (q : Tree) → q.shape ≡ Join → (a b : Part) → AreNeighbors q a b → Apart a b
neighbors_apart q e a b n =
    subst₂ Apart (sym (n.first ∙ part_of_pairs q e n.window n.rows n.from n.seam)) (sym (n.second ∙ part_of_pairs q e n.window n.rows n.seam n.to))
    (apart q n.from n.seam _ _ (each-filter _ (has (frame q) n.window) (placed_after no_rows (take n.seam n.rows)) (first_rows n.rows n.seam)))
