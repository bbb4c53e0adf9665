-- A window is its panes, merged in order.
use Rattle.std.proofs.Common.{◌≡◌, ℕ, zero, suc, ◌+◌, ◌≤◌, ◌<◌, List, [], ◌∷◌, ◌++◌, filter, fold, Bool, true, false, cond, ◌&&◌, ◌||◌, ◌==◌, nat_le, nat_lt, refl, sym, ◌∙◌, ap, ap₂, arith}
use Rattle.std.proofs.lemmas.Bool.{both_ways}
use Rattle.std.proofs.lemmas.Bool.Decides.{nat_tests}
use Rattle.std.proofs.lemmas.List.{map-append}
use Rattle.std.specs.FinMap.{get}
use Rattle.saber_plan.specs.Trees.{Tree}
use Rattle.saber_plan.specs.Windows.{Placed, from}
use Rattle.saber_plan.specs.Answers.{frame}
use Rattle.saber_plan.specs.Facts.Lists.{Each, each-filter, each-weaker, dropped}
use Rattle.saber_plan.specs.Parts.{Part, no_part, group_part, merge}
use Rattle.saber_plan.specs.Tasks.{Parts}
use Rattle.saber_panes.specs.Panes.{panes_in, pane_of, in_pane, or_none, merged_panes}
use Rattle.saber_panes.proofs.PaneRows.{pane_or_none, values_in}
use Rattle.saber_laws.proofs.PartLaws.{groups_join, merge_is_associative}
use Rattle.saber_plan.specs.Facts.Parts.{merge-empty_left, merge-empty_right}

-- ---- panes in a row

-- merged behind something, they are merged with it
pub merged_behind : (m : Parts) (a : Part) (js : List ℕ) → fold (λ p j. merge p (or_none (get m j))) a js ≡ merge a (merged_panes m js)
merged_behind m a [] = sym (merge-empty_right a)
merged_behind m a (j ∷ js) =
    let p = or_none (get m j) in
    merged_behind m (merge a p) js ∙ merge_is_associative a p (merged_panes m js)
    ∙ ap (merge a) (sym (merged_behind m (merge no_part p) js ∙ ap (λ x. merge x (merged_panes m js)) (merge-empty_left p)))

pub merged_first : (m : Parts) (j : ℕ) (js : List ℕ) → merged_panes m (j ∷ js) ≡ merge (or_none (get m j)) (merged_panes m js)
merged_first m j js = merged_behind m (merge no_part (or_none (get m j))) js ∙ ap (λ x. merge x (merged_panes m js)) (merge-empty_left (or_none (get m j)))

-- ---- rows whose panes don't fall

module _ {X : Type 0} (p : X → ℕ) where
  abbrev pub Rises : List X → Type 0
  Rises [] = Unit {0}
  Rises (x ∷ xs) = Each (λ y. p x ≤ p y) xs × Rises xs

  -- those of the panes from a on, n of them
  abbrev pub within : ℕ → ℕ → X → Bool
  within a n x = nat_le a (p x) && nat_lt (p x) (a + n)

  pub rises-filter : (t : X → Bool) (xs : List X) → Rises xs → Rises (filter t xs)
  rises-filter t [] h = tt
  rises-filter t (x ∷ xs) h = elim (t x) as (λ b. Rises (cond b (x ∷ filter t xs) (filter t xs))) [ true ↦ (each-filter (λ y. p x ≤ p y) t xs h.0, rises-filter t xs h.1) | false ↦ rises-filter t xs h.1 ]

  -- none of no panes
  pub none_within : (a : ℕ) (xs : List X) → filter (within a 0) xs ≡ []
  none_within a [] = refl
  none_within a (x ∷ xs) = (let none : within a 0 x ≡ false = grind (arith, nat_tests) in ap (λ b. cond b (x ∷ filter (within a 0) xs) (filter (within a 0) xs)) none) ∙ none_within a xs

  split_case : (x : X) (l k r : List X) (t u : Bool) → (t ≡ true → u ≡ false) → (u ≡ true → k ≡ []) → l ≡ k ++ r → cond (t || u) (x ∷ l) l ≡ cond t (x ∷ k) k ++ cond u (x ∷ r) r
  split_case x l k r true true n e h = absurd (both_ways true (n refl) refl)
  split_case x l k r true false n e h = ap (λ z. x ∷ z) h
  split_case x l k r false true n e h = ap (λ z. x ∷ z) (h ∙ ap (λ z. z ++ r) (e refl)) ∙ sym (ap (λ z. z ++ x ∷ r) (e refl))
  split_case x l k r false false n e h = h

  none_here : (a : ℕ) (x : X) (xs : List X) → Each (λ y. p x ≤ p y) xs → within (a + 1) 0 x ≡ within (a + 1) 0 x → a < p x → filter (λ y. a == p y) xs ≡ []
  none_here a x xs h r l = dropped (λ y. a == p y) xs (each-weaker (λ y. p x ≤ p y) (λ y. (a == p y) ≡ false) (λ y g. grind (arith, nat_tests)) xs h)

  -- those of the first pane stand before those of the others
  pub split_within : (a n : ℕ) (xs : List X) → Rises xs → filter (within a (suc n)) xs ≡ filter (λ x. a == p x) xs ++ filter (within (a + 1) n) xs
  split_within a n [] h = refl
  split_within a n (x ∷ xs) h =
      let both_tests : within a (suc n) x ≡ ((a == p x) || within (a + 1) n x) = grind (arith, nat_tests) in
      ap (λ b. cond b (x ∷ filter (within a (suc n)) xs) (filter (within a (suc n)) xs)) both_tests
      ∙ split_case x (filter (within a (suc n)) xs) (filter (λ x. a == p x) xs) (filter (within (a + 1) n) xs) (a == p x) (within (a + 1) n x) (λ e. grind (arith, nat_tests)) (λ e. none_here a x xs h.0 refl (grind (arith, nat_tests))) (split_within a n xs h.1)

-- the panes of such rows, merged, are the groups of those that lie in them
pub window_rows : (q : Tree) → group_part q [] ≡ no_part → (us : List Placed) → Rises (pane_of (frame q)) us → (a n : ℕ)
    → merged_panes (panes_in q us) (from a n) ≡ group_part q (values_in (filter (within (pane_of (frame q)) a n) us))
unfolding from
window_rows q none us h a zero = sym none ∙ ap (λ l. group_part q (values_in l)) (sym (none_within (pane_of (frame q)) a us))
window_rows q none us h a (suc n) =
    let rest = filter (within (pane_of (frame q)) (a + 1) n) us in
    merged_first (panes_in q us) a (from (a + 1) n)
    ∙ ap₂ merge (pane_or_none q none us a) (window_rows q none us h (a + 1) n)
    ∙ sym (groups_join q (values_in (in_pane q a us)) (values_in rest))
    ∙ ap (group_part q) (sym (map-append (λ (x : Placed). x.row.values) (in_pane q a us) rest))
    ∙ ap (λ l. group_part q (values_in l)) (sym (split_within (pane_of (frame q)) a n us h))
