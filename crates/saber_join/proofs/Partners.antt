-- The rows with a row's key are all that it can be paired with.
use Rattle.std.proofs.Common.{◌≡◌, ℕ, ◌≤◌, max, List, [], ◌∷◌, ◌++◌, map, filter, flat_map, Bool, true, false, cond, ◌&&◌, nat_le, nat_lt, ℤ, pos, Option, refl, sym, ◌∙◌, ap, arith}
use Rattle.std.proofs.lemmas.Bool.Decides.{nat_tests, Decides-int_eq}
use Rattle.std.specs.Ordering.{int_eq}
use Rattle.saber_plan.specs.declared.rows.Side.{Side}
use Rattle.saber_plan.specs.declared.rows.Side.TheVariants.{Left, Right}
use Rattle.saber_plan.specs.declared.rows.Values.{Values}
use Rattle.saber_plan.specs.declared.windows.Mark.{Mark}
use Rattle.saber_plan.specs.Trees.{Tree}
use Rattle.saber_plan.specs.Values.{passes}
use Rattle.saber_plan.specs.Windows.{Frame, Fits, Placed, place, has, by_side}
use Rattle.saber_plan.specs.Needs.{first_window, past_window}
use Rattle.saber_plan.specs.Answers.{is_left, is_right, pair_key, pairs_with, frame}
use Rattle.saber_plan.specs.Parts.{Part, Numbers, pair_numbers}
use Rattle.saber_plan.specs.Pairing.{row_pairs, with_entries}
use Rattle.saber_plan.specs.Facts.Lists.{Each, each-all}
use Rattle.saber_join.specs.Standing.{standing_row}
use Rattle.saber_join.specs.Shelves.{Card, card_of, meets}
use Rattle.saber_join.specs.Ties.{Ends, CanTie, key_in}
use Rattle.saber_join.specs.Keeping.{lies_from, cards_of, lefts_of, rights_of}
use Rattle.saber_join.specs.Adding.{with_rights, with_lefts}
use Rattle.saber_join.specs.Open.{lies_in, rows_in, meeting_part}
use Rattle.saber_join.proofs.Tying.{one_key}
use Rattle.saber_laws.proofs.NeedLaws.{rows_span}

-- ---- filters of filters

filter_case : {X : Type 0} (p : X → Bool) (y : X) (us vs : List X) (b : Bool) → (b ≡ false → p y ≡ false) → filter p us ≡ filter p vs → filter p (cond b (y ∷ us) us) ≡ filter p (y ∷ vs)
filter_case p y us vs true h e = ap (λ l. cond (p y) (y ∷ l) l) e
filter_case p y us vs false h e = e ∙ sym (ap (λ b. cond b (y ∷ filter p vs) (filter p vs)) (h refl))

-- those that fail the second fail the first
filter_key : {X : Type 0} (p same : X → Bool) (ys : List X) → Each (λ y. same y ≡ false → p y ≡ false) ys → filter p (filter same ys) ≡ filter p ys
filter_key p same [] h = refl
filter_key p same (y ∷ ys) h = filter_case p y (filter same ys) ys (same y) h.0 (filter_key p same ys h.1)

flat_case : {X : Type 0} (f : Placed → List X) (y : Placed) (us vs : List Placed) (b : Bool) → (b ≡ false → f y ≡ []) → flat_map f us ≡ flat_map f vs → flat_map f (cond b (y ∷ us) us) ≡ flat_map f (y ∷ vs)
flat_case f y us vs true h e = ap (λ l. f y ++ l) e
flat_case f y us vs false h e = e ∙ sym (ap (λ l. l ++ flat_map f vs) (h refl))

flat_key : {X : Type 0} (f : Placed → List X) (same : Placed → Bool) (ys : List Placed) → Each (λ y. same y ≡ false → f y ≡ []) ys → flat_map f (filter same ys) ≡ flat_map f ys
flat_key f same [] h = refl
flat_key f same (y ∷ ys) h = flat_case f y (filter same ys) ys (same y) h.0 (flat_key f same ys h.1)

swap_case : {X : Type 0} (p r : X → Bool) (y : X) (us vs : List X) (a b : Bool) → p y ≡ a → r y ≡ b → filter p us ≡ filter r vs → filter p (cond b (y ∷ us) us) ≡ filter r (cond a (y ∷ vs) vs)
swap_case p r y us vs true true e f h = ap (λ t. cond t (y ∷ filter p us) (filter p us)) e ∙ ap (λ l. y ∷ l) h ∙ sym (ap (λ t. cond t (y ∷ filter r vs) (filter r vs)) f)
swap_case p r y us vs true false e f h = h ∙ sym (ap (λ t. cond t (y ∷ filter r vs) (filter r vs)) f)
swap_case p r y us vs false true e f h = ap (λ t. cond t (y ∷ filter p us) (filter p us)) e ∙ h
swap_case p r y us vs false false e f h = h

-- the order of two tests doesn't matter
filter_swap : {X : Type 0} (p r : X → Bool) (ys : List X) → filter p (filter r ys) ≡ filter r (filter p ys)
filter_swap p r [] = refl
filter_swap p r (y ∷ ys) = swap_case p r y (filter r ys) (filter p ys) (p y) (r y) refl refl (filter_swap p r ys)

skip_case : {X : Type 0} (p : X → Bool) (y : X) (us : List X) (b : Bool) → p y ≡ false → filter p (cond b (y ∷ us) us) ≡ filter p us
skip_case p y us true e = ap (λ t. cond t (y ∷ filter p us) (filter p us)) e
skip_case p y us false e = refl

keep_case : {X : Type 0} (p : X → Bool) (y : X) (us vs : List X) (b : Bool) → filter p us ≡ filter p vs → filter p (cond b (y ∷ us) us) ≡ filter p (cond b (y ∷ vs) vs)
keep_case p y us vs true h = ap (λ l. cond (p y) (y ∷ l) l) h
keep_case p y us vs false h = h

like_case : {X : Type 0} (p : X → Bool) (y : X) (us vs : List X) (a b c : Bool) → p y ≡ a → (a ≡ true → b ≡ c) → filter p us ≡ filter p vs → filter p (cond b (y ∷ us) us) ≡ filter p (cond c (y ∷ vs) vs)
like_case p y us vs true b c e g h = ap (λ t. filter p (cond t (y ∷ us) us)) (g refl) ∙ keep_case p y us vs c h
like_case p y us vs false b c e g h = skip_case p y us b e ∙ h ∙ sym (skip_case p y vs c e)

-- nor do tests that agree where the first is passed
filter_like : {X : Type 0} (p r s : X → Bool) → ((y : X) → p y ≡ true → r y ≡ s y) → (ys : List X) → filter p (filter r ys) ≡ filter p (filter s ys)
filter_like p r s h [] = refl
filter_like p r s h (y ∷ ys) = like_case p y (filter r ys) (filter s ys) (p y) (r y) (s y) refl (h y) (filter_like p r s h ys)

map_case : {X Y : Type 0} (f : X → Y) (y : X) (us : List Y) (vs : List X) (b : Bool) → us ≡ map f vs → cond b (f y ∷ us) us ≡ map f (cond b (y ∷ vs) vs)
map_case f y us vs true h = ap (λ l. f y ∷ l) h
map_case f y us vs false h = h

filter_map : {X Y : Type 0} (p : Y → Bool) (f : X → Y) (ys : List X) → filter p (map f ys) ≡ map f (filter (λ x. p (f x)) ys)
filter_map p f [] = refl
filter_map p f (y ∷ ys) = map_case f y (filter p (map f ys)) (filter (λ x. p (f x)) ys) (p (f y)) (filter_map p f ys)

map_map : {X Y Z : Type 0} (f : Y → Z) (g : X → Y) (ys : List X) → map f (map g ys) ≡ map (λ x. f (g x)) ys
map_map f g [] = refl
map_map f g (y ∷ ys) = ap (λ l. f (g y) ∷ l) (map_map f g ys)

-- ---- the cards that a row meets, in a window that has it

abbrev has_key : Option Ends → ℤ → Placed → Bool
has_key t z y = int_eq (key_in t y.row) z

in_case : (first c past i : ℕ) → c ≤ i → (nat_le (max first c) i && nat_lt i past) ≡ (nat_le first i && nat_lt i past)
in_case first c past i h = grind (arith, nat_tests)

meets_case : (b : Bool) (first past low i : ℕ) → low ≤ i → (nat_le first i && nat_lt i past) ≡ true → (b && nat_lt low past) ≡ b
meets_case true first past low i l h = grind (arith, nat_tests)
meets_case false first past low i l h = refl

from_case : (first c past i : ℕ) → c ≤ i → nat_lt (max first c) past ≡ false → (nat_le first i && nat_lt i past) ≡ false
from_case first c past i h e = grind (arith, nat_tests)

module _ (f : Frame) (fits : Fits f) (t : Option Ends) (c i : ℕ) (up : c ≤ i) (k : ℤ) (low : ℕ) (far : low ≤ i) where
  abbrev at : Placed → Card
  at x = card_of f t c x

  lies : (x : Placed) → lies_in i (at x) ≡ has f i x
  lies x = in_case (first_window f x) c (past_window f x) i up ∙ sym (rows_span f fits i x)

  alike : (x : Placed) → has f i x ≡ true → meets k low (at x) ≡ has_key t k x
  alike x h = meets_case (int_eq (key_in t x.row) k) (first_window f x) (past_window f x) low i far (sym (rows_span f fits i x) ∙ h)

  from_there : (x : Placed) → lies_from f c x ≡ false → has f i x ≡ false
  from_there x e = rows_span f fits i x ∙ from_case (first_window f x) c (past_window f x) i up e

  pub near : (vs : List Placed) → rows_in i (filter (meets k low) (cards_of f t c vs)) ≡ map standing_row (filter (has_key t k) (filter (has f i) vs))
  near vs =
      let zs = filter (lies_from f c) vs in
      let seen = map (λ (e : Card). e.seen) in
      ap (λ es. seen (filter (lies_in i) es)) (filter_map (meets k low) at zs)
      ∙ ap seen (filter_map (lies_in i) at (filter (λ x. meets k low (at x)) zs))
      ∙ map_map (λ (e : Card). e.seen) at (filter (λ x. lies_in i (at x)) (filter (λ x. meets k low (at x)) zs))
      ∙ (λ j. map standing_row (filter (λ x. lies x j) (filter (λ x. meets k low (at x)) zs)))
      ∙ ap (map standing_row) (filter_like (has f i) (λ x. meets k low (at x)) (has_key t k) alike zs
      ∙ filter_swap (has f i) (has_key t k) zs
      ∙ ap (filter (has_key t k)) (filter_key (has f i) (lies_from f c) vs (each-all _ from_there vs)))

-- ---- a standing row makes the pairs of the row

abbrev entry_by : Tree → Placed → Placed → Placed → List ℤ × Numbers
entry_by q z x y = (pair_key z y, pair_numbers q x y)

place_stands : (x : Placed) → place (standing_row x) ≡ place x
place_stands x = omega arith

stand_case : (q : Tree) (x y : Placed) (us : List Placed) (vs : List Placed) (b : Bool) → map (entry_by q (standing_row x) x) us ≡ map (entry_by q x x) vs
    → map (entry_by q (standing_row x) x) (cond b (standing_row y ∷ us) us) ≡ map (entry_by q x x) (cond b (y ∷ vs) vs)
stand_case q x y us vs true h = λ j. (pos (place_stands x j) ∷ pos (place_stands y j) ∷ [], pair_numbers q x y) ∷ h j
stand_case q x y us vs false h = h

stand_pairs : (q : Tree) (x : Placed) (ys : List Placed) → pairs_with q (pair_numbers q) (standing_row x) (map standing_row ys) ≡ pairs_with q (pair_numbers q) x ys
stand_pairs q x [] = refl
stand_pairs q x (y ∷ ys) = stand_case q x y (filter (λ y. passes q.predicate x.row.values y.row.values) (map standing_row ys)) (filter (λ y. passes q.predicate x.row.values y.row.values) ys) (passes q.predicate x.row.values y.row.values) (stand_pairs q x ys)

stand_lefts : (q : Tree) (y : Placed) (xs : List Placed) → flat_map (λ x. pairs_with q (pair_numbers q) x (standing_row y ∷ [])) (map standing_row xs) ≡ flat_map (λ x. pairs_with q (pair_numbers q) x (y ∷ [])) xs
stand_lefts q y [] = refl
stand_lefts q y (x ∷ xs) = λ j. stand_pairs q x (y ∷ []) j ++ stand_lefts q y xs j

-- ---- the others make no pair

is_on_left : (s : Side) → by_side s true false ≡ true → s ≡ Left
is_on_left Left e = refl
is_on_left Right e = cc

is_on_right : (s : Side) → by_side s false true ≡ true → s ≡ Right
is_on_right Left e = cc
is_on_right Right e = refl

each_kept : (p : Placed → Bool) (P : Placed → Type 0) → ((y : Placed) → p y ≡ true → P y) → (ys : List Placed) → Each P (filter p ys)
each_kept p P h [] = tt
each_kept p P h (y ∷ ys) = elim (p y) as (λ b. p y ≡ b → Each P (cond b (y ∷ filter p ys) (filter p ys))) [ true ↦ λ e. (h y e, each_kept p P h ys) | false ↦ λ e. each_kept p P h ys ] refl

not_true : (b c : Bool) → (b ≡ true → c ≡ true) → c ≡ false → b ≡ false
not_true true c h e = absurd (let t = h refl in cc)
not_true false c h e = refl

module _ (q : Tree) (t : Option Ends) (tie : CanTie q.predicate t) where
  none_left : (x y : Placed) → x.row.side ≡ Left → y.row.side ≡ Right → has_key t (key_in t x.row) y ≡ false → passes q.predicate x.row.values y.row.values ≡ false
  none_left x y a b = not_true _ _ (λ h. (Decides-int_eq (key_in t y.row) (key_in t x.row)).1 (sym (one_key q.predicate t tie x.row y.row a b h)))

  none_right : (x y : Placed) → x.row.side ≡ Left → y.row.side ≡ Right → has_key t (key_in t y.row) x ≡ false → passes q.predicate x.row.values y.row.values ≡ false
  none_right x y a b = not_true _ _ (λ h. (Decides-int_eq (key_in t x.row) (key_in t y.row)).1 (one_key q.predicate t tie x.row y.row a b h))

  module _ (fits : Fits (frame q)) (c i : ℕ) (up : c ≤ i) (low : ℕ) (far : low ≤ i) where
    -- what a row is paired with in a window that has it: the rows of the other side there
    side_case : (s : Side) (v : Values) (m : Mark) (p : Part) (us : List Placed) → (let x : Placed = record { row = record { side = s; values = v }; before = m } in
        let near = filter (meets (key_in t x.row) low) in
        meeting_part q (standing_row x) (near (lefts_of (frame q) t c us)) (near (rights_of (frame q) t c us)) i p
        ≡ (let ys = filter (has (frame q) i) us in with_entries p (row_pairs q x (filter is_left ys) (filter is_right ys))))
    unfolding with_rights with_lefts
    side_case Left v m p us =
        let x : Placed = record { row = record { side = Left; values = v }; before = m } in
        let k = key_in t x.row in
        let ys = filter (has (frame q) i) us in
        ap (with_entries p) (ap (pairs_with q (pair_numbers q) (standing_row x)) (near (frame q) fits t c i up k low far (filter is_right us))
        ∙ stand_pairs q x (filter (has_key t k) (filter (has (frame q) i) (filter is_right us)))
        ∙ ap (λ l. pairs_with q (pair_numbers q) x (filter (has_key t k) l)) (filter_swap (has (frame q) i) is_right us)
        ∙ ap (map (entry_by q x x)) (filter_key (λ y. passes q.predicate v y.row.values) (has_key t k) (filter is_right ys) (each_kept is_right _ (λ y e. none_left x y refl (is_on_right y.row.side e)) ys)))
    side_case Right v m p us =
        let x : Placed = record { row = record { side = Right; values = v }; before = m } in
        let k = key_in t x.row in
        let ys = filter (has (frame q) i) us in
        let g = λ (y : Placed). pairs_with q (pair_numbers q) y (x ∷ []) in
        ap (with_entries p) (ap (flat_map (λ y. pairs_with q (pair_numbers q) y (standing_row x ∷ []))) (near (frame q) fits t c i up k low far (filter is_left us))
        ∙ stand_lefts q x (filter (has_key t k) (filter (has (frame q) i) (filter is_left us)))
        ∙ ap (λ l. flat_map g (filter (has_key t k) l)) (filter_swap (has (frame q) i) is_left us)
        ∙ flat_key g (has_key t k) (filter is_left ys) (each_kept is_left _ (λ y e l. ap (λ b. map (entry_by q y y) (cond b (x ∷ []) [])) (none_right y x (is_on_left y.row.side e) refl l)) ys))

    pub partners_met : (x : Placed) (p : Part) (us : List Placed) → (let near = filter (meets (key_in t x.row) low) in
        meeting_part q (standing_row x) (near (lefts_of (frame q) t c us)) (near (rights_of (frame q) t c us)) i p
        ≡ (let ys = filter (has (frame q) i) us in with_entries p (row_pairs q x (filter is_left ys) (filter is_right ys))))
    partners_met x p us = side_case x.row.side x.row.values x.before p us
