-- What a task holds after one more row.
use Rattle.std.proofs.Common.{◌≡◌, ℕ, ◌+◌, ◌≤◌, ◌<◌, max, List, [], ◌∷◌, ◌++◌, map, filter, flat_map, length, Bool, true, false, cond, nat_le, Option, refl, sym, ◌∙◌, ap, subst, append_assoc, take, drop, ℤ, arith}
use Rattle.std.specs.FinMap.{from_entries}
use Rattle.std.specs.List.{AllByRecursion}
use Rattle.std.proofs.lemmas.Bool.{lt-leb}
use Rattle.std.proofs.lemmas.List.{map-append, take-append-drop}
use Rattle.std.proofs.lemmas.List.Elements.{filter-append}
use Rattle.saber_plan.specs.declared.rows.Side.{Side}
use Rattle.saber_plan.specs.declared.rows.Side.TheVariants.{Left, Right}
use Rattle.saber_plan.specs.declared.rows.Row.{Row}
use Rattle.saber_plan.specs.declared.rows.Values.{Values}
use Rattle.saber_plan.specs.declared.windows.Mark.{Mark}
use Rattle.saber_plan.specs.Trees.{Tree}
use Rattle.saber_plan.specs.Values.{passes}
use Rattle.saber_plan.specs.Windows.{Frame, Placed, place, by_side, step_mark, mark_after, placed_after}
use Rattle.saber_plan.specs.GivenRows.{IsRowOf, RowsFit}
use Rattle.saber_plan.specs.Answers.{key_cmp, is_left, is_right, pairs_with, pairs}
use Rattle.saber_plan.specs.Parts.{Numbers, no_part, pair_numbers, pair_part, later}
use Rattle.saber_plan.specs.Facts.Lists.{Each, each-filter, each-map, each-weaker, dropped}
use Rattle.saber_plan.specs.Facts.Rows.{placed-append, placed-one, fits_front}
use Rattle.saber_laws.specs.Pairs.{after_rows}
use Rattle.saber_join.specs.Rows.{IsOn, AllOn}
use Rattle.saber_join.specs.Shelves.{Card, card_of}
use Rattle.saber_join.specs.Ties.{Ends}
use Rattle.saber_join.specs.Keeping.{lies_from, cards_of, lefts_of, rights_of}
use Rattle.saber_laws.proofs.CutLaws.{no_rows_no_part}

pub placed_push : (m : Mark) (xs : List Row) (r : Row) → placed_after m (xs ++ r ∷ []) ≡ placed_after m xs ++ after_rows m xs r ∷ []
placed_push m xs r = placed-append m xs (r ∷ []) ∙ ap (λ l. placed_after m xs ++ l) (placed-one (mark_after m xs) r)

-- ---- the cards of one row more

cards_append : (f : Frame) (t : Option Ends) (c : ℕ) (us vs : List Placed) → cards_of f t c (us ++ vs) ≡ cards_of f t c us ++ cards_of f t c vs
cards_append f t c us vs = ap (map (card_of f t c)) (filter-append (lies_from f c) us vs) ∙ map-append (card_of f t c) (filter (lies_from f c) us) (filter (lies_from f c) vs)

pub lefts_append : (f : Frame) (t : Option Ends) (c : ℕ) (us vs : List Placed) → lefts_of f t c (us ++ vs) ≡ lefts_of f t c us ++ lefts_of f t c vs
lefts_append f t c us vs = ap (cards_of f t c) (filter-append is_left us vs) ∙ cards_append f t c (filter is_left us) (filter is_left vs)

pub rights_append : (f : Frame) (t : Option Ends) (c : ℕ) (us vs : List Placed) → rights_of f t c (us ++ vs) ≡ rights_of f t c us ++ rights_of f t c vs
rights_append f t c us vs = ap (cards_of f t c) (filter-append is_right us vs) ∙ cards_append f t c (filter is_right us) (filter is_right vs)

-- ---- those of a loop over rows

pub each-append : {B : Type 0} (P : B → Type 0) (xs ys : List B) → Each P xs → Each P ys → Each P (xs ++ ys)
each-append P [] ys g h = h
each-append P (x ∷ xs) ys g h = (g.0, each-append P xs ys g.1 h)

-- no rows leave no card
pub no_lefts : (f : Frame) (t : Option Ends) (c : ℕ) (b : Mark) → lefts_of f t c (placed_after b []) ≡ []
unfolding placed_after
no_lefts f t c b = refl

pub no_rights : (f : Frame) (t : Option Ends) (c : ℕ) (b : Mark) → rights_of f t c (placed_after b []) ≡ []
unfolding placed_after
no_rights f t c b = refl

module _ (f : Frame) (t : Option Ends) (c : ℕ) (b : Mark) (xs ys : List Row) (r : Row) (mark : Mark) (is : mark ≡ mark_after b xs) (more : ys ≡ xs ++ r ∷ []) (start old new : List Card) where
  pub lefts_push : old ≡ start ++ lefts_of f t c (placed_after b xs) → new ≡ old ++ lefts_of f t c (record { row = r; before = mark } ∷ []) → new ≡ start ++ lefts_of f t c (placed_after b ys)
  lefts_push e g =
      g ∙ (λ j. e j ++ lefts_of f t c (record { row = r; before = is j } ∷ []))
      ∙ append_assoc start (lefts_of f t c (placed_after b xs)) (lefts_of f t c (after_rows b xs r ∷ []))
      ∙ ap (λ l. start ++ l) (sym (lefts_append f t c (placed_after b xs) (after_rows b xs r ∷ [])) ∙ ap (lefts_of f t c) (sym (placed_push b xs r)) ∙ ap (λ l. lefts_of f t c (placed_after b l)) (sym more))

  pub rights_push : old ≡ start ++ rights_of f t c (placed_after b xs) → new ≡ old ++ rights_of f t c (record { row = r; before = mark } ∷ []) → new ≡ start ++ rights_of f t c (placed_after b ys)
  rights_push e g =
      g ∙ (λ j. e j ++ rights_of f t c (record { row = r; before = is j } ∷ []))
      ∙ append_assoc start (rights_of f t c (placed_after b xs)) (rights_of f t c (after_rows b xs r ∷ []))
      ∙ ap (λ l. start ++ l) (sym (rights_append f t c (placed_after b xs) (after_rows b xs r ∷ [])) ∙ ap (rights_of f t c) (sym (placed_push b xs r)) ∙ ap (λ l. rights_of f t c (placed_after b l)) (sym more))

-- the rows so far fit
pub fits_so_far : (q : Tree) (b : Mark) (back rows : List Row) (k : ℕ) → RowsFit q b (back ++ rows) → RowsFit q b (back ++ take k rows)
fits_so_far q b back rows k h = fits_front q b (back ++ take k rows) (drop k rows) (subst (RowsFit q b) (sym (append_assoc back (take k rows) (drop k rows) ∙ ap (λ l. back ++ l) (take-append-drop k rows))) h)

-- ---- they are rows of their sides

filter_on : (P : Placed → Type 0) (p : Placed → Bool) (us : List Placed) → AllByRecursion P us → AllByRecursion P (filter p us)
filter_on P p [] h = tt
filter_on P p (u ∷ us) h = elim (p u) as (λ b. AllByRecursion P (cond b (u ∷ filter p us) (filter p us))) [ true ↦ (h.0, filter_on P p us h.1) | false ↦ filter_on P p us h.1 ]

cards_on : (q : Tree) (s : Side) (f : Frame) (t : Option Ends) (c : ℕ) (us : List Placed) → AllByRecursion (λ (x : Placed). IsOn q s x.row) us → AllOn q s (map (card_of f t c) us)
cards_on q s f t c [] h = tt
cards_on q s f t c (u ∷ us) h = (h.0, cards_on q s f t c us h.1)

is_on_left : (s : Side) → by_side s true false ≡ true → s ≡ Left
is_on_left Left e = refl
is_on_left Right e = cc

is_on_right : (s : Side) → by_side s false true ≡ true → s ≡ Right
is_on_right Left e = cc
is_on_right Right e = refl

side_on : (q : Tree) (s : Side) (p : Placed → Bool) → ((x : Placed) → p x ≡ true → x.row.side ≡ s) → (us : List Placed) → AllByRecursion (λ (x : Placed). IsRowOf q x.row) us → AllByRecursion (λ (x : Placed). IsOn q s x.row) (filter p us)
side_on q s p w [] h = tt
side_on q s p w (u ∷ us) h = elim (p u) as (λ b. p u ≡ b → AllByRecursion (λ (x : Placed). IsOn q s x.row) (cond b (u ∷ filter p us) (filter p us))) [ true ↦ λ e. (record { row = h.0; side = w u e }, side_on q s p w us h.1) | false ↦ λ e. side_on q s p w us h.1 ] refl

placed_rows : (q : Tree) (m : Mark) (xs : List Row) → AllByRecursion (IsRowOf q) xs → AllByRecursion (λ (x : Placed). IsRowOf q x.row) (placed_after m xs)
unfolding placed_after
placed_rows q m [] h = tt
placed_rows q m (x ∷ xs) h = (h.0, placed_rows q (step_mark m x) xs h.1)

pub lefts_on : (q : Tree) (f : Frame) (t : Option Ends) (c : ℕ) (m : Mark) (xs : List Row) → RowsFit q m xs → AllOn q Left (lefts_of f t c (placed_after m xs))
lefts_on q f t c m xs h = cards_on q Left f t c _ (filter_on _ (lies_from f c) _ (side_on q Left is_left (λ x e. is_on_left x.row.side e) (placed_after m xs) (placed_rows q m xs h.rows)))

pub rights_on : (q : Tree) (f : Frame) (t : Option Ends) (c : ℕ) (m : Mark) (xs : List Row) → RowsFit q m xs → AllOn q Right (rights_of f t c (placed_after m xs))
rights_on q f t c m xs h = cards_on q Right f t c _ (filter_on _ (lies_from f c) _ (side_on q Right is_right (λ x e. is_on_right x.row.side e) (placed_after m xs) (placed_rows q m xs h.rows)))

-- ---- rows that are looked back on make no pairs

abbrev pub behind : Mark → ℕ
behind m = m.left + m.right

behind_step : (m : Mark) (s : Side) (v : Values) → behind (step_mark m (record { side = s; values = v })) ≡ behind m + 1
behind_step m Left v = omega arith
behind_step m Right v = omega arith

pub behind_after : (m : Mark) (xs : List Row) → behind (mark_after m xs) ≡ behind m + length xs
behind_after m [] = omega arith
behind_after m (x ∷ xs) = let one = behind_step m x.side x.values in let rest = behind_after (step_mark m x) xs in omega arith

pub placed_below : (m : Mark) (xs : List Row) (n : ℕ) → behind m + length xs ≤ n → Each (λ x. place x < n) (placed_after m xs)
unfolding placed_after
placed_below m [] n h = tt
placed_below m (x ∷ xs) n h = (omega arith, let one = behind_step m x.side x.values in placed_below (step_mark m x) xs n (omega arith))

abbrev late : ℕ → List ℤ × Numbers → Bool
late n e = nat_le n (later e.0)

late_neither : (n a b : ℕ) → a < n → b < n → nat_le n (max (max 0 a) b) ≡ false
late_neither n a b g h = lt-leb _ _ (omega arith)

none_late : (q : Tree) (n : ℕ) (x : Placed) (ys : List Placed) → place x < n → Each (λ y. place y < n) ys → Each (λ e. late n e ≡ false) (pairs_with q (pair_numbers q) x ys)
none_late q n x ys g h = each-map _ _ _ (each-filter _ (λ y. passes q.predicate x.row.values y.row.values) ys (each-weaker _ _ (λ y. late_neither n (place x) (place y) g) ys h))

pub each-flat_map : {A B : Type 0} (P : B → Type 0) (f : A → List B) (xs : List A) → Each (λ x. Each P (f x)) xs → Each P (flat_map f xs)
each-flat_map P f [] h = tt
each-flat_map P f (x ∷ xs) h = each-append P (f x) (flat_map f xs) h.0 (each-flat_map P f xs h.1)

pub pair_part-none : (q : Tree) (n : ℕ) (us : List Placed) → Each (λ r. place r < n) us → pair_part q n us ≡ no_part
unfolding pair_part
pair_part-none q n us h =
    ap (λ l. from_entries {R = key_cmp} l) (dropped (late n) (pairs q (pair_numbers q) us) (each-flat_map (λ e. late n e ≡ false) _ (filter is_left us) (each-weaker _ _ (λ x p. none_late q n x (filter is_right us) p (each-filter _ is_right us h)) (filter is_left us) (each-filter _ is_left us h))))
    ∙ (no_rows_no_part q).of_pairs n
