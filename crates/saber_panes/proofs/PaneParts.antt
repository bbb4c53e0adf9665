-- The merge of a window's panes is its part.
use Rattle.std.proofs.Common.{◌≡◌, ℕ, ◌-◌, ◌*◌, ◌/◌, ◌≤◌, List, [], filter, length, slice_range, Bool, true, false, ◌&&◌, nat_le, nat_lt, refl, sym, ◌∙◌, ap, ap₂, subst, arith}
use Rattle.std.proofs.lemmas.Bool.Decides.{nat_tests}
use Rattle.std.proofs.lemmas.List.{take_all}
use Rattle.saber_plan.specs.declared.rows.Row.{Row}
use Rattle.saber_plan.specs.declared.rows.Side.TheVariants.{Left, Right}
use Rattle.saber_plan.specs.declared.windows.Measure.{Measure}
use Rattle.saber_plan.specs.declared.windows.Measure.TheVariants.{Rows, Range}
use Rattle.saber_plan.specs.declared.plans.Shape.TheVariants.{Group}
use Rattle.saber_plan.specs.Trees.{Tree}
use Rattle.saber_plan.specs.Values.{passes}
use Rattle.saber_plan.specs.Windows.{one, Fits, Placed, time, own, placed_from_start, no_rows, has, spans, by_side, count_to, Ordered, inside}
use Rattle.saber_plan.specs.Needs.{first_window, past_window}
use Rattle.saber_plan.specs.Answers.{frame, passing_values, by_shape}
use Rattle.saber_plan.specs.Parts.{no_part, group_part, pair_part, part, row_part}
use Rattle.saber_plan.specs.Facts.Rows.{length-placed}
use Rattle.saber_laws.specs.Plans.{OneWindow}
use Rattle.saber_panes.specs.Panes.{divisor, panes_here, pane_of, point_by, first_pane, pane_count, is_counted, counted_rows, window_part}
use Rattle.saber_panes.proofs.Divisors.{is_divisor, divisor_some}
use Rattle.saber_panes.proofs.PaneRows.{values_in}
use Rattle.saber_panes.proofs.PaneWindows.{Rises, rises-filter, within, window_rows}
use Rattle.saber_panes.proofs.PanePoints.{points_rise, panes_rise, spans_panes, filter-filter, filter-map}
use Rattle.saber_laws.proofs.NeedLaws.{rows_span}

-- ---- a row of a window's panes is one of the window

pass_right : (p : Bool) → (p && true) ≡ p
pass_right true = refl
pass_right false = refl

pass_none : (b : Bool) → (b && false) ≡ false
pass_none true = refl
pass_none false = refl

agree_case : (lo hi i : ℕ) (p w h : Bool) → h ≡ (nat_le lo i && nat_lt i hi) → w ≡ h → ((nat_lt lo hi && p) && w) ≡ (h && p)
agree_case lo hi i p w true e f = (let lies : nat_lt lo hi ≡ true = grind (arith, nat_tests) in ap₂ (λ a b. (a && p) && b) lies f) ∙ pass_right p
agree_case lo hi i p w false e f = ap (λ b. (nat_lt lo hi && p) && b) f ∙ pass_none (nat_lt lo hi && p)

-- its test, in the frame of one stream
module _ (slide size : ℕ) (some : 1 ≤ size) (i : ℕ) (x : Placed) (p : Bool) where
  by_point : (measure : Measure) → Fits (one measure slide size) → (n : ℕ) → has (one measure slide size) i x ≡ spans slide size i n → point_by measure x ≡ n
      → ((nat_lt (first_window (one measure slide size) x) (past_window (one measure slide size) x) && p) && within (pane_of (one measure slide size)) (first_pane (one measure slide size) i) (pane_count (one measure slide size)) x) ≡ (has (one measure slide size) i x && p)
  by_point measure fits n e h =
      let g = is_divisor size slide in
      let low = divisor_some size slide some in
      let cut = spans_panes (divisor size slide) slide size i n (omega (arith, low)) g.1 g.0 in
      agree_case (first_window (one measure slide size) x) (past_window (one measure slide size) x) i p _ (has (one measure slide size) i x) (rows_span (one measure slide size) fits i x)
      (ap (λ k. within (λ n. n / divisor size slide) (i * slide / divisor size slide) (size / divisor size slide) k) h ∙ sym cut ∙ sym e)

  agree_one : (measure : Measure) → Fits (one measure slide size)
      → ((nat_lt (first_window (one measure slide size) x) (past_window (one measure slide size) x) && p) && within (pane_of (one measure slide size)) (first_pane (one measure slide size) i) (pane_count (one measure slide size)) x) ≡ (has (one measure slide size) i x && p)
  agree_one Rows fits = elim x.row.side as (λ s. x.row.side ≡ s → ((nat_lt (first_window (one Rows slide size) x) (past_window (one Rows slide size) x) && p) && within (pane_of (one Rows slide size)) (first_pane (one Rows slide size) i) (pane_count (one Rows slide size)) x) ≡ (has (one Rows slide size) i x && p)) [
    | Left ↦ λ e. by_point Rows fits x.before.left (ap (λ s. by_side s (spans slide size i (by_side s x.before.left x.before.right)) false) e) refl
    | Right ↦ λ e. ap (λ s. ((nat_lt (by_side s (count_to slide size (own x)) 0) (by_side s (count_to slide 0 (own x)) 0) && p) && within (pane_of (one Rows slide size)) (first_pane (one Rows slide size) i) (pane_count (one Rows slide size)) x)) e ∙ sym (ap (λ s. by_side s (spans slide size i (own x)) false && p) e)
  ] refl
  agree_one Range fits = elim x.row.side as (λ s. x.row.side ≡ s → ((nat_lt (first_window (one Range slide size) x) (past_window (one Range slide size) x) && p) && within (pane_of (one Range slide size)) (first_pane (one Range slide size) i) (pane_count (one Range slide size)) x) ≡ (has (one Range slide size) i x && p)) [
    | Left ↦ λ e. by_point Range fits (time x) (ap (λ s. by_side s (spans slide size i (time x)) false) e) refl
    | Right ↦ λ e. ap (λ s. ((nat_lt (by_side s (count_to slide size (time x)) 0) (by_side s (count_to slide 0 (time x)) 0) && p) && within (pane_of (one Range slide size)) (first_pane (one Range slide size) i) (pane_count (one Range slide size)) x)) e ∙ sym (ap (λ s. by_side s (spans slide size i (time x)) false && p) e)
  ] refl

-- ---- all rows

all_placed : (xs : List Row) → slice_range (placed_from_start xs) 0 (length xs) ≡ placed_from_start xs
all_placed xs = let e = length-placed no_rows xs in take_all (length xs - 0) (placed_from_start xs) (omega (arith, e))

module _ (q : Tree) (o : OneWindow q) (i : ℕ) where
  fits_one : Fits (one o.window.measure o.window.slide o.window.size)
  fits_one = let a = o.fits.slide.0 in let b = o.fits.size.0 in (grind (arith, nat_tests), grind (arith, nat_tests))

  agree : (x : Placed) → (is_counted q x && within (pane_of (frame q)) (first_pane (frame q) i) (pane_count (frame q)) x) ≡ (has (frame q) i x && passes q.predicate x.row.values [])
  agree x = subst (λ f. ((nat_lt (first_window f x) (past_window f x) && passes q.predicate x.row.values []) && within (pane_of f) (first_pane f i) (pane_count f) x) ≡ (has f i x && passes q.predicate x.row.values [])) (sym o.has_frame)
      (agree_one o.window.slide o.window.size o.fits.size.0 i x (passes q.predicate x.row.values []) o.window.measure fits_one)

  same_rows : (ps : List Placed) → values_in (filter (within (pane_of (frame q)) (first_pane (frame q) i) (pane_count (frame q))) (counted_rows q ps)) ≡ passing_values q (filter (has (frame q) i) ps)
  same_rows ps =
      ap values_in (filter-filter (is_counted q) (within (pane_of (frame q)) (first_pane (frame q) i) (pane_count (frame q))) ps ∙ ap (λ t. filter t ps) (λ j x. agree x j))
      ∙ sym (filter-map (λ (x : Placed). x.row.values) (λ zs. passes q.predicate zs []) (filter (has (frame q) i) ps)
      ∙ ap values_in (filter-filter (has (frame q) i) (λ x. passes q.predicate x.row.values []) ps))

  panes_dont_fall : (xs : List Row) → Ordered no_rows xs → Rises (pane_of (frame q)) (counted_rows q (placed_from_start xs))
  panes_dont_fall xs r =
      let low = divisor_some o.window.size o.window.slide o.fits.size.0 in
      let rise = panes_rise (point_by o.window.measure) (divisor o.window.size o.window.slide) (omega (arith, low)) (placed_from_start xs) (points_rise o.window.measure no_rows xs r) in
      rises-filter (pane_of (frame q)) (is_counted q) (placed_from_start xs) (subst (λ f. Rises (pane_of f) (placed_from_start xs)) (sym o.has_frame) rise)

  pub window_is : group_part q [] ≡ no_part → q.shape ≡ Group → (xs : List Row) → Ordered no_rows xs → window_part (frame q) i (panes_here q no_rows xs) ≡ part q i xs 0 (length xs)
  window_is none g xs r =
      window_rows q none (counted_rows q (placed_from_start xs)) (panes_dont_fall xs r) (first_pane (frame q) i) (pane_count (frame q))
      ∙ ap (group_part q) (same_rows (placed_from_start xs) ∙ ap (λ l. passing_values q (filter (has (frame q) i) l)) (sym (all_placed xs)))
      ∙ sym (ap (λ s. by_shape s (row_part q (inside (frame q) i xs 0 (length xs))) (group_part q (passing_values q (inside (frame q) i xs 0 (length xs)))) (pair_part q 0 (inside (frame q) i xs 0 (length xs)))) g)
