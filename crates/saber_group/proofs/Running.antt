-- Rows that lie in the same windows, one after another.
use Rattle.std.proofs.Common.{◌≡◌, ℕ, ◌+◌, ◌-◌, ◌^◌, ◌≤◌, ◌<◌, List, [], ◌∷◌, length, take, drop, get_or, Bool, true, false, cond, ◌&&◌, nat_lt, nat_le, refl, sym, ◌∙◌, ap, subst, arith, subst₂}
use Rattle.std.proofs.lemmas.List.{drop_more, get_or-take, length-take-le, take-take}
use Rattle.std.proofs.lemmas.Bool.{lt-ltb, le-ltb, le-leb}
use Rattle.std.proofs.lemmas.Bool.Decides.{nat_tests}
use Rattle.saber_plan.specs.declared.rows.Row.{Row}
use Rattle.saber_plan.specs.declared.windows.Mark.{Mark}
use Rattle.saber_plan.specs.declared.rows.Side.{Side}
use Rattle.saber_plan.specs.declared.rows.Side.TheVariants.{Left, Right}
use Rattle.saber_plan.specs.declared.windows.Measure.{Measure}
use Rattle.saber_plan.specs.declared.windows.Measure.TheVariants.{Rows, Range}
use Rattle.saber_plan.specs.Trees.{Tree}
use Rattle.saber_plan.specs.Values.{passes}
use Rattle.saber_plan.specs.Windows.{one, Fits, Placed, own, time, by_side, count_to, mark_after, has, begun_count}
use Rattle.saber_plan.specs.Answers.{frame}
use Rattle.saber_plan.specs.Parts.{Part, group_part, no_part, merge}
use Rattle.saber_plan.specs.Needs.{first_window, past_window}
use Rattle.saber_plan.specs.GivenRows.{RowsFit}
use Rattle.saber_plan.specs.Facts.Rows.{fits_front, fits_take, fits_drop}
use Rattle.saber_laws.specs.Plans.{OneWindow}
use Rattle.saber_partial.specs.PartLaws.{OfRows}
use Rattle.saber_group.specs.SliceParts.{part_of, begun_by, closed_by, IsSlice}
use Rattle.saber_group.proofs.Lasting.{row_joins, ends_here, few_more}
use Rattle.saber_group.proofs.Completing.{count_low, past_begun, past_high, first_low}
use Rattle.saber_laws.proofs.WindowLaws.{begun_stay}
use Rattle.saber_partial.proofs.Counted.{groups_are_of_rows, small_stay}
use Rattle.saber_laws.proofs.PartLaws.{merge_is_associative}
use Rattle.saber_laws.proofs.NeedLaws.{rows_span}
use Rattle.saber_plan.specs.Facts.Parts.{merge-empty_right}

-- ---- what the first row of a slice tells

pub record Starts (q : Tree) (m : Mark) (rows : List Row) (k first past : ℕ) : Type 0 where
  pub below : (i : ℕ) → i < first → part_of q i m (take k rows) ≡ part_of q i m rows
  pub order : first ≤ past
  pub begins : begun_by q m (take k rows) ≤ past
  pub closes : (n : ℕ) → k < n → n ≤ length rows → first ≤ closed_by q m (take n rows)
  pub ends : (n : ℕ) → k < n → n ≤ length rows → past ≤ begun_by q m (take n rows)

low_by : (s : Side) (a b : ℕ) → a ≤ b → by_side s a 0 ≤ by_side s b 0
low_by Left a b h = h
low_by Right a b h = omega arith

first_below : (measure : Measure) (slide size : ℕ) (x : Placed) → 1 ≤ slide → first_window (one measure slide size) x ≤ past_window (one measure slide size) x
first_below Rows slide size x h = low_by x.row.side (count_to slide size (own x)) (count_to slide 0 (own x)) (count_low slide size (own x) h)
first_below Range slide size x h = low_by x.row.side (count_to slide size (time x)) (count_to slide 0 (time x)) (count_low slide size (time x) h)

pub starts_at : (q : Tree) → OneWindow q → Fits (frame q) → (m : Mark) (rows : List Row) (k : ℕ) (x : Row) (a : Mark) (first past : ℕ) → RowsFit q m rows → k < length rows → x ≡ get_or rows k x → a ≡ mark_after m (take k rows)
    → first ≡ first_window (frame q) (record { row = x; before = a }) → past ≡ past_window (frame q) (record { row = x; before = a }) → Starts q m rows k first past
starts_at q w fits m rows k x a first past given here is mark f l =
    let at : Placed = record { row = x; before = a } in
    let cut : drop k rows ≡ x ∷ drop (k + 1) rows = drop_more rows k x here ∙ ap (λ y. y ∷ drop (k + 1) rows) (sym is) in
    let one_row : RowsFit q a (x ∷ []) = fits_front q a (x ∷ []) (drop (k + 1) rows) (subst₂ (RowsFit q) (sym mark) cut (fits_drop q m rows k given)) in
    record {
      below = λ i h. ends_here q w fits i m rows k x a given here is mark (lt-ltb i (first_window (frame q) at) (subst (λ n. i < n) f h));
      order = subst₂ (λ n o. n ≤ o) (sym f) (sym l) (subst (λ g. first_window g at ≤ past_window g at) (sym w.has_frame) (first_below w.window.measure w.window.slide w.window.size at w.fits.slide.0));
      begins = subst₂ (λ n o. n ≤ o) (ap (begun_count (frame q)) mark) (sym (l ∙ past_begun q w a x one_row.rows.0)) (begun_stay (frame q) fits a (x ∷ []) one_row.ordered);
      closes = λ n h r.
          let long = length-take-le n rows r in
          let same : take k (take n rows) ≡ take k rows = take-take k n rows (omega (arith, h)) in
          subst (λ o. o ≤ closed_by q m (take n rows)) (sym f)
          (first_low q w w.fits.slide.0 fits m (take n rows) k x a (fits_take q m rows n given) (omega (arith, long, h)) (is ∙ sym (get_or-take n rows k x h)) (mark ∙ ap (mark_after m) (sym same)));
      ends = λ n h r.
          let long = length-take-le n rows r in
          let same : take k (take n rows) ≡ take k rows = take-take k n rows (omega (arith, h)) in
          subst (λ o. o ≤ begun_by q m (take n rows)) (sym l)
          (past_high q w fits m (take n rows) k x a (fits_take q m rows n given) (omega (arith, long, h)) (is ∙ sym (get_or-take n rows k x h)) (mark ∙ ap (mark_after m) (sym same)));
    }

-- ---- one row more

-- a part with a row, where it is wanted and passes
abbrev pub with_row : Tree → Bool → Row → Part → Part
with_row q wanted x p = cond (wanted && passes q.predicate x.values []) (merge p (group_part q (x.values ∷ []))) p

-- what the rows of a slice up to row e come to
pub record SliceTo (q : Tree) (m : Mark) (rows : List Row) (k e first past : ℕ) (p : Part) : Type 0 where
  pub inside : (i : ℕ) → first ≤ i → i < past → part_of q i m (take e rows) ≡ merge (part_of q i m (take k rows)) p
  pub behind : (i : ℕ) → first ≤ i → past ≤ i → part_of q i m (take e rows) ≡ part_of q i m (take k rows)
  pub before : (i : ℕ) → i < first → part_of q i m (take e rows) ≡ part_of q i m (take k rows)
  pub few : OfRows q (e - k) p

pub slice_nil : (q : Tree) (m : Mark) (rows : List Row) (k first past : ℕ) (p : Part) → group_part q [] ≡ no_part → p ≡ no_part → SliceTo q m rows k k first past p
slice_nil q m rows k first past p none e =
    let nil : k - k ≡ 0 = omega arith in
    record {
      inside = λ i l h. sym (ap (merge (part_of q i m (take k rows))) e ∙ (merge-empty_right (part_of q i m (take k rows))));
      behind = λ i l h. refl;
      before = λ i h. refl;
      few = subst (OfRows q (k - k)) (sym e) (subst (λ n. OfRows q n no_part) (sym nil) (subst (OfRows q 0) none (groups_are_of_rows q [])));
    }

merge_case : (a p g : Part) (b : Bool) (r : Part) → r ≡ cond b (merge (merge a p) g) (merge a p) → r ≡ merge a (cond b (merge p g) p)
merge_case a p g true r e = e ∙ merge_is_associative a p g
merge_case a p g false r e = e

few_case : (q : Tree) (x : Row) (n : ℕ) (p : Part) (b : Bool) → n + 1 ≤ 2 ^ 40 → OfRows q n p → OfRows q (n + 1) (cond b (merge p (group_part q (x.values ∷ []))) p)
few_case q x n p true h few = small_stay q n 1 p (group_part q (x.values ∷ [])) few (groups_are_of_rows q (x.values ∷ []))
few_case q x n p false h few = few_more q n (n + 1) p (omega arith) few

pub slice_more : (q : Tree) → Fits (frame q) → (m : Mark) (rows : List Row) (k e first past : ℕ) (p : Part) (x : Row) (a : Mark)
    → k ≤ e → e < length rows → length rows ≤ 2 ^ 40 → x ≡ get_or rows e x → a ≡ mark_after m (take e rows)
    → first ≡ first_window (frame q) (record { row = x; before = a }) → past ≡ past_window (frame q) (record { row = x; before = a })
    → SliceTo q m rows k e first past p → SliceTo q m rows k (e + 1) first past (with_row q (nat_lt first past) x p)
slice_more q fits m rows k e first past p x a low here few is mark f l slice =
    let at : Placed = record { row = x; before = a } in
    let lies = λ (i : ℕ). rows_span (frame q) fits i at ∙ (λ j. nat_le (sym f j) i && nat_lt i (sym l j)) in
    let step = λ (i : ℕ). row_joins q i m rows e x a here is mark in
    let next : (e - k) + 1 ≡ e + 1 - k = omega (arith, low) in
    record {
      inside = λ i h r.
          let has_row : has (frame q) i at ≡ true = lies i ∙ (λ j. le-leb first i h j && lt-ltb i past r j) in
          let wanted : nat_lt first past ≡ true = lt-ltb first past (omega (arith, h, r)) in
          let b = passes q.predicate x.values [] in
          let g = group_part q (x.values ∷ []) in
          merge_case (part_of q i m (take k rows)) p g b (part_of q i m (take (e + 1) rows))
          (step i ∙ (λ j. cond (has_row j && b) (merge (slice.inside i h r j) g) (slice.inside i h r j)))
          ∙ ap (λ w. merge (part_of q i m (take k rows)) (cond (w && b) (merge p g) p)) (sym wanted);
      behind = λ i h r.
          let has_none : has (frame q) i at ≡ false = lies i ∙ (λ j. le-leb first i h j && le-ltb i past r j) in
          step i ∙ ap (λ w. cond (w && passes q.predicate x.values []) (merge (part_of q i m (take e rows)) (group_part q (x.values ∷ []))) (part_of q i m (take e rows))) has_none ∙ slice.behind i h r;
      before = λ i h.
          let past_it : nat_le first i ≡ false = grind (arith, nat_tests) in
          let has_none : has (frame q) i at ≡ false = lies i ∙ ap (λ t. t && nat_lt i past) past_it in
          step i ∙ ap (λ w. cond (w && passes q.predicate x.values []) (merge (part_of q i m (take e rows)) (group_part q (x.values ∷ []))) (part_of q i m (take e rows))) has_none ∙ slice.before i h;
      few = subst (λ n. OfRows q n (with_row q (nat_lt first past) x p)) next (few_case q x (e - k) p (nat_lt first past && passes q.predicate x.values []) (omega (arith, low, here, few)) slice.few);
    }

-- ---- the whole slice

pub slice_is : (q : Tree) (m : Mark) (rows : List Row) (k e first past : ℕ) (p : Part) → Starts q m rows k first past → k < e → e ≤ length rows → SliceTo q m rows k e first past p → IsSlice q m rows k e first past p
slice_is q m rows k e first past p starts more within slice = record {
  inside = slice.inside;
  behind = slice.behind;
  before = slice.before;
  below = starts.below;
  few = slice.few;
  order = starts.order;
  begins = starts.begins;
  closes = starts.closes e more within;
  ends = starts.ends e more within;
}
