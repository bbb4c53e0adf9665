-- A store of slices, and the open parts and the text that it stands for.
use Rattle.std.proofs.Common.{◌≡◌, ℕ, ◌-◌, ◌≤◌, List, [], ◌∷◌, ◌++◌, length, take, slice_range, cond, sym, ◌∙◌, ap, subst, arith, subst₂, le_refl}
use Rattle.std.specs.Option.{option_map_or}
use Rattle.std.specs.Ordering.{nat_cmp}
use Rattle.std.specs.FinMap.{empty, from_entries}
use Rattle.std.proofs.lemmas.Bool.{le-leb}
use Rattle.std.proofs.lemmas.List.{take_all}
use Rattle.saber_plan.specs.declared.rows.Row.{Row}
use Rattle.saber_plan.specs.declared.plans.Shape.TheVariants.{Group}
use Rattle.saber_plan.specs.Trees.{Tree}
use Rattle.saber_plan.specs.GivenRows.{RowsFit}
use Rattle.saber_plan.specs.Inputs.{Input, first_arrivals}
use Rattle.saber_plan.specs.Facts.Counts as counts
use Rattle.saber_plan.specs.Windows.{Fits, has_windows, no_rows, mark_of, mark_after, end_mark, mark_at, closed_count, begun_count, from}
use Rattle.saber_plan.specs.Answers.{by_shape, frame, lines, lines_from, selected_lines, alike, way}
use Rattle.saber_plan.specs.Facts.Kept.{alike_added}
use Rattle.saber_plan.specs.Parts.{Part, part, part_lines}
use Rattle.saber_plan.specs.Tasks.{full, numbered_list, unclosed, Kept, added_text}
use Rattle.saber_laws.specs.Plans.{OneWindow}
use Rattle.saber_plan.specs.Facts.Lists.{slice-front, slice-join}
use Rattle.saber_plan.specs.Facts.Rows.{fits_take, mark-append}
use Rattle.saber_plan.specs.Facts.Numbers.{flat_map-from, numbered_is}
use Rattle.saber_sliding.specs.Entries.{part_at}
use Rattle.saber_changes.specs.Outputs.{change_in, way_by, IsBefore}
use Rattle.saber_group.specs.declared.slice_stores.SliceStore.{SliceStore}
use Rattle.saber_group.specs.declared.slice_pieces.SlicePiece.{SlicePiece}
use Rattle.saber_group.specs.SliceParts.{part_of, closed_by, lines_between, Holds}
use Rattle.saber_group.specs.SlicePieces.{IsOf}
use Rattle.saber_group.specs.SliceStores.{held_in, TakenIn, Comes}
use Rattle.saber_fragment.specs.Stores.{Follows}
use Rattle.saber_group.proofs.Lasting.{part_whole}
use Rattle.saber_laws.proofs.EndLaws.{closed_rise}
use Rattle.saber_laws.proofs.WindowLaws.{ends_close_more}
use Rattle.saber_laws.proofs.ShareLaws.{part_has_lines}

-- the rows up to a position, and those from it up to another
pub rows_upto : (xs : List Row) (x y : ℕ) → x ≤ y → take x xs ++ slice_range xs x y ≡ take y xs
rows_upto xs x y up = sym (sym (slice-front xs y) ∙ slice-join xs 0 x y (omega arith) up ∙ ap (λ l. l ++ slice_range xs x y) (slice-front xs x))

module _ (q : Tree) (e : q.shape ≡ Group) where
  line_is : (i : ℕ) (xs : List Row) → lines q i xs ≡ part_lines q i (part_of q i no_rows xs)
  line_is i xs = part_has_lines q i xs ∙ ap (part_lines q i) (part_whole q e i xs)

  -- what windows print that more arrivals close
  pub added_is : way q ≡ alike → (r : Input) (x y : ℕ)
      → lines_between q no_rows (take y r.rows) (closed_count (frame q) (mark_at r x)) (closed_count (frame q) (mark_at r y)) ≡ added_text q r x y
  added_is w r x y =
      let a = closed_count (frame q) (mark_at r x) in
      let b = closed_count (frame q) (mark_at r y) in
      sym (alike_added q w r x y
      ∙ ap (λ s. by_shape s (cond (has_windows (frame q)) (lines_from q (take y r.rows) a b) (selected_lines q (slice_range r.rows x y))) (lines_from q (take y r.rows) a b) (lines_from q (take y r.rows) a b)) e
      ∙ flat_map-from (λ i. lines q i (take y r.rows)) (λ i. part_lines q i (part_of q i no_rows (take y r.rows))) a (b - a) (λ i p l. line_is i (take y r.rows)))

  -- the store's parts are the open ones
  pub held_is : (r : Input) (s : SliceStore) → TakenIn q r s → held_in s ≡ unclosed q r
  unfolding unclosed
  held_is r s t =
      let at = λ (i : ℕ). full (part_at s.windows.slices.entries i) in
      let given = λ (i : ℕ). full (part q i r.rows 0 (length r.rows)) in
      ap (from_entries {R = nat_cmp}) (
      numbered_is at s.windows.next (s.begun - s.windows.next)
      ∙ flat_map-from (λ i. option_map_or (λ p. (i, p) ∷ []) (at i) []) (λ i. option_map_or (λ p. (i, p) ∷ []) (given i) []) s.windows.next (s.begun - s.windows.next)
      (λ i p l. ap (λ a. option_map_or (λ (m : Part). (i, m) ∷ []) (full a) []) (sym (t.holds.at i p) ∙ sym (part_whole q e i r.rows)))
      ∙ sym (numbered_is given s.windows.next (s.begun - s.windows.next))
      ∙ (λ j. numbered_list (t.next_is j) (t.begun_is j - t.next_is j) given))

module _ (q : Tree) (r : Input) (x y : ℕ) (s : SliceStore) (p : SlicePiece) (kept : Kept) (f : Follows q kept (λ u. TakenIn q u s) (λ r x y. IsOf q r x y p) r x y) where
  abbrev pub old_rows : List Row
  old_rows = take x r.rows

  abbrev pub new_rows : List Row
  new_rows = slice_range r.rows x y

  pub all_rows : old_rows ++ new_rows ≡ take y r.rows
  all_rows = rows_upto r.rows x y f.rises

  fits_all : RowsFit q no_rows (old_rows ++ new_rows)
  fits_all = subst (RowsFit q no_rows) (sym all_rows) (fits_take q no_rows r.rows y f.fits)

  -- the mark before the piece is that of the rows
  mark_open : mark_at r x ≡ mark_of old_rows
  mark_open = ap (λ b. end_mark b (mark_of old_rows)) f.of_is.opens

  module _ (closed : ℕ) (closed_is : closed ≡ closed_count (frame q) p.after) where
    pub closed_end : closed ≡ closed_count (frame q) (mark_at r y)
    closed_end = closed_is ∙ ap (closed_count (frame q)) f.of_is.after_is

    -- the end closes windows too
    reaches_all : closed_by q no_rows (old_rows ++ new_rows) ≤ closed
    reaches_all =
        subst (λ n. closed_by q no_rows (old_rows ++ new_rows) ≤ n) (sym closed_end)
        (subst (λ l. closed_by q no_rows l ≤ closed_count (frame q) (mark_at r y)) (sym all_rows) (ends_close_more (frame q) f.windows (first_arrivals r y).ended (mark_of (take y r.rows))))

    end_is : closed ≡ closed_count (frame q) (end_mark (first_arrivals r y).ended (mark_after (mark_of old_rows) new_rows))
    end_is = closed_end
        ∙ ap (λ l. closed_count (frame q) (end_mark (first_arrivals r y).ended (mark_of l))) (sym all_rows)
        ∙ ap (λ m. closed_count (frame q) (end_mark (first_arrivals r y).ended m)) (mark-append no_rows old_rows new_rows)

    pub comes : Comes q old_rows new_rows (first_arrivals r y).ended s.windows.next s.windows.slices.entries p.slices p.complete closed
    comes = record {
      holds = f.taken_is.holds;
      low = subst₂ (λ n o. n ≤ o) (sym f.taken_is.next_is) (sym closed_end) (closed_rise (frame q) f.windows r x y f.fits.ordered f.rises);
      passed = subst (λ n. n ≤ closed_by q no_rows old_rows) (sym (f.taken_is.next_is ∙ ap (closed_count (frame q)) mark_open)) (le_refl (closed_by q no_rows old_rows));
      given = f.of_is.given;
      closed_is = end_is;
      reaches = reaches_all;
      fits = fits_all;
    }

    pub taken_after : (new : SliceStore) → new.begun ≡ begun_count (frame q) p.after → new.windows.next ≡ closed
        → Holds q no_rows (take (length (old_rows ++ new_rows)) (old_rows ++ new_rows)) closed new.windows.slices.entries → way q ≡ way_by (change_in new.output) → IsBefore new.output closed → TakenIn q (first_arrivals r y) new
    taken_after new begun done contents way_is before =
        let all = old_rows ++ new_rows in
        record {
          holds = subst₂ (λ l n. Holds q no_rows l n new.windows.slices.entries) (take_all (length all) all (omega arith) ∙ all_rows) (sym done) contents;
          next_is = done ∙ closed_end;
          begun_is = begun ∙ ap (begun_count (frame q)) f.of_is.after_is;
          way_is = way_is;
          is_before = subst (IsBefore new.output) (sym done) before;
        }

-- ---- no rows

pub none_closed : (q : Tree) → OneWindow q → 0 ≡ closed_count (frame q) no_rows
none_closed q w = sym (counts.none_closed (frame q) (subst Fits (sym w.has_frame) (le-leb 1 w.window.slide w.fits.slide.0, le-leb 1 w.window.size w.fits.size.0)))

pub nothing_held : (s : SliceStore) → s.windows.next ≡ 0 → s.begun ≡ 0 → held_in s ≡ empty
unfolding from
nothing_held s n b = (λ j. from_entries {R = nat_cmp} (numbered_list (n j) (b j - n j) (λ i. full (part_at s.windows.slices.entries i))))
