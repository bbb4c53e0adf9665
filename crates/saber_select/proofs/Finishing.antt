-- All windows together are what the task gives.
use Rattle.std.proofs.Common.{◌≡◌, ℕ, ◌+◌, ◌-◌, ◌≤◌, ◌<◌, List, [], ◌∷◌, filter, flat_map, Bool, cond, T, Option, Some, None, refl, sym, ◌∙◌, ap, subst, le_trans, nat_cmp, arith}
use Rattle.std.proofs.lemmas.List.Folds.{flat_map-map}
use Rattle.std.specs.Option.{option_map_or}
use Rattle.std.specs.FinMap.{is_sorted}
use Rattle.saber_plan.specs.declared.rows.Row.{Row}
use Rattle.saber_plan.specs.declared.windows.Mark.{Mark}
use Rattle.saber_plan.specs.declared.windows.Kind.{Kind}
use Rattle.saber_plan.specs.declared.plans.Shape.TheVariants.{Select}
use Rattle.saber_plan.specs.Trees.{Tree}
use Rattle.saber_plan.specs.Windows.{Frame, Fits, mark_after, end_mark, has, placed_after, closed_count, begun_count, kind_of, from, has_windows}
use Rattle.saber_plan.specs.Answers.{by_shape, frame, passing_values, selected_lines}
use Rattle.saber_plan.specs.Parts.{Part, row_part, group_part, pair_part, part_lines}
use Rattle.saber_plan.specs.Tasks.{full, is_complete}
use Rattle.saber_plan.specs.Needs.{is_closing, is_pending, is_opening, of_kind, part_here}
use Rattle.saber_plan.specs.Checked.{IsChecked}
use Rattle.saber_plan.specs.GivenRows.{RowsFit}
use Rattle.saber_plan.specs.Shares.{is_closed, shares_here, handed_here}
use Rattle.saber_plan.specs.Facts.Numbers.{flat_map-from, flat_filter, numbered_is}
use Rattle.saber_laws.specs.Plans.{OneWindow}
use Rattle.saber_laws.proofs.CheckedLaws.{checked_fit, words_have_one_window}
use Rattle.saber_laws.proofs.FlushLaws.{ends_begin_none}
use Rattle.saber_laws.proofs.WindowLaws.{begun_stay, closed_within_begun}
use Rattle.saber_fragment.specs.Shown.{windows_by}
use Rattle.saber_window.specs.declared.bounds.Bounds.{Bounds}
use Rattle.saber_window.specs.Kinds.{kind_in, AreBounds}
use Rattle.saber_parts.specs.WindowFacts.{entry_is, no_entry, no_lines}
use Rattle.saber_parts.specs.Entries.{entry_if, lines_if, entries_by, lines_by, given_by, handed_by}
use Rattle.saber_select.specs.Words.{HasWord}
use Rattle.saber_select.specs.Found.{Found, part_of}
use Rattle.saber_select.specs.Open.{seen_windows, found_here, HoldsTask}
use Rattle.saber_select.proofs.Spread.{seen, rows_among_in, by_number}
use Rattle.saber_select.proofs.Beginning.{none_begun}
use Rattle.saber_select.proofs.Answering.{rows_part}

-- what the operator of a selection with a stream word keeps
abbrev pub IsWindowed : Tree → Type 0
IsWindowed q = IsChecked q × (q.shape ≡ Select) × HasWord q

module _ (q : Tree) (checked : IsChecked q) (e : q.shape ≡ Select) (has_word : HasWord q) (m : Mark) (rows : List Row) (ended : Bool) (h : RowsFit q m rows) (b : Bounds) (given : AreBounds (frame q) m (end_mark ended (mark_after m rows)) b)
    (es : List (ℕ × List Found)) (sorted : T (is_sorted nat_cmp (seen es))) (holds : HoldsTask q m rows (seen_windows es)) where
  w : OneWindow q
  w = words_have_one_window q has_word.word checked e has_word.is

  fits : Fits (frame q)
  fits = checked_fit q checked

  abbrev z : Mark
  z = end_mark ended (mark_after m rows)

  abbrev c : ℕ
  c = closed_count (frame q) m

  abbrev n : ℕ
  n = begun_count (frame q) (end_mark ended (mark_after m rows))

  -- the end begins none of them
  begins : begun_count (frame q) (mark_after m rows) ≡ n
  begins = sym (ends_begin_none (frame q) ended (mark_after m rows)).counts

  abbrev at : ℕ → List Found
  at i = found_here q m rows i

  within : c ≤ n
  within = subst (λ k. c ≤ k) begins (le_trans (closed_within_begun (frame q) fits m) (begun_stay (frame q) fits m rows h.ordered))

  ends : (i : ℕ) → n ≤ i → at i ≡ []
  ends i l = none_begun q w fits m rows h.ordered i (subst (λ k. k ≤ i) (sym begins) l)

  kind : (i : ℕ) → c ≤ i → i < c + (n - c) → Some (kind_in b i) ≡ kind_of (frame q) i m z
  kind i l r = let up = within in given.kinds i l (omega (arith, l, r, up))

  -- the part of window i
  part_is : (i : ℕ) → part_of (at i) ≡ part_here q i m [] rows
  unfolding part_here
  part_is i =
      let us = filter (has (frame q) i) (placed_after m rows) in
      rows_part q us ∙ sym (ap (λ s. by_shape s (row_part q us) (group_part q (passing_values q us)) (pair_part q (m.left + m.right + 0) us)) e)

  entries_are : (wanted : Option Kind → Bool) → entries_by wanted b (windows_by part_of es) ≡ of_kind wanted (frame q) m z (λ i. part_here q i m [] rows)
  unfolding of_kind
  entries_are wanted =
      let given_kind = λ (i : ℕ). cond (wanted (kind_of (frame q) i m z)) (full (part_here q i m [] rows)) None in
      flat_map-map (λ (f : ℕ × Part). entry_if (wanted (Some (kind_in b f.0))) f.0 f.1) (λ (f : ℕ × List Found). (f.0, part_of f.1)) es
      ∙ by_number (λ i r. entry_if (wanted (Some (kind_in b i))) i (part_of r)) (λ i. no_entry (wanted (Some (kind_in b i))) i (part_of []) refl) at c n within ends es sorted (λ i. rows_among_in es i ∙ holds.at i)
      ∙ flat_map-from _ (λ i. option_map_or (λ (r : Part). (i, r) ∷ []) (given_kind i) []) c (n - c) (λ i l r. (λ j. entry_if (wanted (kind i l r j)) i (part_is i j)) ∙ entry_is (wanted (kind_of (frame q) i m z)) i (part_here q i m [] rows))
      ∙ sym (numbered_is given_kind c (n - c))

  abbrev complete : ℕ → Bool
  complete i = is_complete (kind_of (frame q) i m z)

  lines_are : lines_by q b (windows_by part_of es) ≡ flat_map (λ i. part_lines q i (part_here q i m [] rows)) (filter complete (from c (n - c)))
  lines_are =
      flat_map-map (λ (f : ℕ × Part). lines_if (is_complete (Some (kind_in b f.0))) q f.0 f.1) (λ (f : ℕ × List Found). (f.0, part_of f.1)) es
      ∙ by_number (λ i r. lines_if (is_complete (Some (kind_in b i))) q i (part_of r)) (λ i. no_lines (is_complete (Some (kind_in b i))) q i (part_of []) refl) at c n within ends es sorted (λ i. rows_among_in es i ∙ holds.at i)
      ∙ flat_map-from _ (λ i. cond (complete i) (part_lines q i (part_here q i m [] rows)) []) c (n - c) (λ i l r j. cond (is_complete (kind i l r j)) (part_lines q i (part_is i j)) [])
      ∙ flat_filter (λ i. part_lines q i (part_here q i m [] rows)) complete (from c (n - c))

  -- so they give what the task gives
  pub shares_are : given_by q b (windows_by part_of es) ≡ shares_here q m [] rows ended
  unfolding shares_here
  shares_are =
      let whole = flat_map (λ i. part_lines q i (part_here q i m [] rows)) (filter complete (from c (n - c))) in
      λ j. record {
        closing = entries_are is_closing j;
        pending = entries_are is_pending j;
        opening = entries_are is_opening j;
        lines = (lines_are ∙ sym (ap (λ (f : Frame). cond (has_windows f) whole (selected_lines q rows)) w.has_frame)
            ∙ ap (λ s. by_shape s (cond (has_windows (frame q)) whole (selected_lines q rows)) whole whole) (sym e)) j;
        closed = given.closed_after j;
      }

  -- and hand on what it hands on
  pub handed_are : handed_by b (windows_by part_of es) ≡ handed_here q m [] rows ended
  unfolding handed_here
  handed_are = λ j. record {
    closing = entries_are is_closed j;
    pending = entries_are is_pending j;
    opening = entries_are is_opening j;
    lines = [];
    closed = given.closed_after j;
  }
