-- All windows together are what the task gives.
use Rattle.std.proofs.Common.{◌≡◌, ℕ, ◌+◌, ◌-◌, ◌≤◌, ◌<◌, List, [], ◌∷◌, ◌++◌, filter, flat_map, Bool, true, false, cond, nat_lt, T, Option, Some, None, refl, sym, ◌∙◌, ap, subst, le_trans, nat_cmp, arith}
use Rattle.std.proofs.lemmas.Bool.{lt-ltb, le-ltb}
use Rattle.std.proofs.lemmas.List.Concat.{flat_map-append}
use Rattle.std.specs.Option.{option_map_or}
use Rattle.std.specs.FinMap.{is_sorted}
use Rattle.saber_plan.specs.declared.windows.Mark.{Mark}
use Rattle.saber_plan.specs.declared.windows.Kind.{Kind}
use Rattle.saber_plan.specs.declared.plans.Shape.TheVariants.{Join}
use Rattle.saber_plan.specs.Trees.{Tree}
use Rattle.saber_plan.specs.Windows.{Fits, mark_after, end_mark, closed_count, begun_count, kind_of, from, has_windows}
use Rattle.saber_plan.specs.Checked.{IsChecked}
use Rattle.saber_plan.specs.Answers.{by_shape, frame, selected_lines}
use Rattle.saber_plan.specs.Parts.{Part, no_part, part_lines}
use Rattle.saber_plan.specs.Tasks.{full, is_complete}
use Rattle.saber_plan.specs.Needs.{is_closing, is_pending, is_opening, of_kind, part_here}
use Rattle.saber_plan.specs.Shares.{is_closed, shares_here, handed_here}
use Rattle.saber_plan.specs.Facts.Rows.{Ordered-append}
use Rattle.saber_laws.specs.Plans.{TwoWindows}
use Rattle.saber_window.specs.declared.bounds.Bounds.{Bounds}
use Rattle.saber_join.specs.Open.{seen_parts, HoldsTask}
use Rattle.saber_window.specs.Kinds.{kind_in, AreBounds}
use Rattle.saber_parts.specs.WindowFacts.{entry_is, no_entry, no_lines}
use Rattle.saber_parts.specs.Entries.{entry_if, lines_if, entries_by, lines_by}
use Rattle.saber_fragment.specs.Drafts.{Sight, IsWhole}
use Rattle.saber_join.specs.Pieces.{AreOfTask}
use Rattle.saber_plan.specs.Facts.Numbers.{flat_map-from, flat_none, flat_filter, from_more, numbered_is}
use Rattle.saber_join.proofs.Spread.{seen, part_in, part_is_in, rise_all, spread}
use Rattle.saber_join.proofs.Beginning.{none_begun}
use Rattle.saber_laws.proofs.CheckedLaws.{checked_fit, joins_have_two_windows}
use Rattle.saber_laws.proofs.WindowLaws.{begun_stay, closed_within_begun}
use Rattle.saber_laws.proofs.FlushLaws.{ends_begin_none}

low_case : (b : Bool) (p : Part) → p ≡ no_part → cond b no_part p ≡ no_part
low_case true p h = refl
low_case false p h = h

-- what the windows of a tree map give is what windows give by number, from the first that isn't closed up to the last that is begun
module _ {X : Type 0} (g : ℕ → Part → List X) (none : (i : ℕ) (p : Part) → p ≡ no_part → g i p ≡ []) (at : ℕ → Part) (c n : ℕ) (order : c ≤ n) (ends : (i : ℕ) → n ≤ i → at i ≡ no_part) where
  abbrev held_at : ℕ → Part
  held_at i = cond (nat_lt i c) no_part (at i)

  pub by_number : (es : List (ℕ × Part)) → T (is_sorted nat_cmp (seen es)) → ((i : ℕ) → part_in es i ≡ held_at i) → flat_map (λ e. g e.0 e.1) es ≡ flat_map (λ i. g i (at i)) (from c (n - c))
  by_number es s h =
      let whole : n - 0 ≡ n = omega arith in
      let to : c - 0 ≡ c = omega arith in
      spread g none n 0 es held_at (rise_all es s) (λ i l. h i) (λ i l. low_case (nat_lt i c) (at i) (ends i (omega (arith, l))))
      ∙ ap (λ k. flat_map (λ i. g i (held_at i)) (from 0 k)) (sym whole)
      ∙ ap (flat_map (λ i. g i (held_at i))) (from_more 0 c n (omega arith) order ∙ ap (λ k. from 0 k ++ from c (n - c)) to)
      ∙ flat_map-append (λ i. g i (held_at i)) (from 0 c) (from c (n - c))
      ∙ (λ j. flat_none (λ i. g i (held_at i)) 0 c (λ i l r. none i (held_at i) (ap (λ b. cond b no_part (at i)) (lt-ltb i c (omega (arith, r))))) j ++ flat_map (λ i. g i (held_at i)) (from c (n - c)))
      ∙ flat_map-from (λ i. g i (held_at i)) (λ i. g i (at i)) c (n - c) (λ i l r. ap (λ b. g i (cond b no_part (at i))) (le-ltb i c l))

module _ (q : Tree) (checked : IsChecked q) (e : q.shape ≡ Join) (s : Sight) (whole : IsWhole q s) (b : Bounds) (given : AreBounds (frame q) (mark_after s.first s.back) (end_mark s.ended (mark_after (mark_after s.first s.back) s.rows)) b)
    (es : List (ℕ × Part)) (sorted : T (is_sorted nat_cmp (seen es))) (holds : HoldsTask q (closed_count (frame q) (mark_after s.first s.back)) s.first s.back s.rows (seen_parts es)) where
  w : TwoWindows q
  w = joins_have_two_windows q checked e

  fits : Fits (frame q)
  fits = checked_fit q checked

  abbrev a : Mark
  a = mark_after s.first s.back

  abbrev z : Mark
  z = end_mark s.ended (mark_after (mark_after s.first s.back) s.rows)

  abbrev c : ℕ
  c = closed_count (frame q) (mark_after s.first s.back)

  abbrev n : ℕ
  n = begun_count (frame q) (end_mark s.ended (mark_after (mark_after s.first s.back) s.rows))

  -- the end begins none of them
  begins : begun_count (frame q) (mark_after (mark_after s.first s.back) s.rows) ≡ n
  begins = sym (ends_begin_none (frame q) s.ended (mark_after (mark_after s.first s.back) s.rows)).counts

  abbrev at : ℕ → Part
  at i = part_here q i s.first s.back s.rows

  within : c ≤ n
  within = subst (λ k. c ≤ k) begins (le_trans (closed_within_begun (frame q) fits a) (begun_stay (frame q) fits a s.rows (Ordered-append s.first s.back s.rows whole.fits.ordered).1))

  ends : (i : ℕ) → n ≤ i → at i ≡ no_part
  ends i l = none_begun q e w fits s.first s.back s.rows whole.fits i (subst (λ k. k ≤ i) (sym begins) l)

  kind : (i : ℕ) → c ≤ i → i < c + (n - c) → Some (kind_in b i) ≡ kind_of (frame q) i a z
  kind i l r = let up = within in given.kinds i l (omega (arith, l, r, up))

  entries_are : (wanted : Option Kind → Bool) → entries_by wanted b es ≡ of_kind wanted (frame q) a z at
  unfolding of_kind
  entries_are wanted =
      let given_kind = λ (i : ℕ). cond (wanted (kind_of (frame q) i a z)) (full (at i)) None in
      by_number (λ i p. entry_if (wanted (Some (kind_in b i))) i p) (λ i p. no_entry (wanted (Some (kind_in b i))) i p) at c n within ends es sorted (λ i. part_is_in es i ∙ holds.at i)
      ∙ flat_map-from _ (λ i. option_map_or (λ r. (i, r) ∷ []) (given_kind i) []) c (n - c) (λ i l r. (λ j. entry_if (wanted (kind i l r j)) i (at i)) ∙ entry_is (wanted (kind_of (frame q) i a z)) i (at i))
      ∙ sym (numbered_is given_kind c (n - c))

  abbrev complete : ℕ → Bool
  complete i = is_complete (kind_of (frame q) i a z)

  lines_are : lines_by q b es ≡ flat_map (λ i. part_lines q i (at i)) (filter complete (from c (n - c)))
  lines_are =
      by_number (λ i p. lines_if (is_complete (Some (kind_in b i))) q i p) (λ i p. no_lines (is_complete (Some (kind_in b i))) q i p) at c n within ends es sorted (λ i. part_is_in es i ∙ holds.at i)
      ∙ flat_map-from _ (λ i. cond (complete i) (part_lines q i (at i)) []) c (n - c) (λ i l r j. cond (is_complete (kind i l r j)) (part_lines q i (at i)) [])
      ∙ flat_filter (λ i. part_lines q i (at i)) complete (from c (n - c))

  -- so they are the task's, and what they hand on is what it hands on
  pub of_task : AreOfTask q s b es
  unfolding shares_here handed_here
  of_task =
      let all = flat_map (λ i. part_lines q i (at i)) (filter complete (from c (n - c))) in
      record {
        give = (λ j. record {
          closing = entries_are is_closing j;
          pending = entries_are is_pending j;
          opening = entries_are is_opening j;
          lines = (lines_are ∙ ap (λ k. by_shape k (cond (has_windows (frame q)) all (selected_lines q s.rows)) all all) (sym e)) j;
          closed = given.closed_after j;
        });
        hand = (λ j. record {
          closing = entries_are is_closed j;
          pending = entries_are is_pending j;
          opening = entries_are is_opening j;
          lines = [];
          closed = given.closed_after j;
        });
      }
