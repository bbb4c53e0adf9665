-- The slices of a task that answers windows itself: those of the windows before them, and all, behind the rows before the task.
use Rattle.std.proofs.Common.{◌≡◌, ℕ, zero, suc, ◌+◌, ◌-◌, ◌≤◌, max, List, [], ◌∷◌, ◌++◌, Bool, Option, Some, None, length, take, refl, sym, ◌∙◌, ap, subst, subst₂, le_trans, append_assoc, arith}
use Rattle.std.specs.List.{AllByRecursion, slice_get}
use Rattle.std.proofs.lemmas.List.{take_all}
use Rattle.saber_plan.specs.declared.rows.Row.{Row}
use Rattle.saber_plan.specs.declared.windows.Mark.{Mark}
use Rattle.saber_plan.specs.declared.plans.Shape.TheVariants.{Group}
use Rattle.saber_plan.specs.Trees.{Tree}
use Rattle.saber_plan.specs.Windows.{Fits, no_rows, mark_of, mark_after, end_mark, closed_count, begun_count}
use Rattle.saber_plan.specs.Answers.{frame}
use Rattle.saber_plan.specs.GivenRows.{RowsFit}
use Rattle.saber_plan.specs.Parts.{Part, merge, part_lines}
use Rattle.saber_plan.specs.Facts.Rows.{mark-append, fits_front, fits_back}
use Rattle.saber_plan.specs.Facts.Numbers.{flat_map-from}
use Rattle.saber_fragment.specs.declared.blocks.Earlier.{Earlier}
use Rattle.saber_fragment.specs.Drafts.{EndWith}
use Rattle.saber_partial.specs.PartLaws.{OfRows}
use Rattle.saber_changes.specs.declared.output.Output.{Output}
use Rattle.saber_changes.specs.declared.output.Output.TheVariants.{Each}
use Rattle.saber_sliding.specs.Entries.{Entries}
use Rattle.saber_changes.specs.OutputFacts.{printed_lines}
use Rattle.saber_sliding.specs.EntryFacts.{all_map}
use Rattle.saber_group.specs.declared.complete.Complete.{Complete}
use Rattle.saber_group.specs.declared.slices.Slice.{Slice}
use Rattle.saber_group.specs.SliceParts.{part_of, closed_by, lines_between, Holds, Settled}
use Rattle.saber_group.specs.SlicePieces.{SlicesTo, SlicesFrom, IsComplete, TaskSteps}
use Rattle.saber_group.specs.SliceStores.{GoesOn, WentOn}
use Rattle.saber_group.proofs.Completing.{closed_within}
use Rattle.saber_group.proofs.Lasting.{few_more, none_begun_have}
use Rattle.saber_group.proofs.SlicesTaken.{lifted, no_more, no_row, part_behind, long_both}
use Rattle.saber_laws.proofs.WindowLaws.{ends_close_more}
use Rattle.saber_plan.specs.Facts.Parts.{merge-empty_left}

-- ---- how many steps they take

-- with more rows before the task, or more slices, it may take more steps
pub steps_rise : (e k n l : ℕ) (c : Option Complete) (before after : ℕ) → e ≤ k → n ≤ l → TaskSteps e n c before after → TaskSteps k l c before after
steps_rise e k n l None before after up more h = h
steps_rise e k n l (Some c) before after up more h = omega (arith, up, more, h)

-- ---- slices cut at a slice

-- where slice k begins, of slices from position x on
abbrev pub begins_at : ℕ → List Slice → ℕ → ℕ
begins_at x rs zero = x
begins_at x [] (suc k) = x
begins_at x (r ∷ rs) (suc k) = begins_at r.end rs k

module _ (q : Tree) (m : Mark) (rows : List Row) where
  -- those before it end there
  pub slices_front : (x : ℕ) (rs : List Slice) (y k : ℕ) → SlicesTo q m rows x rs y → SlicesTo q m rows x (take k rs) (begins_at x rs k)
  slices_front x rs y zero h = refl
  slices_front x [] y (suc k) h = refl
  slices_front x (r ∷ rs) y (suc k) h = (h.0, (h.1.0, (h.1.1.0, slices_front r.end rs y k h.1.1.1)))

  -- each has a row
  pub slices_few : (x : ℕ) (rs : List Slice) (y : ℕ) → SlicesTo q m rows x rs y → x + length rs ≤ y
  slices_few x [] y h = omega (arith, h)
  slices_few x (r ∷ rs) y h = let more = h.1.0 in let rest = slices_few r.end rs y h.1.1.1 in omega (arith, more, rest)

  at_end : (i x : ℕ) → x ≡ length rows → part_of q i m (take x rows) ≡ part_of q i m rows
  at_end i x e = ap (part_of q i m) (take_all x rows (omega (arith, e)))

  -- if it has no window below `low`, no row from there on has
  pub settled_at : (low x : ℕ) (rs : List Slice) (k : ℕ) → SlicesFrom q m rows x rs → ((r : Slice) → Some r ≡ slice_get rs k → low ≤ r.first) → Settled q m (take (begins_at x rs k) rows) rows low
  settled_at low x [] zero h first i l = at_end i x h
  settled_at low x [] (suc k) h first i l = at_end i x h
  settled_at low x (r ∷ rs) zero h first i l = h.0.below i (let up = first r refl in omega (arith, l, up))
  settled_at low x (r ∷ rs) (suc k) h first i l = settled_at low r.end rs k h.1.1.1 first i l

  -- ---- the slices, as a store takes them in

  -- all windows before a slice's first are closed by the rows
  pub firsts_low : Fits (frame q) → RowsFit q m rows → (n : ℕ) → closed_by q m rows ≤ n → (x : ℕ) (rs : List Slice) (y : ℕ) → SlicesTo q m rows x rs y → AllByRecursion (λ (r : Slice). r.first ≤ n) rs
  firsts_low fits given n up x [] y h = tt
  firsts_low fits given n up x (r ∷ rs) y h = (le_trans h.0.closes (le_trans (closed_within q fits m rows r.end given) up), firsts_low fits given n up r.end rs y h.1.1.1)

-- ---- behind the rows before a task that its block has

module _ (q : Tree) (e : Earlier) (m : Mark) (rows : List Row) (ended : Bool) (meets : m ≡ mark_after e.before e.rows) where
  -- the queue over those can take the task's slices in
  pub goes_behind : Fits (frame q) → RowsFit q e.before (e.rows ++ rows) → (low high next : ℕ) (es : Entries) (rs : List Slice)
      → low ≤ high → high ≡ closed_count (frame q) (end_mark ended (mark_after m rows)) → next ≡ low → Holds q e.before e.rows low es → SlicesFrom q m rows 0 rs
      → GoesOn q e.before (e.rows ++ rows) (length e.rows) 0 (length rows) next es rs high
  goes_behind fits given low high next es rs up most first contents h =
      let a : Mark = mark_after e.before e.rows in
      let own : SlicesFrom q a rows 0 rs = subst (λ z. SlicesFrom q z rows 0 rs) meets h in
      let closed : closed_by q a rows ≤ high = subst₂ (λ z n. closed_by q z rows ≤ n) meets (sym most) (ends_close_more (frame q) fits ended (mark_after m rows)) in
      record {
        holds = subst₂ (λ l n. Holds q e.before l n es) (sym (no_row q e.before e.rows rows)) (sym first) contents;
        low = subst (λ n. n ≤ high) (sym first) up;
        slices_are = lifted q e.before e.rows rows 0 rs (length rows) own;
        firsts = firsts_low q a rows fits (fits_back q e.before e.rows rows given) high closed 0 rs (length rows) own;
        settled = no_more q e.before e.rows rows high;
        fits = given;
      }

  -- ---- whatever rows stand before

  module _ (old : List Row) (given : RowsFit q no_rows (old ++ rows)) (end : EndWith old e) where
    all_are : old ++ rows ≡ end.front ++ (e.rows ++ rows)
    all_are = ap (λ l. l ++ rows) end.rows_are ∙ append_assoc end.front e.rows rows

    front_fits : RowsFit q no_rows end.front
    front_fits = fits_front q no_rows end.front e.rows (subst (RowsFit q no_rows) end.rows_are (fits_front q no_rows old rows given))

    module _ (shape : q.shape ≡ Group) (fits : Fits (frame q)) where
      -- the windows that begin with the rows that the block has, or behind, have no others
      own_part : (i : ℕ) → begun_count (frame q) e.before ≤ i → part_of q i e.before (e.rows ++ rows) ≡ part_of q i no_rows (old ++ rows)
      own_part i l =
          let none = none_begun_have q shape fits end.front front_fits.ordered i (subst (λ a. begun_count (frame q) a ≤ i) end.before_is l) in
          let own = part_of q i (mark_of end.front) (e.rows ++ rows) in
          ap (λ a. part_of q i a (e.rows ++ rows)) end.before_is
          ∙ sym (ap (part_of q i no_rows) all_are ∙ part_behind q no_rows end.front (e.rows ++ rows) i (e.rows ++ rows) ∙ ap (λ p. merge p own) none ∙ (merge-empty_left own))

      own_text : (low high : ℕ) → begun_count (frame q) e.before ≤ low → lines_between q e.before (e.rows ++ rows) low high ≡ lines_between q no_rows (old ++ rows) low high
      own_text low high l =
          flat_map-from (λ i. part_lines q i (part_of q i e.before (e.rows ++ rows))) (λ i. part_lines q i (part_of q i no_rows (old ++ rows))) low (high - low)
          (λ i up h. ap (part_lines q i) (own_part i (le_trans l up)))

      same_mark : mark_after e.before (e.rows ++ rows) ≡ mark_of (old ++ rows)
      same_mark = ap (λ a. mark_after a (e.rows ++ rows)) end.before_is ∙ sym (ap mark_of all_are ∙ mark-append no_rows end.front (e.rows ++ rows))

      own_open : (n : ℕ) (es : Entries) → begun_count (frame q) e.before ≤ n → Holds q e.before (e.rows ++ rows) n es → Holds q no_rows (old ++ rows) n es
      own_open n es l h =
          let long = ap length all_are ∙ long_both end.front (e.rows ++ rows) in
          record {
            at = λ i up. sym (own_part i (le_trans l up)) ∙ h.at i up;
            begun = subst (λ (a : Mark). AllByRecursion (λ (x : ℕ × Part). x.0 ≤ begun_count (frame q) a) es) same_mark h.begun;
            few = all_map (λ (x : ℕ × Part). OfRows q (length (e.rows ++ rows)) x.1) (λ x. OfRows q (length (old ++ rows)) x.1) es (λ x f. few_more q (length (e.rows ++ rows)) (length (old ++ rows)) x.1 (omega (arith, long)) f) h.few;
          }

      -- what the task answers is right behind them
      pub is_complete : m ≡ mark_of old → (low high : ℕ) (c : Complete) (rs : List Slice) (k : ℕ) (closing : List Slice) (next : ℕ) (out : List ℕ) → out ≡ [] → low ≤ high → high ≡ closed_count (frame q) (end_mark ended (mark_after m rows))
          → low ≡ max (begun_count (frame q) e.before) (closed_count (frame q) m) → c.low ≡ low → next ≡ low → SlicesFrom q m rows 0 rs → closing ≡ take k rs → AllByRecursion (λ (r : Slice). r.first ≤ low) (take k rs)
          → ((r : Slice) → Some r ≡ slice_get rs k → low ≤ r.first) → (output : Output) → WentOn q e.before (e.rows ++ rows) (length e.rows + length rows) next c.open.slices.entries high c.open.next Each output out c.text.items → IsComplete q old rows ended closing c
      is_complete same low high c rs k closing next out empty up most least low_is next_is slices copies firsts first output w =
          let all = e.rows ++ rows in
          let begun : begun_count (frame q) e.before ≤ low = omega (arith, least) in
          let own : SlicesFrom q (mark_of old) rows 0 rs = subst (λ z. SlicesFrom q z rows 0 rs) same slices in
          let done : c.open.next ≡ high = w.done_is in
          let whole : take (length e.rows + length rows) all ≡ all = let long = long_both e.rows rows in take_all (length e.rows + length rows) all (omega (arith, long)) in
          let contents : Holds q e.before all high c.open.slices.entries = subst (λ l. Holds q e.before l high c.open.slices.entries) whole w.holds in
          record {
            x = begins_at 0 rs k;
            closing_are = subst (λ l. SlicesTo q (mark_of old) rows 0 l (begins_at 0 rs k)) (sym copies) (slices_front q (mark_of old) rows 0 rs (length rows) k own);
            firsts = subst₂ (λ n l. AllByRecursion (λ (r : Slice). r.first ≤ n) l) (sym low_is) (sym copies) firsts;
            below = subst (Settled q (mark_of old) (take (begins_at 0 rs k) rows) rows) (sym low_is) (settled_at q (mark_of old) rows low 0 rs k own first);
            text_is = w.passed.text ∙ ap (λ l. out ++ l) (sym (printed_lines q (λ i. part_of q i e.before all) next high)) ∙ (λ j. empty j ++ lines_between q e.before all (next_is j) high) ∙ own_text low high begun ∙ sym (λ j. lines_between q no_rows (old ++ rows) (low_is j) (done j));
            open_is = subst (λ n. Holds q no_rows (old ++ rows) n c.open.slices.entries) (sym done) (own_open high c.open.slices.entries (omega (arith, begun, up)) contents);
            closed_is = subst₂ (λ z n. closed_count (frame q) z ≤ n) same (sym low_is) (omega (arith, least));
            high_is = done ∙ most ∙ ap (λ z. closed_count (frame q) (end_mark ended (mark_after z rows))) same;
            order = subst₂ (λ a b. a ≤ b) (sym low_is) (sym done) up;
          }
