-- Pieces that are taken in behind the rows of earlier tasks.
use Rattle.std.proofs.Common.{◌≡◌, ℕ, ◌+◌, ◌≤◌, List, ◌++◌, Bool, None, Some, length, sym, ◌∙◌, ap, subst, subst₂, le_trans, arith}
use Rattle.std.proofs.lemmas.List.{take_all}
use Rattle.saber_plan.specs.declared.rows.Row.{Row}
use Rattle.saber_plan.specs.Trees.{Tree}
use Rattle.saber_plan.specs.Windows.{Fits, no_rows, mark_of, closed_count}
use Rattle.saber_plan.specs.Answers.{frame}
use Rattle.saber_plan.specs.Facts.Rows.{mark-append, fits_back}
use Rattle.saber_changes.specs.declared.output.Output.{Output}
use Rattle.saber_sliding.specs.Entries.{Entries}
use Rattle.saber_changes.specs.Outputs.{change_in, printed_from, Passed}
use Rattle.saber_changes.specs.OutputFacts.{each_before, passed_on, passed_text, printed_lines}
use Rattle.saber_group.specs.declared.complete.Complete.{Complete}
use Rattle.saber_group.specs.declared.slices.Slice.{Slice}
use Rattle.saber_group.specs.SliceParts.{part_of, answers_over, Holds}
use Rattle.saber_group.specs.SliceStores.{GoesOn, WentOn, Comes, Came}
use Rattle.saber_group.proofs.Completed.{firsts_low}
use Rattle.saber_group.proofs.SlicesTaken.{long_both, lifted, settled_all, no_more, no_row}

pub came : (q : Tree) (old rows : List Row) (next : ℕ) (new : Entries) (closed done : ℕ) (first output : Output) (before after : List ℕ) → WentOn q no_rows (old ++ rows) (length old + length rows) next new closed done first output before after
    → Came q old rows next new closed done first output before after
came q old rows next new closed done first output before after = subst (λ z. WentOn q no_rows (old ++ rows) z next new closed done first output before after) (sym (long_both old rows))

-- all slices at once
pub go_all : (q : Tree) → Fits (frame q) → (old rows : List Row) (ended : Bool) (next : ℕ) (es : Entries) (slices : List Slice) (closed : ℕ) → Comes q old rows ended next es slices None closed
    → GoesOn q no_rows (old ++ rows) (length old) 0 (length rows) next es slices closed
go_all q fits old rows ended next es slices closed g =
    record {
      holds = subst (λ l. Holds q no_rows l next es) (sym (no_row q no_rows old rows)) g.holds;
      low = g.low;
      slices_are = lifted q no_rows old rows 0 slices (length rows) g.given;
      firsts = firsts_low q (mark_of old) rows fits (fits_back q no_rows old rows g.fits) closed (subst (λ n. n ≤ closed) (ap (closed_count (frame q)) (mark-append no_rows old rows)) g.reaches) 0 slices (length rows) g.given;
      settled = no_more q no_rows old rows closed;
      fits = g.fits;
    }

-- ---- a task that answers windows itself

module _ (q : Tree) (old rows : List Row) (ended : Bool) (next : ℕ) (es : Entries) (slices : List Slice) (c : Complete) (closed : ℕ) (g : Comes q old rows ended next es slices (Some c) closed) where
  low : next ≤ c.low
  low = le_trans g.passed g.given.closed_is

  -- the windows below its own get their last slices
  pub go_closing : GoesOn q no_rows (old ++ rows) (length old) 0 g.given.x next es slices c.low
  go_closing = record {
    holds = subst (λ l. Holds q no_rows l next es) (sym (no_row q no_rows old rows)) g.holds;
    low = low;
    slices_are = lifted q no_rows old rows 0 slices g.given.x g.given.closing_are;
    firsts = g.given.firsts;
    settled = settled_all q no_rows old rows g.given.x c.low g.given.below;
    fits = g.fits;
  }

  -- and its own text and what it leaves open follow, where windows print their lines
  pub came_complete : (done : ℕ) (closing : Entries) (first output : Output) → change_in first ≡ None → (out closing_out after : List ℕ)
      → WentOn q no_rows (old ++ rows) (length old + g.given.x) next closing c.low done first output out closing_out → after ≡ closing_out ++ c.text.items
      → Came q old rows next c.open.slices.entries closed c.open.next first output out after
  came_complete done closing first output lines out closing_out after w own =
      let all = old ++ rows in
      let at = answers_over q no_rows all in
      let high : c.open.next ≡ closed = g.given.high_is ∙ sym g.closed_is in
      let each : change_in output ≡ None = w.passed.same ∙ lines in
      let text : after ≡ closing_out ++ printed_from None at c.low c.open.next =
      own ∙ ap (λ l. closing_out ++ l) (g.given.text_is ∙ printed_lines q (λ i. part_of q i no_rows all) c.low c.open.next) in
      record {
        holds = subst₂ (λ l n. Holds q no_rows l n c.open.slices.entries) (sym (take_all (length all) all (omega arith))) high g.given.open_is;
        done_is = high;
        is_before = each_before output closed each;
        passed = subst (λ n. Passed at first output next n out after) high
            (passed_on at first output output next c.low c.open.next out closing_out after low g.given.order w.passed (passed_text at output c.low c.open.next closing_out after each w.passed.stands text));
      }
