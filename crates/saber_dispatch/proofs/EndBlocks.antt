-- The block of the input's end, behind all rows.
use Rattle.std.proofs.Common.{inr, ◌≡◌, ◌≤◌, ◌<◌, ◌^◌, ℕ, zero, suc, ◌+◌, ◌-◌, ◌*◌, ◌==◌, min, length, List, [], ◌++◌, Option, Some, Bool, true, false, ◌&&◌, ◌||◌, not, refl, sym, ◌∙◌, ap, subst, ⊎_elim, arith, append-nil}
use Rattle.std.proofs.lemmas.Bool.{cases_lt}
use Rattle.std.proofs.lemmas.List.{take_all}
use Rattle.std.proofs.lemmas.Grind.{div_ceil_times}
use Rattle.saber_plan.specs.Sizes.{limits_of}
use Rattle.saber_plan.specs.declared.windows.Mark.{Mark}
use Rattle.saber_plan.specs.declared.sizes.Sizes.{Sizes}
use Rattle.saber_plan.specs.Rows.{all_read}
use Rattle.saber_plan.specs.Windows.{no_rows, mark_of}
use Rattle.saber_plan.specs.Inputs.{Input, going_on}
use Rattle.saber_plan.specs.Trees.{Tree}
use Rattle.saber_plan.specs.GivenRows.{RowsFit}
use Rattle.saber_plan.specs.Tasks.{upto, task_count, row_tasks}
use Rattle.saber_plan.specs.Needs.{free, need}
use Rattle.saber_fragment.specs.declared.blocks.Block.{Block}
use Rattle.saber_dispatch.specs.declared.ends.End.TheVariants.{AllRead, TooWide}
use Rattle.saber_dispatch.specs.declared.cutter.Cutter.{Cutter}
use Rattle.saber_dispatch.specs.declared.lasts.Lasts.{Lasts}
use Rattle.saber_dispatch.specs.Readings.{reading_of}
use Rattle.saber_dispatch.specs.Filling.{Took}
use Rattle.saber_dispatch.specs.Cutting.{LooksBack, Behind, AtEnd, EndComes, CutState, Flushes, Cuts, Adds, IsNextBlock, is_due, end_counts, and_block, fresh}
use Rattle.saber_dispatch.proofs.Fillings.{small as small_marks}
use Rattle.saber_dispatch.proofs.NextTasks.{goes_on, upto_rows, need_stays}
use Rattle.saber_dispatch.proofs.BlockCuts.{none_earlier}
use Rattle.saber_plan.specs.Facts.Counts.{tasks_have_rows}

both_on : (b : Bool) (n : ℕ) → (b && not (n == 0)) ≡ true → (b ≡ true) × (1 ≤ n)
both_on true zero h = absurd (let e : false ≡ true = h in cc)
both_on true (suc n) h = (refl, omega arith)
both_on false n h = absurd (let e : false ≡ true = h in cc)

or_on : (b : Bool) → (b || true) ≡ true
or_on true = refl
or_on false = refl

not_both : true ≡ false → ⊥
not_both h = cc

module _ (q : Tree) (s : Sizes) (had has : List (Option (List ℕ))) (c : Cutter) (r : Input) (k : Cuts q s had has c r) (e : c.ended ≡ Some AllRead) (due : is_due c.flush c.number AllRead ≡ true) where
  at_end : AtEnd q s c r k.dropped
  at_end = subst (CutState q s c r k.dropped) e k.state

  on : (c.flush ≡ true) × (1 ≤ c.number)
  on = both_on c.flush c.number due

  open_by : (b : Bool) → r.ended ≡ b → Flushes q s c r k.dropped b → (r.ended ≡ false) × (c.flush ≡ end_counts q s)
  open_by false h f = (h, f)
  open_by true h f = absurd (not_both (sym on.0 ∙ f.once))

  opened : (r.ended ≡ false) × (c.flush ≡ end_counts q s)
  opened = open_by r.ended refl k.flushes

  pub is_rows : r ≡ going_on r.rows
  is_rows = goes_on r opened.0

  some_size : 1 ≤ s.task
  some_size = k.sizes.task.0

  count_rows : c.number ≡ row_tasks s.task r
  count_rows = k.count ∙ ap (task_count s.task) is_rows

  had_rows : 1 ≤ length r.rows
  had_rows = omega (arith, on.1, count_rows, tasks_have_rows s.task (length r.rows) some_size)

  took_all : Took q no_rows (fresh q (limits_of s)) (reading_of c.reader) had has r.rows
  took_all = subst (Took q no_rows (fresh q (limits_of s)) (reading_of c.reader) had has) (ap (λ l. r.rows ++ l) at_end.none_dropped ∙ append-nil r.rows) k.took

  marks_small : ((mark_of r.rows).left ≤ 2 ^ 40) × ((mark_of r.rows).right ≤ 2 ^ 40)
  marks_small = small_marks q (mark_of r.rows) (reading_of c.reader) took_all.reads

  pub behind : Behind q s.task r.rows c.number c.mark
  behind = record {
    windows = k.windows;
    some = some_size;
    ordered = took_all.ordered;
    count = count_rows;
    mark = at_end.mark opened.0;
    left = subst (λ (m : Mark). m.left ≤ 2 ^ 40) (sym (at_end.mark opened.0)) marks_small.0;
    right = subst (λ (m : Mark). m.right ≤ 2 ^ 40) (sym (at_end.mark opened.0)) marks_small.1;
  }

  pub back : LooksBack q s.task r.rows c.number c.lasts
  back = at_end.back opened.0

  needs_are : (first needs : ℕ) → first ≡ free q s.task (going_on r.rows) c.number → needs ≡ c.number - first + 1 → needs ≡ need q s.task r c.number
  needs_are first needs is n = n ∙ ap (λ t. c.number - t + 1) (is ∙ ap (λ i. free q s.task i c.number) (sym is_rows))

  -- it isn't given
  pub wide_cuts : (l : Option Lasts) (first needs : ℕ) → first ≡ free q s.task (going_on r.rows) c.number → needs ≡ c.number - first + 1 → c.room < needs → Cuts q s had has (record c { lasts = l; ended = Some (TooWide c.number needs) }) r
  wide_cuts l first needs is n wide = record {
    windows = k.windows;
    sizes = k.sizes;
    made = record { size = k.made.size; room = k.made.room };
    dropped = k.dropped;
    took = k.took;
    count = k.count;
    near = k.near;
    whole = k.whole;
    flushes = subst (Flushes q s (record c { lasts = l; ended = Some (TooWide c.number needs) }) r k.dropped) (sym opened.0) opened.1;
    state = record {
      task_is = refl;
      unended = opened.0;
      ended = true;
      there = record { counts = sym opened.1 ∙ on.0; had_rows = had_rows; none_dropped = at_end.none_dropped; has_end = at_end.has_end };
      needs_is = needs_are first needs is n;
      wide = subst (λ m. m < needs) k.made.room wide;
    };
  }

  -- it is
  pub end_near : (first : ℕ) → first ≡ free q s.task (going_on r.rows) c.number → c.number - first + 1 ≤ c.room → need q s.task r c.number ≤ s.ring
  end_near first is near = subst (λ m. need q s.task r c.number ≤ m) k.made.room (subst (λ n. n ≤ c.room) (needs_are first (c.number - first + 1) is refl) near)

  module _ (b : Block) (none : b.rows ≡ []) (ends : b.ended ≡ true) (near : need q s.task r c.number ≤ s.ring) where
    no_more : r.rows ++ b.rows ≡ r.rows
    no_more = ap (λ l. r.rows ++ l) none ∙ append-nil r.rows

    pub end_next : b.number ≡ c.number → b.before ≡ c.mark → b.first ≡ free q s.task (going_on r.rows) c.number → b.earlier.before ≡ c.mark → b.earlier.rows ≡ [] → IsNextBlock q s r b
    end_next number at first behind_all alone = record {
      windows = k.windows;
      size = some_size;
      unended = opened.0;
      number = number ∙ k.count;
      before = at ∙ at_end.mark opened.0;
      earlier = none_earlier r.rows b.earlier (behind_all ∙ at_end.mark opened.0) alone;
      first = first ∙ ap (λ i. free q s.task i c.number) (sym is_rows) ∙ ap (free q s.task r) (sym number);
      near = subst (λ t. need q s.task r t ≤ s.ring) (sym number) near;
      fits = subst (RowsFit q no_rows) (sym no_more) (record { rows = took_all.fits; ordered = took_all.ordered; left = marks_small.0; right = marks_small.1 });
      adds = subst (Adds q s r b) (sym ends) (record { counts = sym opened.1 ∙ on.0; had_rows = had_rows; none = none });
    }

    abbrev all : Input
    all = record { rows = r.rows; ended = true }

    fits_in : length r.rows ≤ c.number * s.task
    fits_in = let h = div_ceil_times (length r.rows) s.task some_size in omega (arith, h.0, ap (λ t. t * s.task) count_rows)

    front : upto s.task all c.number ≡ r
    front =
        let here = fits_in in
        upto_rows s.task all c.number (omega (arith, count_rows)) ∙ ap going_on (take_all (min (c.number * s.task) (length r.rows)) r.rows (omega (arith, here))) ∙ sym is_rows

    module _ (l : Option Lasts) where
      abbrev pub given : Cutter
      given = record c { lasts = l; number = c.number + 1; flush = false }

      near_all : (u : ℕ) → u < c.number + 1 → need q s.task all u ≤ s.ring
      near_all u h =
          let less : u ≤ c.number = omega (arith, h) in
          let same : need q s.task r u ≡ need q s.task all u = need_stays q s.task r all c.number u some_size front less in
          subst (λ n. n ≤ s.ring) same (⊎_elim (λ j. k.near u j) (λ j. let at : u ≡ c.number = omega (arith, h, j) in subst (λ t. need q s.task r t ≤ s.ring) (sym at) near) (cases_lt u c.number))

      comes : EndComes q s given all k.dropped
      comes = record { counts = sym opened.1 ∙ on.0; had_rows = had_rows; none_dropped = at_end.none_dropped; has_end = at_end.has_end }

      all_cuts : Cuts q s had has given all
      all_cuts = record {
        windows = k.windows;
        sizes = k.sizes;
        made = record { size = k.made.size; room = k.made.room };
        dropped = k.dropped;
        took = k.took;
        count = ap (λ t. t + 1) count_rows;
        near = near_all;
        whole = inr (at_end.none_dropped, all_read, at_end.has_end);
        flushes = record { comes = comes; ended = e; once = refl };
        state = subst (CutState q s given all k.dropped) (sym e) (record { none_dropped = at_end.none_dropped; has_end = at_end.has_end; mark = λ h. absurd (not_both h); back = λ h. absurd (not_both h) });
      }

      same_input : all ≡ and_block r b
      same_input = λ i. record { rows = sym no_more i; ended = (sym (or_on r.ended) ∙ ap (λ x. r.ended || x) (sym ends)) i }

      pub end_cuts : Cuts q s had has given (and_block r b)
      end_cuts = subst (Cuts q s had has given) same_input all_cuts
