-- A block that is read: it is kept, or an end comes in its place.
use Rattle.std.proofs.Common.{inl, ◌≡◌, ◌≤◌, ◌<◌, ℕ, suc, zero, ◌==◌, length, List, [], ◌∷◌, ◌++◌, Option, Some, None, Result, Ok, Err, Bool, true, false, cond, not, ◌&&◌, refl, sym, ◌∙◌, ap, subst, arith, append-nil}
use Rattle.std.proofs.lemmas.Bool.Decides.{nat_tests}
use Rattle.saber_plan.specs.Sizes.{limits_of}
use Rattle.saber_plan.specs.declared.rows.Row.{Row}
use Rattle.saber_plan.specs.declared.windows.Mark.{Mark}
use Rattle.saber_plan.specs.Windows.{no_rows, mark_after, mark_of}
use Rattle.saber_plan.specs.Trees.{Tree}
use Rattle.saber_plan.specs.declared.sizes.Sizes.{Sizes}
use Rattle.saber_plan.specs.Inputs.{Input, going_on}
use Rattle.saber_plan.specs.Needs.{need}
use Rattle.saber_dispatch.specs.declared.ends.End.{End}
use Rattle.saber_dispatch.specs.declared.ends.End.TheVariants.{AllRead, Bad, ReadFault, TooWide, NoMemory}
use Rattle.saber_dispatch.specs.declared.reader.Reader.{Reader}
use Rattle.saber_dispatch.specs.declared.cutter.Cutter.{Cutter}
use Rattle.saber_dispatch.specs.Readings.{reading_of, Reads}
use Rattle.saber_dispatch.specs.Filling.{Took, keeps, keeps_rows, Fills}
use Rattle.saber_dispatch.specs.Cutting.{Goes, CutState, Cuts, FilledState, Filled, Flushes, end_counts, fresh, ended_by, stops}
use Rattle.saber_dispatch.proofs.Fillings.{took_on, mark_append}
use Rattle.saber_dispatch.proofs.NextTasks.{goes_on}

-- ---- whether a block is kept

kept_parts : (e : End) (n : ℕ) → stops (Err e) n ≡ None → (keeps e ≡ true) × (1 ≤ n)
kept_parts e n h = by_case (keeps e) refl where
  by_case : (b : Bool) → keeps e ≡ b → (keeps e ≡ true) × (1 ≤ n)
  by_case true k = (k, by_count n (ap (λ c. cond (c && not (n == 0)) None (Some e)) (sym k) ∙ h)) where
    by_count : (m : ℕ) → cond {A = Option End} (true && not (m == 0)) None (Some e) ≡ None → 1 ≤ m
    by_count zero g = absurd (some_none g) where
      some_none : ◌≡◌ {A = Option End} (Some e) None → ⊥
      some_none i = cc
    by_count (suc m) g = omega arith
  by_case false k = absurd (some_none (ap (λ c. cond (c && not (n == 0)) None (Some e)) (sym k) ∙ h)) where
    some_none : ◌≡◌ {A = Option End} (Some e) None → ⊥
    some_none i = cc

same_end : (e end : End) (b : Bool) → cond {A = Option End} b None (Some e) ≡ Some end → e ≡ end
same_end e end true h = cc
same_end e end false h = cc

-- an end that keeps rows comes where there are none
none_there : (e end : End) (n : ℕ) → keeps e ≡ true → stops (Err e) n ≡ Some end → n ≡ 0
none_there e end zero k h = refl
none_there e end (suc n) k h =
    let some : (suc n == 0) ≡ false = grind (arith, nat_tests) in
    absurd (none_some (sym (ap (λ b. cond {A = Option End} (true && not b) None (Some e)) some) ∙ ap (λ c. cond (c && not (suc n == 0)) None (Some e)) (sym k) ∙ h)) where
      none_some : ◌≡◌ {A = Option End} None (Some end) → ⊥
      none_some i = cc

no_rows_there : (xs : List Row) → length xs ≡ 0 → xs ≡ []
no_rows_there [] h = refl
no_rows_there (x ∷ xs) h = cc

-- what was read goes on from the cutter's mark
pub reads_now : (q : Tree) (s : Sizes) (had has : List (Option (List ℕ))) (c : Cutter) (r : Input) → Cuts q s had has c r → c.ended ≡ None → Reads q c.mark (reading_of c.reader)
reads_now q s had has c r k e =
    let g : Goes q s c r k.dropped = subst (CutState q s c r k.dropped) e k.state in
    subst (λ m. Reads q m (reading_of c.reader)) (ap (λ l. mark_of (r.rows ++ l)) g.none_dropped ∙ ap mark_of (append-nil r.rows) ∙ sym g.mark) k.took.reads

module _ (q : Tree) (s : Sizes) (had has now : List (Option (List ℕ))) (c : Cutter) (r : Input) (k : Cuts q s had has c r) (open_still : c.ended ≡ None)
    (filled : Result (Unit {0}) End) (new : Reader) (mark : Mark) (start rows : List Row) (empty : start ≡ []) (f : Fills filled q c.size c.mark mark (reading_of c.reader) (reading_of new) has now start rows) where
  abbrev pub after : Option End → Cutter
  after e = record c { reader = new; mark = mark; ended = e }

  goes : Goes q s c r k.dropped
  goes = subst (CutState q s c r k.dropped) open_still k.state

  -- the input so far is rows
  pub is_rows : r ≡ going_on r.rows
  is_rows = goes_on r goes.unended

  before_took : Took q no_rows (fresh q (limits_of s)) (reading_of c.reader) had has r.rows
  before_took = subst (Took q no_rows (fresh q (limits_of s)) (reading_of c.reader) had has) (ap (λ l. r.rows ++ l) goes.none_dropped ∙ append-nil r.rows) k.took

  all_took : Took q no_rows (fresh q (limits_of s)) (reading_of new) had now (r.rows ++ f.rows)
  all_took = took_on q no_rows (fresh q (limits_of s)) (reading_of c.reader) (reading_of new) had has now r.rows f.rows before_took (subst (λ m. Took q m (reading_of c.reader) (reading_of new) has now f.rows) goes.mark f.took)

  kept_rows : keeps_rows filled ≡ true → f.rows ≡ rows
  kept_rows e = sym (f.kept e ∙ ap (λ l. l ++ f.rows) empty)

  marks : mark ≡ mark_of (r.rows ++ f.rows)
  marks = f.mark ∙ ap (λ m. mark_after m f.rows) goes.mark ∙ sym (mark_append no_rows r.rows f.rows)

  counts : c.flush ≡ end_counts q s
  counts = subst (Flushes q s c r k.dropped) goes.unended k.flushes

  filled_by : f.rows ≡ rows → 1 ≤ length rows → FilledState s (after (ended_by filled)) rows (ended_by filled) → Filled q s had now (after (ended_by filled)) r.rows c.mark rows
  filled_by e some h = record {
    windows = k.windows;
    sizes = k.sizes;
    made = record { size = k.made.size; room = k.made.room };
    took = subst (λ l. Took q no_rows (fresh q (limits_of s)) (reading_of new) had now (r.rows ++ l)) e all_took;
    some = some;
    few = subst (λ n. length rows ≤ n) k.made.size (subst (λ l. length l ≤ c.size) e f.few);
    whole = goes.whole;
    near = λ u l. subst (λ i. need q s.task i u ≤ s.ring) is_rows (k.near u l);
    counts = counts;
    before_is = goes.mark;
    mark = marks ∙ ap (λ l. mark_of (r.rows ++ l)) e;
    back = goes.back;
    state = h;
  }

  state_at : (e : End) → filled ≡ Err e → keeps e ≡ true → FilledState s (after (ended_by filled)) rows (Some e)
  state_at AllRead h g = f.ends AllRead h
  state_at (Bad side line cause) h g = f.ends (Bad side line cause) h
  state_at (ReadFault side) h g = cc
  state_at (TooWide task needs) h g = cc
  state_at NoMemory h g = cc

  pub is_filled : (x : Result (Unit {0}) End) → filled ≡ x → stops x (length rows) ≡ None → Filled q s had now (after (ended_by filled)) r.rows c.mark rows
  is_filled (Ok u) e h =
      let own = kept_rows (ap keeps_rows e) in
      let full = f.full u e in
      let count : length rows ≡ c.size = ap length (sym own) ∙ full.0 in
      let all : length rows ≡ s.task = count ∙ k.made.size in
      filled_by own (omega (arith, all, k.sizes.task)) (subst (FilledState s (after (ended_by filled)) rows) (sym (ap ended_by e)) (full.1, all))
  is_filled (Err end) e h =
      let parts = kept_parts end (length rows) h in
      filled_by (kept_rows (ap keeps_rows e ∙ parts.0)) parts.1 (subst (FilledState s (after (ended_by filled)) rows) (sym (ap ended_by e)) (state_at end e parts.0))

  -- ---- an end in its place

  none_read : (e end : End) → filled ≡ Err e → keeps e ≡ true → stops (Err e) (length rows) ≡ Some end → f.rows ≡ []
  none_read e end h g i = kept_rows (ap keeps_rows h ∙ g) ∙ no_rows_there rows (none_there e end (length rows) g i)

  ended_state : (e end : End) → filled ≡ Err e → stops (Err e) (length rows) ≡ Some end → CutState q s (after (Some e)) r f.rows (Some e)
  ended_state AllRead end h i =
      let none = none_read AllRead end h refl i in
      record { none_dropped = none; has_end = f.ends AllRead h; mark = λ _. marks ∙ ap (λ l. mark_of (r.rows ++ l)) none ∙ ap mark_of (append-nil r.rows); back = λ _. goes.back }
  ended_state (Bad side line cause) end h i = record { none_dropped = none_read (Bad side line cause) end h refl i; unended = goes.unended; has_end = f.ends (Bad side line cause) h }
  ended_state (ReadFault side) end h i =
      record { needs = f.ends (ReadFault side) h; unended = goes.unended; whole = goes.whole; few = subst (λ n. length f.rows < n) k.made.size (f.short (ReadFault side) h (λ g. cc)) }
  ended_state (TooWide task needs) end h i = absurd (f.ends (TooWide task needs) h)
  ended_state NoMemory end h i = tt

  ended_cuts : (e end : End) → filled ≡ Err e → stops (Err e) (length rows) ≡ Some end → Cuts q s had now (after (Some e)) r
  ended_cuts e end h i = record {
    windows = k.windows;
    sizes = k.sizes;
    made = record { size = k.made.size; room = k.made.room };
    dropped = f.rows;
    took = all_took;
    count = k.count;
    near = k.near;
    whole = inl goes.whole;
    flushes = subst (Flushes q s (after (Some e)) r f.rows) (sym goes.unended) counts;
    state = ended_state e end h i;
  }

  pub is_ended : (x : Result (Unit {0}) End) (end : End) → filled ≡ x → stops x (length rows) ≡ Some end → (ended_by filled ≡ Some end) × Cuts q s had now (after (ended_by filled)) r
  is_ended (Ok u) end e h = absurd (none_some h) where
    none_some : ◌≡◌ {A = Option End} None (Some end) → ⊥
    none_some i = cc
  is_ended (Err x) end e h =
      (ap ended_by e ∙ ap (λ y. Some y) (same_end x end (keeps x && not (length rows == 0)) h), subst (λ o. Cuts q s had now (after o) r) (sym (ap ended_by e)) (ended_cuts x end e h))
