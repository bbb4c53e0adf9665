-- A block that was read, and what the cutter then is.
use Rattle.std.proofs.Common.{inl, inr, ◌≡◌, ◌≤◌, ◌<◌, ◌^◌, ℕ, ◌+◌, ◌-◌, ◌*◌, length, List, [], ◌∷◌, ◌++◌, Option, Some, None, Result, Ok, Err, OnOk, false, refl, sym, ◌∙◌, ap, subst, ⊎_elim, arith, length-append, append-nil}
use Rattle.std.proofs.lemmas.Bool.{cases_lt}
use Rattle.std.specs.Int.{div_ceil}
use Rattle.std.specs.List.{AllByRecursion}
use Rattle.saber_plan.specs.Sizes.{limits_of}
use Rattle.saber_plan.specs.declared.rows.Row.{Row}
use Rattle.saber_plan.specs.declared.rows.Side.{Side}
use Rattle.saber_plan.specs.declared.rows.Side.TheVariants.{Left, Right}
use Rattle.saber_plan.specs.declared.windows.Mark.{Mark}
use Rattle.saber_plan.specs.Rows.{stamp, all_read, bad}
use Rattle.saber_plan.specs.Windows.{by_side, Ordered, no_rows, step_mark, mark_after, mark_of}
use Rattle.saber_plan.specs.Inputs.{going_on}
use Rattle.saber_plan.specs.Trees.{Tree}
use Rattle.saber_plan.specs.declared.sizes.Sizes.{Sizes}
use Rattle.saber_plan.specs.GivenRows.{IsRowOf, RowsFit}
use Rattle.saber_plan.specs.Needs.{free, need}
use Rattle.saber_fragment.specs.declared.blocks.Block.{Block}
use Rattle.saber_fragment.specs.declared.blocks.Earlier.{Earlier}
use Rattle.saber_fragment.specs.Drafts.{EndWith}
use Rattle.saber_dispatch.specs.declared.ends.End.{End}
use Rattle.saber_dispatch.specs.declared.ends.End.TheVariants.{AllRead, Bad, ReadFault, TooWide, NoMemory}
use Rattle.saber_dispatch.specs.declared.cutter.Cutter.{Cutter}
use Rattle.saber_dispatch.specs.declared.lasts.Lasts.{Lasts}
use Rattle.saber_dispatch.specs.Readings.{reading_of}
use Rattle.saber_dispatch.specs.Filling.{Took}
use Rattle.saber_dispatch.specs.Cutting.{AreWhole, LooksBack, Behind, IsTooWide, CutState, Cuts, Adds, IsNextBlock, FilledState, Filled, fresh}
use Rattle.saber_dispatch.proofs.Fillings.{small as small_marks, mark_append}
use Rattle.saber_dispatch.proofs.NextTasks.{upto_seam, need_stays}
use Rattle.saber_plan.specs.Facts.Counts.{whole_tasks, one_task_more}
use Rattle.saber_window.proofs.Stamps.{stamps_fit}

pub on_ok : {X E : Type 0} (r : Result X E) (P Q : Type 0) → OnOk r P → (P → Q) → OnOk r Q
on_ok (Ok x) P Q h f = f h
on_ok (Err x) P Q h f = h

pub times_of : (q : Tree) (xs : List Row) → AllByRecursion (IsRowOf q) xs → AllByRecursion (λ r. stamp r.values < 2 ^ 63) xs
times_of q [] h = tt
times_of q (x ∷ xs) h = (omega (arith, stamps_fit _ _ x h.0.fits), times_of q xs h.1)

-- ---- parts of lists

all_back : {A : Type 0} (P : A → Type 0) (xs ys : List A) → AllByRecursion P (xs ++ ys) → AllByRecursion P ys
all_back P [] ys h = h
all_back P (x ∷ xs) ys h = all_back P xs ys h.1

pub ordered_front : (m : Mark) (xs ys : List Row) → Ordered m (xs ++ ys) → Ordered m xs
unfolding Ordered
ordered_front m [] ys h = tt
ordered_front m (x ∷ xs) ys h = (h.0, ordered_front (step_mark m x) xs ys h.1)

ordered_back : (m : Mark) (xs ys : List Row) → Ordered m (xs ++ ys) → Ordered (mark_after m xs) ys
unfolding Ordered
ordered_back m [] ys h = h
ordered_back m (x ∷ xs) ys h = ordered_back (step_mark m x) xs ys h.1

left_rises : (m : Mark) (xs : List Row) → m.left ≤ (mark_after m xs).left
left_rises m [] = omega arith
left_rises m (x ∷ xs) = omega (arith, left_rises (step_mark m x) xs, by_case x.side) where
  by_case : (s : Side) → m.left ≤ by_side s (m.left + 1) m.left
  by_case Left = omega arith
  by_case Right = omega arith

right_rises : (m : Mark) (xs : List Row) → m.right ≤ (mark_after m xs).right
right_rises m [] = omega arith
right_rises m (x ∷ xs) = omega (arith, right_rises (step_mark m x) xs, by_case x.side) where
  by_case : (s : Side) → m.right ≤ by_side s m.right (m.right + 1)
  by_case Left = omega arith
  by_case Right = omega arith

-- none of some rows are the last of them
pub none_earlier : (xs : List Row) (e : Earlier) → e.before ≡ mark_of xs → e.rows ≡ [] → EndWith xs e
none_earlier xs e at none = record { front = xs; rows_are = sym (ap (λ l. xs ++ l) none ∙ append-nil xs); before_is = at }

-- ---- the rows of a block

module _ (q : Tree) (s : Sizes) (had has : List (Option (List ℕ))) (c : Cutter) (xs : List Row) (before : Mark) (rows : List Row) (f : Filled q s had has c xs before rows) where
  all_small : ((mark_of (xs ++ rows)).left ≤ 2 ^ 40) × ((mark_of (xs ++ rows)).right ≤ 2 ^ 40)
  all_small = small_marks q (mark_of (xs ++ rows)) (reading_of c.reader) f.took.reads

  marks : mark_of (xs ++ rows) ≡ mark_after before rows
  marks = mark_append no_rows xs rows ∙ ap (λ m. mark_after m rows) (sym f.before_is)

  some_size : 1 ≤ s.task
  some_size = f.sizes.task.0

  pub behind : Behind q s.task xs c.number before
  behind = record {
    windows = f.windows;
    some = some_size;
    ordered = ordered_front no_rows xs rows f.took.ordered;
    count = whole_tasks s.task c.number (length xs) some_size f.whole;
    mark = f.before_is;
    left = omega (arith, left_rises before rows, subst (λ (m : Mark). m.left ≤ 2 ^ 40) marks all_small.0);
    right = omega (arith, right_rises before rows, subst (λ (m : Mark). m.right ≤ 2 ^ 40) marks all_small.1);
  }

  pub own_fit : RowsFit q before rows
  own_fit = record {
    rows = all_back (IsRowOf q) xs rows f.took.fits;
    ordered = subst (λ m. Ordered m rows) (sym f.before_is) (ordered_back no_rows xs rows f.took.ordered);
    left = subst (λ (m : Mark). m.left ≤ 2 ^ 40) marks all_small.0;
    right = subst (λ (m : Mark). m.right ≤ 2 ^ 40) marks all_small.1;
  }

  pub all_fit : RowsFit q no_rows (xs ++ rows)
  all_fit = record { rows = f.took.fits; ordered = f.took.ordered; left = all_small.0; right = all_small.1 }

  length_all : length (xs ++ rows) ≡ length xs + length rows
  length_all = length-append xs rows

  next_times : (c.number + 1) * s.task ≡ c.number * s.task + s.task
  next_times = grind arith

  -- the block isn't given
  pub dropped_cuts : (l : Option Lasts) (e : End) → CutState q s (record c { lasts = l; ended = Some e }) (going_on xs) rows (Some e) → Cuts q s had has (record c { lasts = l; ended = Some e }) (going_on xs)
  dropped_cuts l e h = record {
    windows = f.windows;
    sizes = f.sizes;
    made = record { size = f.made.size; room = f.made.room };
    dropped = rows;
    took = f.took;
    count = whole_tasks s.task c.number (length xs) some_size f.whole;
    near = f.near;
    whole = inl f.whole;
    flushes = f.counts;
    state = h;
  }

  pub is_too_wide : (l : Option Lasts) (e : End) (first needs : ℕ) → first ≡ free q s.task (going_on xs) c.number → needs ≡ c.number - first + 1 → c.room < needs → IsTooWide q s (record c { lasts = l; ended = Some e }) (going_on xs) rows c.number needs
  is_too_wide l e first needs is n wide = record { task_is = refl; unended = refl; ended = false; there = f.some; needs_is = n ∙ ap (λ k. c.number - k + 1) is; wide = subst (λ r. r < needs) f.made.room wide }

  -- it is
  pub is_near : (first : ℕ) → first ≡ free q s.task (going_on xs) c.number → c.number - first + 1 ≤ c.room → need q s.task (going_on xs) c.number ≤ s.ring
  is_near first is near = subst (λ r. need q s.task (going_on xs) c.number ≤ r) f.made.room (subst (λ k. c.number - k + 1 ≤ c.room) is near)

  pub is_next : (b : Block) → b.number ≡ c.number → b.before ≡ before → b.rows ≡ rows → b.ended ≡ false → b.first ≡ free q s.task (going_on xs) c.number → c.number - b.first + 1 ≤ c.room → b.earlier.before ≡ before → b.earlier.rows ≡ [] → IsNextBlock q s (going_on xs) b
  is_next b number at own goes first near behind_all none = record {
    windows = f.windows;
    size = some_size;
    unended = refl;
    number = number ∙ whole_tasks s.task c.number (length xs) some_size f.whole;
    before = at ∙ f.before_is;
    earlier = none_earlier xs b.earlier (behind_all ∙ f.before_is) none;
    first = first ∙ ap (free q s.task (going_on xs)) (sym number);
    near = subst (λ k. need q s.task (going_on xs) k ≤ s.ring) (sym number) (is_near b.first first near);
    fits = subst (λ l. RowsFit q no_rows (xs ++ l)) (sym own) all_fit;
    adds = subst (λ e. Adds q s (going_on xs) b e) (sym goes) (record {
      whole = f.whole ∙ ap (λ k. k * s.task) (sym number);
      some = subst (λ l. 1 ≤ length l) (sym own) f.some;
      few = subst (λ l. length l ≤ s.task) (sym own) f.few;
    });
  }

  module _ (l : Option Lasts) (back : LooksBack q s.task (xs ++ rows) (c.number + 1) l) (near : need q s.task (going_on xs) c.number ≤ s.ring) where
    abbrev pub given : Cutter
    given = record c { lasts = l; number = c.number + 1 }

    state_by : (e : Option End) → FilledState s c rows e → CutState q s given (going_on (xs ++ rows)) [] e
    state_by None h = record {
      none_dropped = refl;
      unended = refl;
      open_still = h.0;
      whole = omega (arith, length_all, f.whole, h.1, next_times);
      mark = f.mark;
      back = back;
    }
    state_by (Some AllRead) h = record { none_dropped = refl; has_end = h; mark = λ _. f.mark; back = λ _. back }
    state_by (Some (Bad side line cause)) h = record { none_dropped = refl; unended = refl; has_end = h }
    state_by (Some (ReadFault side)) h = absurd h
    state_by (Some (TooWide task needs)) h = absurd h
    state_by (Some NoMemory) h = absurd h

    whole_by : (e : Option End) → FilledState s c rows e → AreWhole s given (going_on (xs ++ rows)) []
    whole_by None h = inl (omega (arith, length_all, f.whole, h.1, next_times))
    whole_by (Some AllRead) h = inr (refl, all_read, h)
    whole_by (Some (Bad side line cause)) h = inr (refl, bad side line cause, h)
    whole_by (Some (ReadFault side)) h = absurd h
    whole_by (Some (TooWide task needs)) h = absurd h
    whole_by (Some NoMemory) h = absurd h

    stays : (u : ℕ) → u ≤ c.number → need q s.task (going_on xs) u ≤ s.ring → need q s.task (going_on (xs ++ rows)) u ≤ s.ring
    stays u h k = subst (λ n. n ≤ s.ring) (need_stays q s.task (going_on xs) (going_on (xs ++ rows)) c.number u some_size (upto_seam s.task xs rows false c.number some_size f.whole) h) k

    near_by : (u : ℕ) → u < c.number + 1 → need q s.task (going_on (xs ++ rows)) u ≤ s.ring
    near_by u h = ⊎_elim (λ k. stays u (omega (arith, k)) (f.near u k)) (λ k. let same : u ≡ c.number = omega (arith, h, k) in stays u (omega (arith, same)) (subst (λ t. need q s.task (going_on xs) t ≤ s.ring) (sym same) near)) (cases_lt u c.number)

    pub given_cuts : Cuts q s had has given (going_on (xs ++ rows))
    given_cuts = record {
      windows = f.windows;
      sizes = f.sizes;
      made = record { size = f.made.size; room = f.made.room };
      dropped = [];
      took = subst (λ l. Took q no_rows (fresh q (limits_of s)) (reading_of c.reader) had has l) (sym (append-nil (xs ++ rows))) f.took;
      count = one_task_more s.task c.number (length xs) (length rows) some_size f.whole f.some f.few ∙ ap (λ k. div_ceil k s.task) (sym length_all);
      near = near_by;
      whole = whole_by c.ended f.state;
      flushes = f.counts;
      state = state_by c.ended f.state;
    }
