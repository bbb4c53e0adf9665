-- A draft of a task, block by block.
use Rattle.std.proofs.Common.{◌≡◌, ℕ, ◌+◌, ◌≤◌, List, [], ◌∷◌, ◌++◌, take, slice_range, Bool, true, false, cond, ◌==◌, refl, sym, ◌∙◌, ap, subst, le_trans, arith}
use Rattle.std.proofs.lemmas.Bool.Decides.{nat_tests}
use Rattle.saber_plan.specs.declared.rows.Row.{Row}
use Rattle.saber_plan.specs.Inputs.{Input}
use Rattle.saber_plan.specs.declared.windows.Mark.{Mark}
use Rattle.saber_plan.specs.Trees.{Tree}
use Rattle.saber_plan.specs.Windows.{Fits, no_rows, mark_after}
use Rattle.saber_plan.specs.Answers.{frame}
use Rattle.saber_plan.specs.GivenRows.{RowsFit}
use Rattle.saber_plan.specs.Tasks.{task_start, upto, places}
use Rattle.saber_plan.specs.Needs.{free, back_mark, task_mark, task_rows, task_ends}
use Rattle.saber_plan.specs.Shares.{shares_here, handed_here}
use Rattle.saber_fragment.specs.declared.blocks.Block.{Block}
use Rattle.saber_fragment.specs.declared.blocks.Earlier.{Earlier}
use Rattle.saber_fragment.specs.Drafts.{EndWith, CanStart, Sight, own_sight, begins, seen_back, CanLookBack, IsWhole, IsSightOf}
use Rattle.saber_fragment.specs.LookBack.{IsBlock, sight_to, SeesAll}
use Rattle.saber_plan.specs.Facts.Lists.{slice-join, nothing_between}
use Rattle.saber_fragment.proofs.Slicing.{fits_between, not_before, mark_on, mark_behind, fits_behind}
use Rattle.saber_laws.proofs.TaskCutLaws.{cuts_rise}
use Rattle.saber_laws.proofs.LocalLaws.{handed_needs_no_more, shares_need_no_more}
use Rattle.saber_laws.proofs.FreeLaws.{none_needed_behind, tasks_look_back}

-- where rows begin, of which there are none with the first block
starts_at : (l : List Row) (c : Bool) (t m b : Mark) → (c ≡ true → l ≡ []) → b ≡ mark_after m l → begins l (cond c t m) b ≡ m
starts_at [] c t m b none e = e
starts_at (x ∷ l) true t m b none e = absurd (let h = none refl in cc)
starts_at (x ∷ l) false t m b none e = refl

same_if : (a b : ℕ) → (a == b) ≡ true → a ≡ b
same_if a b e = grind (arith, nat_tests)

not_first : (a u : ℕ) → a ≤ u → (u + 1 == a) ≡ false
not_first a u h = grind (arith, nat_tests)

itself : (a : ℕ) → (a == a) ≡ true
itself a = grind (arith, nat_tests)

last_case : (c : Bool) (t m : Mark) → (c ≡ true → t ≡ m) → cond c t m ≡ m
last_case true t m h = h refl
last_case false t m h = refl

module _ (q : Tree) (n : ℕ) (r : Input) (t : ℕ) (size : 1 ≤ n) (windows : Fits (frame q)) (fits : RowsFit q no_rows r.rows) where
  abbrev f : ℕ
  f = free q n r t

  abbrev at : ℕ → ℕ
  at u = task_start n r u

  rises : (a b : ℕ) → a ≤ b → at a ≤ at b
  rises a b h = cuts_rise n r a b h

  looks_back : f ≤ t
  looks_back = tasks_look_back q n r t size

  next_up : t ≤ t + 1
  next_up = omega arith

  -- the mark before task u, from the first one needed on
  mark_to : (u : ℕ) → f ≤ u → u ≤ t → task_mark n r u ≡ mark_after (back_mark q n r t) (slice_range r.rows (at f) (at u))
  mark_to u h l = elim ((upto n r t).ended) as (λ b. (upto n r t).ended ≡ b → task_mark n r u ≡ mark_after (back_mark q n r t) (slice_range r.rows (at f) (at u))) [
    | true ↦ λ e.
        let same : u ≡ f = let none = none_needed_behind q n r t e in omega (arith, none, h, l) in
        ap (task_mark n r) same ∙ sym (ap (λ l. mark_after (back_mark q n r t) l) (ap (λ k. slice_range r.rows (at f) (at k)) same ∙ nothing_between r.rows (at f)))
    | false ↦ λ e. mark_on r (at f) (at u) (rises f u h) (not_before r (at u) (at t) (rises u t l) e)
  ] refl

  own_rises : at t ≤ at (t + 1)
  own_rises = rises t (t + 1) next_up

  own_fit : RowsFit q (task_mark n r t) (task_rows n r t)
  own_fit = fits_between q r (at t) (at (t + 1)) fits

  -- the earlier rows that its block has stand right before the task's own
  started : (b : Block) → IsBlock q n r t b → (upto n r t).ended ≡ false → CanStart q b
  started b h opens = record {
    fits = subst (λ m. RowsFit q m b.rows) (sym h.before) (subst (RowsFit q (task_mark n r t)) (sym h.rows) own_fit);
    meets = h.before ∙ mark_behind r (at t) b.earlier h.earlier opens;
    all_fit = subst (λ l. RowsFit q b.earlier.before (b.earlier.rows ++ l)) (sym h.rows) (fits_behind r (at t) b.earlier h.earlier q (at (t + 1)) own_rises fits);
  }

  begun : (b : Block) → IsBlock q n r t b → own_sight b ≡ sight_to q n r t b.earlier f
  begun b h = λ j. record {
    first = (h.before ∙ sym (ap (λ c. cond c (task_mark n r t) (back_mark q n r t)) (itself f))) j;
    back = sym (nothing_between r.rows (at f)) j;
    earlier = b.earlier;
    before = h.before j;
    rows = h.rows j;
    places = h.places j;
    ended = h.ended j;
  }

  module _ (e : Earlier) (u : ℕ) (b : Block) (low : f ≤ u) (high : u + 1 ≤ t) (is : IsBlock q n r u b) where
    abbrev s : Sight
    s = sight_to q n r t e u

    up : u ≤ u + 1
    up = omega arith

    none_yet : (u == f) ≡ true → slice_range r.rows (at f) (at u) ≡ []
    none_yet first = ap (λ k. slice_range r.rows (at f) (at k)) (same_if u f first) ∙ nothing_between r.rows (at f)

    there : b.before ≡ mark_after (back_mark q n r t) (slice_range r.rows (at f) (at u))
    there = is.before ∙ mark_to u low (le_trans up high)

    first_is : (seen_back s b).first ≡ back_mark q n r t
    first_is = starts_at (slice_range r.rows (at f) (at u)) (u == f) (task_mark n r t) (back_mark q n r t) b.before none_yet there

    back_is : (seen_back s b).back ≡ slice_range r.rows (at f) (at (u + 1))
    back_is = ap (λ l. slice_range r.rows (at f) (at u) ++ l) is.rows ∙ sym (slice-join r.rows (at f) (at u) (at (u + 1)) (rises f u low) (rises u (u + 1) up))

    all_is : (seen_back s b).back ++ slice_range r.rows (at (u + 1)) (at t) ≡ slice_range r.rows (at f) (at t)
    all_is = ap (λ l. l ++ slice_range r.rows (at (u + 1)) (at t)) back_is ∙ sym (slice-join r.rows (at f) (at (u + 1)) (at t) (rises f (u + 1) (le_trans low up)) (rises (u + 1) t high))

    can_look_back : CanLookBack q s b
    can_look_back = record {
      between = slice_range r.rows (at (u + 1)) (at t);
      goes_on = there ∙ sym (ap (λ m. mark_after m (slice_range r.rows (at f) (at u))) first_is);
      meets = mark_to t looks_back (omega arith) ∙ sym (λ j. mark_after (first_is j) (all_is j));
      fits = subst (λ m. RowsFit q m (((seen_back s b).back ++ slice_range r.rows (at (u + 1)) (at t)) ++ task_rows n r t)) (sym first_is)
          (subst (RowsFit q (back_mark q n r t)) (slice-join r.rows (at f) (at t) (at (t + 1)) (rises f t looks_back) own_rises ∙ ap (λ l. l ++ task_rows n r t) (sym all_is)) (fits_between q r (at f) (at (t + 1)) fits));
    }

    one_more : seen_back s b ≡ sight_to q n r t e (u + 1)
    one_more = λ j. record {
      first = (first_is ∙ sym (ap (λ c. cond c (task_mark n r t) (back_mark q n r t)) (not_first f u low))) j;
      back = back_is j;
      earlier = e;
      before = task_mark n r t;
      rows = task_rows n r t;
      places = places q r.rows (at t) (at (t + 1));
      ended = task_ends n r t;
    }

  module _ (e : Earlier) where
    abbrev all : Sight
    all = sight_to q n r t e t

    whole_first : all.first ≡ back_mark q n r t
    whole_first = last_case (t == f) (task_mark n r t) (back_mark q n r t) (λ same. ap (λ k. task_mark n r k) (same_if t f same))

    ended : IsWhole q all
    ended = record {
      meets = mark_to t looks_back (omega arith) ∙ sym (ap (λ m. mark_after m (slice_range r.rows (at f) (at t))) whole_first);
      fits = subst (λ m. RowsFit q m (slice_range r.rows (at f) (at t) ++ task_rows n r t)) (sym whole_first)
          (subst (RowsFit q (back_mark q n r t)) (slice-join r.rows (at f) (at t) (at (t + 1)) (rises f t looks_back) own_rises) (fits_between q r (at f) (at (t + 1)) fits));
    }

    given : (upto n r t).ended ≡ false → EndWith (take (at t) r.rows) e → IsSightOf q all r (at t) (at (t + 1))
    given opens last = record {
      windows = windows;
      fits = fits;
      rises = own_rises;
      opens = opens;
      earlier_are = last;
      before_is = refl;
      rows_are = refl;
      ended_is = refl;
      places_are = refl;
      hands = ap (λ m. handed_here q m (slice_range r.rows (at f) (at t)) (task_rows n r t) (task_ends n r t)) whole_first ∙ handed_needs_no_more q n r t size windows fits.ordered;
      gives = ap (λ m. shares_here q m (slice_range r.rows (at f) (at t)) (task_rows n r t) (task_ends n r t)) whole_first ∙ shares_need_no_more q n r t size windows fits.ordered;
    }

  pub drafts_look_back : SeesAll q n r t
  drafts_look_back = record { starts = started; begins = begun; can = can_look_back; goes_on = one_more; ends = ended; gives = given }
