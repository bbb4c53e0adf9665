-- Rows in front that are passed over.
use Rattle.std.proofs.Common.{◌≡◌, ◌≢◌, ℕ, zero, suc, ◌+◌, ◌-◌, ◌≤◌, ◌<◌, max, List, [], ◌∷◌, ◌++◌, filter, length, take, drop, get_or, Bool, true, false, cond, ◌&&◌, nat_le, nat_lt, ℤ, Option, Result, Ok, Err, OnOk, refl, sym, ◌∙◌, ap, subst, subst₂, le_trans, append-nil, append_assoc, length-append, arith}
use Rattle.std.proofs.lemmas.Bool.Decides.{nat_tests}
use Rattle.std.proofs.lemmas.List.{take_more, take-append-drop}
use Rattle.std.proofs.lemmas.List.Elements.{filter-append}
use Rattle.saber_plan.specs.declared.plans.Shape.TheVariants.{Join}
use Rattle.saber_plan.specs.declared.rows.Side.{Side}
use Rattle.saber_plan.specs.declared.rows.Side.TheVariants.{Left, Right}
use Rattle.saber_plan.specs.declared.rows.Row.{Row}
use Rattle.saber_plan.specs.declared.windows.Mark.{Mark}
use Rattle.saber_plan.specs.declared.windows.Measure.TheVariants.{Rows, Range}
use Rattle.saber_plan.specs.Trees.{Tree}
use Rattle.saber_plan.specs.Windows.{Frame, unwindowed, one, two, Fits, Placed, Ordered, by_side, has, step_mark, mark_after, placed_after, begun_count, closed_count}
use Rattle.saber_plan.specs.Answers.{frame}
use Rattle.saber_plan.specs.Parts.{Part, no_part, pair_part}
use Rattle.saber_plan.specs.Needs.{part_here, first_window, past_window}
use Rattle.saber_plan.specs.GivenRows.{RowsFit}
use Rattle.saber_plan.specs.Facts.Lists.{dropped, each-weaker}
use Rattle.saber_plan.specs.Facts.Rows.{mark-append, mark_more, placed-append, Ordered-append, fits_front, fits_back}
use Rattle.saber_fragment.specs.declared.blocks.Block.{Block}
use Rattle.saber_fragment.specs.Drafts.{Sight, begins, seen_back, CanLookBack, IsWhole}
use Rattle.saber_join.specs.declared.draft.JoinDraft.{JoinDraft}
use Rattle.saber_join.specs.Keeping.{NoneLies, lies_from}
use Rattle.saber_window.specs.Timed.{IsTimed}
use Rattle.saber_join.specs.Open.{Windows, HoldsTask}
use Rattle.saber_join.specs.Sights.{HasSeen}
use Rattle.saber_join.proofs.Holding.{behind_after, each-append}
use Rattle.saber_join.proofs.Task.{part_is, not_low}
use Rattle.saber_laws.proofs.WindowLaws.{begun_stay}
use Rattle.saber_laws.proofs.NeedLaws.{rows_span}

-- ---- by time, no row before one that lies in no window from c on lies in one

begun_is : (f : Frame) → IsTimed f → (m n : Mark) (x : Row) → past_window f (record { row = x; before = n }) ≡ begun_count f (step_mark m x)
begun_is unwindowed t m n x = refl
begun_is (one measure slide size) t m n x = absurd t
begun_is (two Rows slide left right) t m n x = absurd t
begun_is (two Range slide left right) t m n x = refl

not_far : (c first past : ℕ) → past ≤ c → nat_lt (max first c) past ≡ false
not_far c first past h = grind (arith, nat_tests)

not_above : (c past : ℕ) → nat_lt c past ≡ false → past ≤ c
not_above c past h = grind (arith, nat_tests)

module _ (f : Frame) (t : IsTimed f) (fits : Fits f) (c : ℕ) (n : Mark) (y : Row) (low : past_window f (record { row = y; before = n }) ≤ c) where
  before_last : (m : Mark) (x : Row) (xs : List Row) → Ordered (step_mark m x) (xs ++ y ∷ []) → past_window f (record { row = x; before = m }) ≤ c
  before_last m x xs o =
      let ends : begun_count f (mark_after (step_mark m x) (xs ++ y ∷ [])) ≡ past_window f (record { row = y; before = n }) = ap (begun_count f) (mark-append (step_mark m x) xs (y ∷ [])) ∙ sym (begun_is f t (mark_after (step_mark m x) xs) n y) in
      le_trans (subst₂ (λ a b. a ≤ b) (sym (begun_is f t m m x)) ends (begun_stay f fits (step_mark m x) (xs ++ y ∷ []) o)) low

  none_upto : (m : Mark) (xs : List Row) → Ordered m (xs ++ y ∷ []) → NoneLies f c (placed_after m (xs ++ y ∷ []))
  unfolding placed_after Ordered
  none_upto m [] o =
      let same : past_window f (record { row = y; before = n }) ≡ past_window f (record { row = y; before = m }) = begun_is f t m n y ∙ sym (begun_is f t m m y) in
      (not_far c (first_window f (record { row = y; before = m })) (past_window f (record { row = y; before = m })) (subst (λ k. k ≤ c) same low), tt)
  none_upto m (x ∷ xs) o =
      let one : Placed = record { row = x; before = m } in
      (not_far c (first_window f one) (past_window f one) (before_last m x xs o.1), none_upto (step_mark m x) xs o.1)

pub none_below : (f : Frame) → IsTimed f → Fits f → (c : ℕ) (m n : Mark) (xs : List Row) (k : ℕ) (r : Row) → k < length xs → get_or xs k r ≡ r → Ordered m xs → nat_lt c (past_window f (record { row = r; before = n })) ≡ false → NoneLies f c (placed_after m (take (k + 1) xs))
none_below f t fits c m n xs k r h e o past =
    let is : take (k + 1) xs ≡ take k xs ++ r ∷ [] = take_more xs k r h ∙ ap (λ x. take k xs ++ x ∷ []) e in
    let front : Ordered m (take (k + 1) xs) = (Ordered-append m (take (k + 1) xs) (drop (k + 1) xs) (subst (Ordered m) (sym (take-append-drop (k + 1) xs)) o)).0 in
    subst (λ l. NoneLies f c (placed_after m l)) (sym is) (none_upto f t fits c n r (not_above c _ past) m (take k xs) (subst (Ordered m) is front))

pub none_at_first : (q : Tree) (m n : Mark) → NoneLies (frame q) (closed_count (frame q) m) (placed_after n [])
unfolding placed_after
none_at_first q m n = tt

pub none_of_none : (f : Frame) (c : ℕ) (m : Mark) → NoneLies f c (placed_after m [])
unfolding placed_after
none_of_none f c m = tt

pub drop_at : (xs : List Row) (k : ℕ) (r : Row) → k < length xs → get_or xs k r ≡ r → drop k xs ≡ r ∷ drop (k + 1) xs
drop_at xs k r h e = at xs k h ∙ (let one : suc k ≡ k + 1 = omega arith in λ j. e j ∷ drop (one j) xs) where
  at : (ys : List Row) (n : ℕ) → n < length ys → drop n ys ≡ get_or ys n r ∷ drop (suc n) ys
  at [] n g = absurd (omega (arith, g))
  at (y ∷ ys) zero g = refl
  at (y ∷ ys) (suc n) g = at ys n (omega (arith, g))

-- ---- what is passed over makes no pair of windows from c on

not_in : (c i first past : ℕ) → c ≤ i → nat_lt (max first c) past ≡ false → (nat_le first i && nat_lt i past) ≡ false
not_in c i first past l h = grind (arith, nat_tests)

none_has : (f : Frame) → Fits f → (c i : ℕ) → c ≤ i → (us : List Placed) → NoneLies f c us → filter (has f i) us ≡ []
none_has f fits c i l us h = dropped (has f i) us (each-weaker (λ x. lies_from f c x ≡ false) (λ x. has f i x ≡ false) (λ x e. rows_span f fits i x ∙ not_in c i (first_window f x) (past_window f x) l e) us h)

low_same : (b : Bool) (p r : Part) → (b ≡ false → p ≡ r) → cond b no_part p ≡ cond b no_part r
low_same true p r h = refl
low_same false p r h = h refl

module _ (q : Tree) (e : q.shape ≡ Join) (fits : Fits (frame q)) (c : ℕ) (m : Mark) (us back rows : List Row) (none : NoneLies (frame q) c (placed_after m us)) where
  chosen : (i : ℕ) → c ≤ i → filter (has (frame q) i) (placed_after m ((us ++ back) ++ rows)) ≡ filter (has (frame q) i) (placed_after (mark_after m us) (back ++ rows))
  chosen i l =
      let p = has (frame q) i in
      let rest = placed_after (mark_after m us) (back ++ rows) in
      ap (λ xs. filter p (placed_after m xs)) (append_assoc us back rows)
      ∙ ap (filter p) (placed-append m us (back ++ rows))
      ∙ filter-append p (placed_after m us) rest
      ∙ ap (λ xs. xs ++ filter p rest) (none_has (frame q) fits c i l (placed_after m us) none)

  counts : m.left + m.right + length (us ++ back) ≡ (mark_after m us).left + (mark_after m us).right + length back
  counts = let long = length-append us back in let on = behind_after m us in omega (arith, long, on)

  part_passed : (i : ℕ) → c ≤ i → part_here q i (mark_after m us) back rows ≡ part_here q i m (us ++ back) rows
  part_passed i l =
      sym (part_is q (mark_after m us) back rows i e)
      ∙ sym (λ j. pair_part q (counts j) (chosen i l j))
      ∙ part_is q m (us ++ back) rows i e

  pub holds_all : (w : Windows) → HoldsTask q c (mark_after m us) back rows w → HoldsTask q c m (us ++ back) rows w
  holds_all w h = record { at = λ i. h.at i ∙ low_same (nat_lt i c) _ _ (λ f. part_passed i (not_low c i f)) }

-- ---- a draft with one block more

begins_placed : (xs : List Row) (m n : Mark) → placed_after (begins xs m n) xs ≡ placed_after m xs
unfolding placed_after
begins_placed [] m n = refl
begins_placed (x ∷ xs) m n = refl

begins_some : (xs : List Row) (m n : Mark) → length xs ≢ 0 → begins xs m n ≡ m
begins_some [] m n h = absurd (h refl)
begins_some (x ∷ xs) m n h = refl

module _ (q : Tree) (d : JoinDraft) (s : Sight) (b : Block) (seen : HasSeen q d s) (can : CanLookBack q s b) where
  abbrev start : Mark
  start = begins s.back s.first b.before

  pub block_fits : RowsFit q b.before b.rows
  block_fits =
      let all : RowsFit q start (s.back ++ b.rows) = fits_front q start (s.back ++ b.rows) can.between (fits_front q start ((s.back ++ b.rows) ++ can.between) s.rows can.fits) in
      subst (λ m. RowsFit q m b.rows) (sym can.goes_on) (fits_back q start s.back b.rows all)

  -- no row was kept so far
  module _ (empty : d.back ≡ []) (k : ℕ) (none : NoneLies (frame q) (closed_count (frame q) d.before) (placed_after b.before (take k b.rows))) where
    passed_is : s.back ≡ seen.passed
    passed_is = seen.back ∙ ap (λ l. seen.passed ++ l) empty ∙ append-nil seen.passed

    none_so_far : NoneLies (frame q) (closed_count (frame q) s.before) (placed_after start s.back)
    none_so_far = subst (NoneLies (frame q) (closed_count (frame q) s.before)) (ap (placed_after s.first) (sym passed_is) ∙ sym (begins_placed s.back s.first b.before)) seen.none

    none_here : NoneLies (frame q) (closed_count (frame q) s.before) (placed_after (mark_after start s.back) (take k b.rows))
    none_here = subst₂ (λ a m. NoneLies (frame q) (closed_count (frame q) a) (placed_after m (take k b.rows))) seen.before can.goes_on none

    pub begun_seen : (new : JoinDraft) → new.last ≡ (mark_after b.before (take k b.rows)).last → new.back ≡ drop k b.rows → new.before ≡ d.before → new.rows ≡ d.rows → new.ended ≡ d.ended → HasSeen q new (seen_back s b)
    begun_seen new last back before rows ended = record {
      passed = s.back ++ take k b.rows;
      back = ap (λ l. s.back ++ l) (sym (take-append-drop k b.rows)) ∙ sym (append_assoc s.back (take k b.rows) (drop k b.rows)) ∙ ap (λ l. (s.back ++ take k b.rows) ++ l) (sym back);
      last = ap (λ (m : Mark). m.last) (mark-append start s.back (take k b.rows) ∙ ap (λ m. mark_after m (take k b.rows)) (sym can.goes_on)) ∙ sym last;
      none = subst (NoneLies (frame q) (closed_count (frame q) s.before)) (sym (placed-append start s.back (take k b.rows))) (each-append _ (placed_after start s.back) (placed_after (mark_after start s.back) (take k b.rows)) none_so_far none_here);
      before = before ∙ seen.before;
      rows = rows ∙ seen.rows;
      ended = ended ∙ seen.ended;
    }

  -- some were kept
  module _ (some : length d.back ≢ 0) where
    still : start ≡ s.first
    still =
        let long : length s.back ≡ length seen.passed + length d.back = ap length seen.back ∙ length-append seen.passed d.back in
        begins_some s.back s.first b.before (λ none. some (omega (arith, none, long)))

    pub more_seen : (new : JoinDraft) → new.back ≡ d.back ++ b.rows → new.last ≡ d.last → new.before ≡ d.before → new.rows ≡ d.rows → new.ended ≡ d.ended → HasSeen q new (seen_back s b)
    more_seen new back last before rows ended = record {
      passed = seen.passed;
      back = ap (λ l. l ++ b.rows) seen.back ∙ append_assoc seen.passed d.back b.rows ∙ ap (λ l. seen.passed ++ l) (sym back);
      last = ap (λ m. (mark_after m seen.passed).last) still ∙ seen.last ∙ sym last;
      none = subst (λ m. NoneLies (frame q) (closed_count (frame q) s.before) (placed_after m seen.passed)) (sym still) seen.none;
      before = before ∙ seen.before;
      rows = rows ∙ seen.rows;
      ended = ended ∙ seen.ended;
    }

pub extended : {E : Type 0} (q : Tree) (d : JoinDraft) (b : Block) → length d.back ≢ 0 → (result : Result (Unit {0}) E) (back : List Row) → OnOk result (back ≡ d.back ++ b.rows)
    → OnOk result ((s : Sight) → HasSeen q d s → CanLookBack q s b → HasSeen q (record { last = d.last; back = back; before = d.before; rows = d.rows; ended = d.ended }) (seen_back s b))
extended q d b some (Ok u) back is = λ s seen can. more_seen q d s b seen can some (record { last = d.last; back = back; before = d.before; rows = d.rows; ended = d.ended }) is refl refl refl refl
extended q d b some (Err e) back is = tt

-- ---- where all is in

module _ (q : Tree) (d : JoinDraft) (s : Sight) (seen : HasSeen q d s) (all : IsWhole q s) where
  abbrev from : Mark
  from = mark_after s.first seen.passed

  pub ends_there : d.before ≡ mark_after (mark_after s.first seen.passed) d.back
  ends_there = seen.before ∙ all.meets ∙ ap (mark_after s.first) seen.back ∙ mark-append s.first seen.passed d.back

  pub rest_fits : RowsFit q (mark_after s.first seen.passed) (d.back ++ d.rows)
  rest_fits = fits_back q s.first seen.passed (d.back ++ d.rows) (subst (RowsFit q s.first) ((λ j. seen.back j ++ sym seen.rows j) ∙ append_assoc seen.passed d.back d.rows) all.fits)

-- ---- the mark before rows, from that behind them

one_on : (n k a b c : ℕ) → k ≡ n + 1 → n + c ≡ a → b ≡ a + 1 → k + c ≡ b
one_on n k a b c e h g = omega arith

none_on : (n k a b c : ℕ) → k ≡ n → n + c ≡ a → b ≡ a → k + c ≡ b
none_on n k a b c e h g = omega arith

module _ (rows : List Row) (k : ℕ) (r : Row) (below : k < length rows) (at : get_or rows k r ≡ r) (m : Mark) (n c : ℕ) where
  abbrev here : Mark
  here = mark_after m (take k rows)

  abbrev next : Mark
  next = mark_after m (take (k + 1) rows)

  left_is : (s : Side) → r.side ≡ s → next.left ≡ by_side s (here.left + 1) here.left
  left_is s e = ap (λ (a : Mark). a.left) (mark_more m rows k r below (sym at)) ∙ ap (λ t. by_side t (here.left + 1) here.left) e

  right_is : (s : Side) → r.side ≡ s → next.right ≡ by_side s here.right (here.right + 1)
  right_is s e = ap (λ (a : Mark). a.right) (mark_more m rows k r below (sym at)) ∙ ap (λ t. by_side t here.right (here.right + 1)) e

  pub left_with_left : r.side ≡ Left → c ≡ n + 1 → n + m.left ≡ (mark_after m (take k rows)).left → c + m.left ≡ (mark_after m (take (k + 1) rows)).left
  left_with_left s e h = one_on n c here.left next.left m.left e h (left_is Left s)

  pub left_with_right : r.side ≡ Right → c ≡ n → n + m.left ≡ (mark_after m (take k rows)).left → c + m.left ≡ (mark_after m (take (k + 1) rows)).left
  left_with_right s e h = none_on n c here.left next.left m.left e h (left_is Right s)

  pub right_with_left : r.side ≡ Left → c ≡ n → n + m.right ≡ (mark_after m (take k rows)).right → c + m.right ≡ (mark_after m (take (k + 1) rows)).right
  right_with_left s e h = none_on n c here.right next.right m.right e h (right_is Left s)

  pub right_with_right : r.side ≡ Right → c ≡ n + 1 → n + m.right ≡ (mark_after m (take k rows)).right → c + m.right ≡ (mark_after m (take (k + 1) rows)).right
  right_with_right s e h = one_on n c here.right next.right m.right e h (right_is Right s)

ended_stays : (m : Mark) (xs : List Row) → (mark_after m xs).ended ≡ m.ended
ended_stays m [] = refl
ended_stays m (x ∷ xs) = ended_stays (step_mark m x) xs

less : (a b n c : ℕ) → a ≡ b → n + c ≡ b → a - n ≡ c
less a b n c e h = omega arith

pub is_mark : (a m : Mark) (rows : List Row) (lefts rights : ℕ) (last : Option ℤ) → a ≡ mark_after m rows → m.last ≡ last → lefts + m.left ≡ (mark_after m rows).left → rights + m.right ≡ (mark_after m rows).right → record { left = a.left - lefts; right = a.right - rights; last = last; ended = a.ended } ≡ m
is_mark a m rows lefts rights last is told left right = λ j. record {
  left = less a.left (mark_after m rows).left lefts m.left (ap (λ (b : Mark). b.left) is) left j;
  right = less a.right (mark_after m rows).right rights m.right (ap (λ (b : Mark). b.right) is) right j;
  last = sym told j;
  ended = (ap (λ (b : Mark). b.ended) is ∙ ended_stays m rows) j;
}
