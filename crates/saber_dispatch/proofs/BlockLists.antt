-- Blocks of rows, and how far back the task behind them looks.
use Rattle.std.proofs.Common.{◌≡◌, ◌≤◌, ◌<◌, ◌^◌, ℕ, suc, zero, ◌+◌, ◌-◌, ◌*◌, length, List, [], ◌∷◌, ◌++◌, take, drop, map, slice_range, Option, refl, sym, ◌∙◌, ap, subst, arith, length-append}
use Rattle.std.proofs.Math.Nat.{mul-le-mul_right}
use Rattle.std.proofs.lemmas.Grind.{div_ceil_times}
use Rattle.std.proofs.lemmas.List.{take_all, take-append-le, drop-append-le, map-append, drop-map, length-drop}
use Rattle.std.proofs.Math.Seq.{take-append_seam, drop-append_seam}
use Rattle.saber_plan.specs.declared.rows.Row.{Row}
use Rattle.saber_plan.specs.declared.windows.Mark.{Mark}
use Rattle.saber_plan.specs.Windows.{Frame, Ordered, no_rows, step_mark, mark_after, mark_of, placed_from_start, placed_after, closed_count, from}
use Rattle.saber_plan.specs.Inputs.{going_on}
use Rattle.saber_plan.specs.Answers.{frame}
use Rattle.saber_plan.specs.Trees.{Tree}
use Rattle.saber_plan.specs.GivenRows.{RowsFit}
use Rattle.saber_plan.specs.Tasks.{task_start, upto}
use Rattle.saber_plan.specs.Needs.{free, last_of, free_of}
use Rattle.saber_dispatch.specs.declared.lasts.Lasts.{Lasts}
use Rattle.saber_dispatch.specs.Cutting.{KeepsLasts, Behind}
use Rattle.saber_dispatch.proofs.Fillings.{ordered_append}
use Rattle.saber_plan.specs.Facts.Counts.{tasks_have_rows, mark_count}
use Rattle.saber_laws.proofs.LastLaws.{lasts_tell_free}
use Rattle.saber_laws.proofs.GrowLaws.{needs_stay}
use Rattle.saber_laws.proofs.FreeLaws.{tasks_look_back, tasks_look_on}

-- ---- numbers in a row

from_drop : (k a m : ℕ) → drop k (from a (k + m)) ≡ from (a + k) m
unfolding from
from_drop zero a m = let e : zero + m ≡ m = omega arith in let g : a ≡ a + zero = omega arith in ap (from a) e ∙ ap (λ x. from x m) g
from_drop (suc k) a m =
    let e : suc k + m ≡ suc (k + m) = omega arith in
    let g : (a + 1) + k ≡ a + suc k = omega arith in
    ap (λ n. drop (suc k) (from a n)) e ∙ from_drop k (a + 1) m ∙ ap (λ x. from x m) g

from_push : (a k : ℕ) → from a (k + 1) ≡ from a k ++ (a + k) ∷ []
unfolding from
from_push a zero = let g : a ≡ a + zero = omega arith in ap (λ x. x ∷ []) g
from_push a (suc k) =
    let e : suc k + 1 ≡ suc (k + 1) = omega arith in
    let g : (a + 1) + k ≡ a + suc k = omega arith in
    ap (from a) e ∙ ap (λ l. a ∷ l) (from_push (a + 1) k ∙ ap (λ x. from (a + 1) k ++ x ∷ []) g)

same_on : {X : Type 0} (g h : ℕ → X) (a k : ℕ) → ((u : ℕ) → a ≤ u → u < a + k → g u ≡ h u) → map g (from a k) ≡ map h (from a k)
unfolding from
same_on g h a zero f = refl
same_on g h a (suc k) f = λ i. f a (omega arith) (omega arith) i ∷ same_on g h (a + 1) k (λ u l m. f u (omega (arith, l)) (omega (arith, m))) i

-- ---- placed rows

pub placed_append : (m : Mark) (xs ys : List Row) → placed_after m (xs ++ ys) ≡ placed_after m xs ++ placed_after (mark_after m xs) ys
unfolding placed_after
placed_append m [] ys = refl
placed_append m (x ∷ xs) ys = ap (λ l. record { row = x; before = m } ∷ l) (placed_append (step_mark m x) xs ys)

placed_length : (m : Mark) (xs : List Row) → length (placed_after m xs) ≡ length xs
unfolding placed_after
placed_length m [] = refl
placed_length m (x ∷ xs) = ap suc (placed_length (step_mark m x) xs)

slice_front : {A : Type 0} (xs ys : List A) (x y : ℕ) → x ≤ y → y ≤ length xs → slice_range (xs ++ ys) x y ≡ slice_range xs x y
slice_front xs ys x y a b =
    let k : y - x ≤ length (drop x xs) = omega (arith, length-drop x xs, a, b) in
    ap (take (y - x)) (drop-append-le x xs ys (omega (arith, a, b))) ∙ take-append-le (y - x) (drop x xs) ys k

slice_back : {A : Type 0} (xs ys : List A) (x y : ℕ) → x ≡ length xs → y ≡ length xs + length ys → slice_range (xs ++ ys) x y ≡ ys
slice_back xs ys x y a b = ap (λ n. take (y - n) (drop n (xs ++ ys))) a ∙ ap (take (y - length xs)) (drop-append_seam xs ys) ∙ take_all (y - length xs) ys (omega (arith, b))

-- ---- rows behind whole tasks

module _ (q : Tree) (n : ℕ) (xs : List Row) (t : ℕ) (before : Mark) (b : Behind q n xs t before) where
  -- the tasks have room for all rows, and no task is empty
  room : length xs ≤ t * n
  room = let h = div_ceil_times (length xs) n b.some in omega (arith, h.0, ap (λ k. k * n) b.count)

  not_empty : t ≤ length xs
  not_empty = omega (arith, b.count, tasks_have_rows n (length xs) b.some)

  pub small : t ≤ 2 ^ 41
  small =
      let c : before.left + before.right ≡ length xs = ap (λ (m : Mark). m.left + m.right) b.mark ∙ mark_count no_rows xs ∙ omega arith in
      omega (arith, not_empty, c, b.left, b.right)

  cut_here : task_start n (going_on xs) t ≡ length xs
  cut_here = let h = room in omega (arith, h)

  take_here : take (task_start n (going_on xs) t) xs ≡ xs
  take_here = take_all (task_start n (going_on xs) t) xs (omega (arith, cut_here))

  -- the free pointer by what is kept
  pub told : (l : Lasts) → KeepsLasts q n xs t l → free_of l.first l.list.items (closed_count l.windows before) ≡ free q n (going_on xs) t
  told l k =
      ap (λ (f : Frame). free_of l.first l.list.items (closed_count f before)) k.windows
      ∙ ap (λ (m : Mark). free_of l.first l.list.items (closed_count (frame q) m)) (b.mark ∙ sym (ap mark_of take_here))
      ∙ ap (λ ls. free_of l.first ls (closed_count (frame q) (mark_of (take (task_start n (going_on xs) t) xs)))) k.list
      ∙ sym (lasts_tell_free q b.windows n (going_on xs) t l.first b.ordered b.some k.join k.low k.at)

  -- and what is kept then
  pub looked : (old new : Lasts) (r : ℕ) → KeepsLasts q n xs t old → r ≡ free_of old.first old.list.items (closed_count old.windows before) → new.first ≡ r → new.list.items ≡ drop (r - old.first) old.list.items → new.windows ≡ old.windows → KeepsLasts q n xs t new
  looked old new r k is first list windows =
      let free_is : r ≡ free q n (going_on xs) t = is ∙ told old k in
      let within : free q n (going_on xs) t ≤ t = tasks_look_back q n (going_on xs) t b.some in
      let d : ℕ = r - old.first in
      let length_is : t - old.first ≡ (r - old.first) + (t - r) = omega (arith, k.low, k.at, free_is, within) in
      let at : old.first + (r - old.first) ≡ r = omega (arith, k.low, free_is) in
      let g : ℕ → Option ℕ = λ u. last_of (frame q) (slice_range (placed_from_start xs) (task_start n (going_on xs) u) (task_start n (going_on xs) (u + 1))) in
      let r_list : drop (r - old.first) old.list.items ≡ map g (from r (t - r)) =
      ap (drop (r - old.first)) k.list ∙ drop-map g (r - old.first) (from old.first (t - old.first)) ∙ ap (λ j. map g (drop (r - old.first) (from old.first j))) length_is
      ∙ ap (map g) (from_drop (r - old.first) old.first (t - r)) ∙ ap (λ a. map g (from a (t - r))) at in
      record {
        join = k.join;
        windows = windows ∙ k.windows;
        low = omega (arith, first, free_is);
        at = omega (arith, first, free_is, within);
        list = list ∙ r_list ∙ ap (λ a. map g (from a (t - a))) (sym first);
      }

  -- ---- one block more

  module _ (whole : length xs ≡ t * n) (rows : List Row) (fits : RowsFit q before rows) (few : length rows ≤ n) where
    all_ordered : Ordered no_rows (xs ++ rows)
    all_ordered = ordered_append no_rows xs rows b.ordered (subst (λ m. Ordered m rows) b.mark fits.ordered)

    length_all : length (xs ++ rows) ≡ length xs + length rows
    length_all = length-append xs rows

    cut_front : task_start n (going_on (xs ++ rows)) t ≡ length xs
    cut_front = omega (arith, length_all, whole)

    next_times : (t + 1) * n ≡ t * n + n
    next_times = grind arith

    cut_back : task_start n (going_on (xs ++ rows)) (t + 1) ≡ length xs + length rows
    cut_back = omega (arith, length_all, whole, next_times, few)

    upto_front : upto n (going_on (xs ++ rows)) t ≡ going_on xs
    upto_front = ap going_on (ap (λ k. take k (xs ++ rows)) cut_front ∙ take-append_seam xs rows)

    -- the task looks back as far with its rows there
    pub free_stays : free q n (going_on (xs ++ rows)) t ≡ free q n (going_on xs) t
    free_stays = sym (needs_stay q n (going_on (xs ++ rows)) t t b.some (omega arith)).free_pointer ∙ ap (λ l. free q n l t) upto_front

    all_placed : placed_from_start (xs ++ rows) ≡ placed_from_start xs ++ placed_after before rows
    all_placed = placed_append no_rows xs rows ∙ ap (λ m. placed_from_start xs ++ placed_after m rows) (sym b.mark)

    early_cut : (ys : List Row) (u : ℕ) → u ≤ t → length xs ≤ length ys → task_start n (going_on ys) u ≡ u * n
    early_cut ys u h k = let l : u * n ≤ t * n = mul-le-mul_right n h in omega (arith, l, whole, k)

    early_block : (u : ℕ) → u < t → slice_range (placed_from_start (xs ++ rows)) (task_start n (going_on (xs ++ rows)) u) (task_start n (going_on (xs ++ rows)) (u + 1)) ≡ slice_range (placed_from_start xs) (task_start n (going_on xs) u) (task_start n (going_on xs) (u + 1))
    early_block u h =
        let all : length xs ≤ length (xs ++ rows) = omega (arith, length_all) in
        let c : task_start n (going_on (xs ++ rows)) u ≡ task_start n (going_on xs) u = early_cut (xs ++ rows) u (omega (arith, h)) all ∙ sym (early_cut xs u (omega (arith, h)) (omega arith)) in
        let d : task_start n (going_on (xs ++ rows)) (u + 1) ≡ task_start n (going_on xs) (u + 1) = early_cut (xs ++ rows) (u + 1) (omega (arith, h)) all ∙ sym (early_cut xs (u + 1) (omega (arith, h)) (omega arith)) in
        let l : u * n ≤ (u + 1) * n = mul-le-mul_right n (omega arith) in
        let rises : task_start n (going_on xs) u ≤ task_start n (going_on xs) (u + 1) = omega (arith, l) in
        let within : task_start n (going_on xs) (u + 1) ≤ length (placed_from_start xs) = omega (arith, placed_length no_rows xs) in
        ap (λ p. slice_range p (task_start n (going_on (xs ++ rows)) u) (task_start n (going_on (xs ++ rows)) (u + 1))) all_placed
        ∙ ap (λ k. slice_range (placed_from_start xs ++ placed_after before rows) k (task_start n (going_on (xs ++ rows)) (u + 1))) c
        ∙ ap (slice_range (placed_from_start xs ++ placed_after before rows) (task_start n (going_on xs) u)) d
        ∙ slice_front (placed_from_start xs) (placed_after before rows) (task_start n (going_on xs) u) (task_start n (going_on xs) (u + 1)) rises within

    last_block : slice_range (placed_from_start (xs ++ rows)) (task_start n (going_on (xs ++ rows)) t) (task_start n (going_on (xs ++ rows)) (t + 1)) ≡ placed_after before rows
    last_block =
        let p = placed_length no_rows xs in
        let r = placed_length before rows in
        ap (λ l. slice_range l (task_start n (going_on (xs ++ rows)) t) (task_start n (going_on (xs ++ rows)) (t + 1))) all_placed
        ∙ slice_back (placed_from_start xs) (placed_after before rows) (task_start n (going_on (xs ++ rows)) t) (task_start n (going_on (xs ++ rows)) (t + 1)) (omega (arith, cut_front, p)) (omega (arith, cut_back, p, r))

    pub noted : (old new : Lasts) → KeepsLasts q n xs t old → new.list.items ≡ old.list.items ++ last_of old.windows (placed_after before rows) ∷ [] → new.first ≡ old.first → new.windows ≡ old.windows → KeepsLasts q n (xs ++ rows) (t + 1) new
    noted old new k list first windows =
        let f = frame q in
        let a : ℕ = old.first in
        let g : ℕ → Option ℕ = λ u. last_of f (slice_range (placed_from_start xs) (task_start n (going_on xs) u) (task_start n (going_on xs) (u + 1))) in
        let h : ℕ → Option ℕ = λ u. last_of f (slice_range (placed_from_start (xs ++ rows)) (task_start n (going_on (xs ++ rows)) u) (task_start n (going_on (xs ++ rows)) (u + 1))) in
        let more : (t - old.first) + 1 ≡ (t + 1) - old.first = omega (arith, k.at) in
        let end : old.first + (t - old.first) ≡ t = omega (arith, k.at) in
        let early : map h (from old.first (t - old.first)) ≡ map g (from old.first (t - old.first)) = same_on h g old.first (t - old.first) (λ u l m. ap (last_of f) (early_block u (omega (arith, m, end)))) in
        let all : map h (from old.first ((t + 1) - old.first)) ≡ map g (from old.first (t - old.first)) ++ last_of f (placed_after before rows) ∷ [] =
        ap (λ j. map h (from old.first j)) (sym more) ∙ ap (map h) (from_push old.first (t - old.first)) ∙ map-append h (from old.first (t - old.first)) ((old.first + (t - old.first)) ∷ [])
        ∙ ap (λ l. l ++ h (old.first + (t - old.first)) ∷ []) early ∙ ap (λ u. map g (from old.first (t - old.first)) ++ h u ∷ []) end ∙ ap (λ p. map g (from old.first (t - old.first)) ++ last_of f p ∷ []) last_block in
        record {
          join = k.join;
          windows = windows ∙ k.windows;
          low = omega (arith, first, k.low, free_stays, tasks_look_on q b.windows n (going_on (xs ++ rows)) t all_ordered b.some);
          at = omega (arith, first, k.at);
          list = list ∙ ap (λ l. l ++ last_of old.windows (placed_after before rows) ∷ []) k.list ∙ ap (λ w. map g (from old.first (t - old.first)) ++ last_of w (placed_after before rows) ∷ []) k.windows ∙ sym all ∙ ap (λ i. map h (from i ((t + 1) - i))) (sym first);
        }
