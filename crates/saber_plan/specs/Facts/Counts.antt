-- Facts on how many tasks some rows make, how many rows a mark counts, and what is closed before the first. Any proof may cite them.
use Rattle.std.proofs.Common.{◌≡◌, ◌≤◌, ◌<◌, ℕ, ◌+◌, ◌*◌, length, List, [], ◌∷◌, ◌∙◌, arith, ◌-◌, ◌/◌, min, true, false, cond, nat_le, refl, ap}
use Rattle.std.proofs.lemmas.Bool.Decides.{nat_tests}
use Rattle.std.proofs.lemmas.Grind.{div_ceil_times}
use Rattle.std.proofs.Math.Nat.{lt_of_mul-lt-mul_right, le-mul_of_pos_right}
use Rattle.std.specs.Int.{div_ceil}
use Rattle.saber_plan.specs.declared.rows.Row.{Row}
use Rattle.saber_plan.specs.declared.rows.Side.{Side}
use Rattle.saber_plan.specs.declared.rows.Side.TheVariants.{Left, Right}
use Rattle.saber_plan.specs.declared.windows.Mark.{Mark}
use Rattle.saber_plan.specs.declared.windows.Measure.TheVariants.{Rows, Range}
use Rattle.saber_plan.specs.Windows.{Frame, unwindowed, one, two, Fits, no_rows, closed_count, begun_count, count_to, step_mark, mark_after, by_side}

-- so many whole tasks
pub whole_tasks : (n k a : ℕ) → 1 ≤ n → a ≡ k * n → k ≡ div_ceil a n
whole_tasks n k a some whole =
    let h = div_ceil_times a n some in
    let low : k < div_ceil a n + 1 = lt_of_mul-lt-mul_right n (omega (arith, h.0, whole, some)) in
    let high : div_ceil a n < k + 1 = lt_of_mul-lt-mul_right n (omega (arith, h.1, whole)) in
    omega (arith, low, high)

-- and one more, which may be short
pub one_task_more : (n k a b : ℕ) → 1 ≤ n → a ≡ k * n → 1 ≤ b → b ≤ n → k + 1 ≡ div_ceil (a + b) n
one_task_more n k a b some whole u f =
    let h = div_ceil_times (a + b) n some in
    let low : k < div_ceil (a + b) n = lt_of_mul-lt-mul_right n (omega (arith, h.0, whole, u)) in
    let high : div_ceil (a + b) n < k + 2 = lt_of_mul-lt-mul_right n (omega (arith, h.1, whole, f)) in
    omega (arith, low, high)

-- no task is empty
pub tasks_have_rows : (n a : ℕ) → 1 ≤ n → div_ceil a n ≤ a
tasks_have_rows n a some =
    let h = div_ceil_times a n some in
    let l : a ≤ a * n = le-mul_of_pos_right a some in
    let one : (a + 1) * n ≡ a * n + n = grind arith in
    let low : div_ceil a n < a + 1 = lt_of_mul-lt-mul_right n (omega (arith, h.1, l, one)) in
    omega (arith, low)

-- more rows than whole tasks have are in later tasks
pub later_task : (n k a : ℕ) → 1 ≤ n → k * n < a → k < div_ceil a n
later_task n k a some more =
    let h = div_ceil_times a n some in
    lt_of_mul-lt-mul_right n (omega (arith, h.0, more))

-- more rows make no fewer tasks
pub ceil_rises : (n a b : ℕ) → 1 ≤ n → a ≤ b → div_ceil a n ≤ div_ceil b n
ceil_rises n a b some h =
    let x = div_ceil_times a n some in
    let y = div_ceil_times b n some in
    let l : div_ceil a n < div_ceil b n + 1 = lt_of_mul-lt-mul_right n (omega (arith, x.1, y.0, h)) in
    omega (arith, l)

-- a mark counts the rows behind it, each on its side
pub mark_count : (m : Mark) (xs : List Row) → (mark_after m xs).left + (mark_after m xs).right ≡ m.left + m.right + length xs
mark_count m [] = omega arith
mark_count m (x ∷ xs) = mark_count (step_mark m x) xs ∙ by_case x.side where
  by_case : (s : Side) → by_side s (m.left + 1) m.left + by_side s m.right (m.right + 1) + length xs ≡ m.left + m.right + length (x ∷ xs)
  by_case Left = omega arith
  by_case Right = omega arith

-- ---- before the first row

none_counted : (slide size : ℕ) → nat_le 1 size ≡ true → count_to slide size 0 ≡ 0
none_counted slide size h = let far : nat_le size 0 ≡ false = grind (arith, nat_tests) in ap (λ b. cond b ((0 - size) / slide + 1) 0) far

pub none_closed : (f : Frame) → Fits f → closed_count f no_rows ≡ 0
none_closed unwindowed h = refl
none_closed (one Rows slide size) h = none_counted slide size h.1
none_closed (one Range slide size) h = refl
none_closed (two Rows slide left right) h = λ j. min (none_counted slide left h.1 j) (none_counted slide right h.2 j)
none_closed (two Range slide left right) h = refl

pub none_begun : (f : Frame) → begun_count f no_rows ≡ 0
none_begun unwindowed = refl
none_begun (one Rows slide size) = refl
none_begun (one Range slide size) = refl
none_begun (two Rows slide left right) = refl
none_begun (two Range slide left right) = refl
