-- The greatest last window of some rows, row by row.
use Rattle.std.proofs.Common.{◌≡◌, ◌≤◌, ◌<◌, ℕ, suc, zero, ◌+◌, max, length, List, [], ◌∷◌, drop, get_or, true, false, cond, Option, Some, None, refl, sym, ◌∙◌, ap, subst, arith}
use Rattle.std.specs.List.{AllByRecursion}
use Rattle.saber_plan.specs.declared.rows.Row.{Row}
use Rattle.saber_plan.specs.declared.windows.Mark.{Mark}
use Rattle.saber_plan.specs.declared.rows.Side.{Side}
use Rattle.saber_plan.specs.declared.rows.Side.TheVariants.{Left, Right}
use Rattle.saber_plan.specs.Windows.{Frame, by_side, placed_after, step_mark}
use Rattle.saber_plan.specs.Needs.{later_of, last_of, last_window, free_of, reaches}

pub later_later : (a b c : Option ℕ) → later_of (later_of a b) c ≡ later_of a (later_of b c)
later_later None b c = refl
later_later (Some x) None c = refl
later_later (Some x) (Some y) None = refl
later_later (Some x) (Some y) (Some z) = let e : max (max x y) z ≡ max x (max y z) = omega arith in ap Some e

later_none : (a : Option ℕ) → later_of a None ≡ a
later_none None = refl
later_none (Some x) = refl

pub drop_at : (d : Row) (xs : List Row) (i : ℕ) → i < length xs → drop i xs ≡ get_or xs i d ∷ drop (i + 1) xs
drop_at d xs i h = at xs i h ∙ (let e : suc i ≡ i + 1 = omega arith in ap (λ k. get_or xs i d ∷ drop k xs) e) where
  at : (ys : List Row) (k : ℕ) → k < length ys → drop k ys ≡ get_or ys k d ∷ drop (suc k) ys
  at [] k g = absurd (omega (arith, g))
  at (y ∷ ys) zero g = refl
  at (y ∷ ys) (suc k) g = at ys k (omega (arith, g))

pub all_gone : (xs : List Row) (i : ℕ) → length xs ≤ i → drop i xs ≡ []
all_gone [] zero h = refl
all_gone [] (suc i) h = refl
all_gone (x ∷ xs) zero h = absurd (omega (arith, h))
all_gone (x ∷ xs) (suc i) h = all_gone xs i (omega (arith, h))

last_step : (f : Frame) (m : Mark) (x : Row) (xs : List Row) → last_of f (placed_after m (x ∷ xs)) ≡ later_of (last_window f (record { row = x; before = m })) (last_of f (placed_after (step_mark m x) xs))
unfolding placed_after
last_step f m x xs = refl

last_nothing : (f : Frame) (m : Mark) → last_of f (placed_after m []) ≡ None
unfolding placed_after
last_nothing f m = refl

-- the row at i is taken in
pub taken : (f : Frame) (all last : Option ℕ) (m : Mark) (xs : List Row) (i : ℕ) (d : Row) → i < length xs → all ≡ later_of last (last_of f (placed_after m (drop i xs)))
    → all ≡ later_of (later_of last (last_window f (record { row = get_or xs i d; before = m }))) (last_of f (placed_after (step_mark m (get_or xs i d)) (drop (i + 1) xs)))
taken f all last m xs i d h e =
    let x = get_or xs i d in
    e ∙ ap (λ l. later_of last (last_of f (placed_after m l))) (drop_at d xs i h) ∙ ap (later_of last) (last_step f m x (drop (i + 1) xs))
    ∙ sym (later_later last (last_window f (record { row = x; before = m })) (last_of f (placed_after (step_mark m x) (drop (i + 1) xs))))

pub at_end : (f : Frame) (all last : Option ℕ) (m : Mark) (xs : List Row) (i : ℕ) → length xs ≤ i → all ≡ later_of last (last_of f (placed_after m (drop i xs))) → last ≡ all
at_end f all last m xs i h e = sym (e ∙ ap (λ l. later_of last (last_of f (placed_after m l))) (all_gone xs i h) ∙ ap (later_of last) (last_nothing f m) ∙ later_none last)

pub all_after : (P : Row → Type 0) (xs : List Row) (i : ℕ) (d : Row) → i < length xs → AllByRecursion P (drop i xs) → P (get_or xs i d) × AllByRecursion P (drop (i + 1) xs)
all_after P xs i d h a = subst (AllByRecursion P) (drop_at d xs i h) a

pub left_step : (m : Mark) (x : Row) → (step_mark m x).left ≤ m.left + 1
left_step m x = by_case x.side where
  by_case : (s : Side) → by_side s (m.left + 1) m.left ≤ m.left + 1
  by_case Left = omega arith
  by_case Right = omega arith

pub right_step : (m : Mark) (x : Row) → (step_mark m x).right ≤ m.right + 1
right_step m x = by_case x.side where
  by_case : (s : Side) → by_side s m.right (m.right + 1) ≤ m.right + 1
  by_case Left = omega arith
  by_case Right = omega arith

-- ---- the first block that isn't closed lies from the first on, up to the one behind the list

pub at_least : (ls : List (Option ℕ)) (first closed : ℕ) → first ≤ free_of first ls closed
unfolding free_of
at_least [] first closed = omega arith
at_least (l ∷ ls) first closed = elim (reaches l closed) as (λ b. first ≤ cond b first (free_of (first + 1) ls closed)) [ true ↦ omega arith | false ↦ omega (arith, at_least ls (first + 1) closed) ]
