-- Of rows by time the last one tells the greatest last window, if it lies in one.
use Rattle.std.proofs.Common.{◌≡◌, ℕ, suc, zero, ◌+◌, ◌-◌, ◌/◌, ◌≤◌, max, length, List, [], ◌∷◌, ◌++◌, take, get_or, Bool, true, false, cond, not, ◌&&◌, nat_le, nat_lt, ℤ, Option, Some, None, IfSome, refl, sym, ◌∙◌, ap, subst, subst₂, le_trans, arith}
use Rattle.std.proofs.Math.Nat.{div-zero, div-mul-le_self}
use Rattle.std.proofs.lemmas.Nat.{le-div}
use Rattle.std.proofs.lemmas.List.{take_more, take_all}
use Rattle.std.proofs.lemmas.Bool.Decides.{nat_tests}
use Rattle.saber_plan.specs.declared.rows.Row.{Row}
use Rattle.saber_plan.specs.declared.windows.Mark.{Mark}
use Rattle.saber_plan.specs.declared.windows.Measure.TheVariants.{Rows, Range}
use Rattle.saber_plan.specs.Rows.{stamp}
use Rattle.saber_plan.specs.Windows.{Frame, unwindowed, one, two, Placed, Ordered, in_order, time, placed_after, step_mark, count_to}
use Rattle.saber_plan.specs.Needs.{later_of, last_of, last_window, first_window, past_window}
use Rattle.saber_window.specs.Timed.{IsTimed}

div_rises : (a b k : ℕ) → a ≤ b → a / k ≤ b / k
div_rises a b zero h = subst (λ n. n ≤ b / zero) (sym (div-zero a)) (omega arith)
div_rises a b (suc k) h = le-div (a / suc k) b (suc k) (omega arith) (le_trans (div-mul-le_self a (suc k)) h)

count_is : (slide p : ℕ) → count_to slide 0 p ≡ p / slide + 1
count_is slide p =
    let here : nat_le 0 p ≡ true = grind (arith, nat_tests) in
    let same : p - 0 ≡ p = omega arith in
    ap (λ b. cond b ((p - 0) / slide + 1) 0) here ∙ ap (λ r. r / slide + 1) same

one_more : (a b : ℕ) → a ≤ b → a + 1 ≤ b + 1
one_more a b h = omega arith

count_rises : (slide p r : ℕ) → p ≤ r → count_to slide 0 p ≤ count_to slide 0 r
count_rises slide p r h = subst₂ (λ a b. a ≤ b) (sym (count_is slide p)) (sym (count_is slide r)) (one_more (p / slide) (r / slide) (div_rises p r slide h))

-- ---- a later row has a last window that is no earlier one

some_is : (b : Bool) (n l : ℕ) → cond b (Some n) None ≡ Some l → n ≡ l
some_is true n l e = cc
some_is false n l e = cc

covers : (b : Bool) (n l : ℕ) → n ≤ l → later_of (cond b (Some n) None) (Some l) ≡ Some l
covers true n l h = let e : max n l ≡ l = omega arith in ap Some e
covers false n l h = refl

one_less : (a b l : ℕ) → a ≤ b → b - 1 ≡ l → a - 1 ≤ l
one_less a b l h e = omega arith

none_later : (f : Frame) → IsTimed f → (x y : Placed) (l : ℕ) → time x ≤ time y → last_window f y ≡ Some l → later_of (last_window f x) (Some l) ≡ Some l
none_later unwindowed t x y l h e = covers (nat_lt (first_window unwindowed x) (past_window unwindowed x)) (0 - 1) l (omega arith)
none_later (one measure slide size) t x y l h e = absurd t
none_later (two Rows slide left right) t x y l h e = absurd t
none_later (two Range slide left right) t x y l h e =
    let f : Frame = two Range slide left right in
    covers (nat_lt (first_window f x) (past_window f x)) (past_window f x - 1) l (one_less (past_window f x) (past_window f y) l (count_rises slide (time x) (time y) h) (some_is (nat_lt (first_window f y) (past_window f y)) (past_window f y - 1) l e))

same : (f : Frame) → IsTimed f → (x : Row) (m n : Mark) → last_window f (record { row = x; before = m }) ≡ last_window f (record { row = x; before = n })
same unwindowed t x m n = refl
same (one measure slide size) t x m n = absurd t
same (two Rows slide left right) t x m n = absurd t
same (two Range slide left right) t x m n = refl

-- ---- and rows in order end with the latest

second : (a b : Bool) → (a && b) ≡ true → b ≡ true
second true b e = e
second false b e = cc

later_still : (o : Option ℤ) (a b : ℕ) → in_order o a ≡ true → nat_le a b ≡ true → in_order o b ≡ true
later_still None a b e g = refl
later_still (Some z) a b e g = grind (arith, nat_tests, e, g)

rises : (m : Mark) (xs : List Row) (y : Row) → Ordered m (xs ++ y ∷ []) → in_order m.last (stamp y.values) ≡ true
unfolding Ordered
rises m [] y o = second (not m.ended) (in_order m.last (stamp y.values)) o.0
rises m (x ∷ xs) y o = later_still m.last (stamp x.values) (stamp y.values) (second (not m.ended) (in_order m.last (stamp x.values)) o.0) (rises (step_mark m x) xs y o.1)

at_most : (a b : ℕ) → nat_le a b ≡ true → a ≤ b
at_most a b e = grind (arith, nat_tests, e)

by_last : (f : Frame) → IsTimed f → (m n : Mark) (xs : List Row) (y : Row) (l : ℕ) → Ordered m (xs ++ y ∷ []) → last_window f (record { row = y; before = n }) ≡ Some l → last_of f (placed_after m (xs ++ y ∷ [])) ≡ Some l
unfolding placed_after Ordered
by_last f t m n [] y l o e = ap (λ w. later_of w None) (same f t y m n ∙ e)
by_last f t m n (x ∷ xs) y l o e =
    ap (later_of (last_window f (record { row = x; before = m }))) (by_last f t (step_mark m x) n xs y l o.1 e)
    ∙ none_later f t (record { row = x; before = m }) (record { row = y; before = n }) l (at_most (stamp x.values) (stamp y.values) (rises (step_mark m x) xs y o.1)) e

whole : (xs : List Row) (k : ℕ) (r : Row) → k + 1 ≡ length xs → get_or xs k r ≡ r → xs ≡ take k xs ++ r ∷ []
whole xs k r n e = sym (take_all (k + 1) xs (omega arith)) ∙ take_more xs k r (omega arith) ∙ ap (λ x. take k xs ++ x ∷ []) e

pub told : (f : Frame) → IsTimed f → (m : Mark) (xs : List Row) (k : ℕ) (r : Row) → k + 1 ≡ length xs → get_or xs k r ≡ r → Ordered m xs → (last : Option ℕ) → last ≡ last_window f (record { row = r; before = m }) → IfSome last (λ l. last_of f (placed_after m xs) ≡ Some l)
told f t m xs k r n e o None is = tt
told f t m xs k r n e o (Some l) is =
    let ends : xs ≡ take k xs ++ r ∷ [] = whole xs k r n e in
    subst (λ ys. last_of f (placed_after m ys) ≡ Some l) (sym ends) (by_last f t m m (take k xs) r l (subst (Ordered m) ends o) (sym is))
