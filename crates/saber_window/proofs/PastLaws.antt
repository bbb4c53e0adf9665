-- A window that ends at a row or before it has neither that row nor a later one.
use Rattle.std.proofs.Common.{◌≡◌, ℕ, List, [], ◌∷◌, filter, Bool, true, false, cond, not, ◌&&◌, nat_lt, nat_le, Option, Some, None, ℤ, refl, sym, ◌∙◌, ap, arith}
use Rattle.std.proofs.lemmas.Bool.{ltb-true}
use Rattle.std.proofs.lemmas.Bool.Decides.{nat_tests}
use Rattle.saber_laws.proofs.WindowLaws.{counts_are_exact}
use Rattle.saber_plan.specs.declared.rows.Side.{Side}
use Rattle.saber_plan.specs.declared.rows.Side.TheVariants.{Left, Right}
use Rattle.saber_plan.specs.declared.rows.Row.{Row}
use Rattle.saber_plan.specs.declared.rows.Values.{Values}
use Rattle.saber_plan.specs.declared.windows.Mark.{Mark}
use Rattle.saber_plan.specs.declared.windows.Measure.{Measure}
use Rattle.saber_plan.specs.declared.windows.Measure.TheVariants.{Rows, Range}
use Rattle.saber_plan.specs.Rows.{stamp}
use Rattle.saber_plan.specs.Windows.{Frame, one, Ordered, in_order, can_follow, is_reached, step_mark, past, has, Placed, placed_after}
use Rattle.saber_plan.specs.Needs.{first_window}
use Rattle.saber_window.specs.Laws.{PastHaveNone}

abbrev at : Mark → Side → Values → Placed
at m s v = record { row = record { side = s; values = v }; before = m }

abbrev then : Mark → Side → Values → Mark
then m s v = step_mark m (record { side = s; values = v })

reached_on : (o : Option ℤ) (t p : ℕ) → is_reached o t ≡ true → in_order o p ≡ true → nat_le t p ≡ true
reached_on None t p h e = cc
reached_on (Some z) t p h e = grind (arith, nat_tests)

in_order_case : (ended ordered : Bool) → (not ended && ordered) ≡ true → ordered ≡ true
in_order_case true ordered e = cc
in_order_case false ordered e = e

-- a row that can follow does not come before the last one
in_order_by : (m : Mark) (t : ℕ) → can_follow m t ≡ true → in_order m.last t ≡ true
in_order_by m t e = in_order_case m.ended (in_order m.last t) e

-- a window that is past has not the next row
has_not : (measure : Measure) (slide size i : ℕ) (m : Mark) (s : Side) (v : Values) → in_order m.last (stamp v) ≡ true → past (one measure slide size) i m ≡ true → has (one measure slide size) i (at m s v) ≡ false
has_not Rows k n i m Left v e h = grind (arith, nat_tests)
has_not Rows k n i m Right v e h = refl
has_not Range k n i m Left v e h = let far = reached_on m.last _ _ h e in grind (arith, nat_tests)
has_not Range k n i m Right v e h = refl

-- and stays past
past_on : (measure : Measure) (slide size i : ℕ) (m : Mark) (s : Side) (v : Values) → in_order m.last (stamp v) ≡ true → past (one measure slide size) i m ≡ true → past (one measure slide size) i (then m s v) ≡ true
past_on Rows k n i m Left v e h = grind (arith, nat_tests)
past_on Rows k n i m Right v e h = h
past_on Range k n i m s v e h = reached_on m.last _ _ h e

without : (f : Frame) (i : ℕ) (m : Mark) (x : Row) (xs : List Row) → has f i (record { row = x; before = m }) ≡ false → filter (has f i) (placed_after (step_mark m x) xs) ≡ [] → filter (has f i) (placed_after m (x ∷ xs)) ≡ []
unfolding placed_after
without f i m x xs e h = ap (λ b. cond b (record { row = x; before = m } ∷ filter (has f i) (placed_after (step_mark m x) xs)) (filter (has f i) (placed_after (step_mark m x) xs))) e ∙ h

past_have_no_row : (measure : Measure) (slide size i : ℕ) (m : Mark) (xs : List Row) → Ordered m xs → past (one measure slide size) i m ≡ true → filter (has (one measure slide size) i) (placed_after m xs) ≡ []
unfolding Ordered placed_after
past_have_no_row measure k n i m [] o h = refl
past_have_no_row measure k n i m (x ∷ xs) o h =
    without (one measure k n) i m x xs (has_not measure k n i m x.side x.values (in_order_by m (stamp x.values) o.0) h) (past_have_no_row measure k n i (step_mark m x) xs o.1 (past_on measure k n i m x.side x.values (in_order_by m (stamp x.values) o.0) h))

-- a window that ends at a row or before it is past behind that row
closes : (measure : Measure) (slide size i : ℕ) → nat_le 1 slide ≡ true → (m : Mark) (s : Side) (v : Values) → nat_lt i (first_window (one measure slide size) (at m s v)) ≡ true → past (one measure slide size) i (then m s v) ≡ true
closes Rows k n i w m Left v h = let e = counts_are_exact k n m.left i w in grind (arith, nat_tests, e)
closes Rows k n i w m Right v h = absurd (omega (arith, ltb-true i 0 h))
closes Range k n i w m Left v h = sym (counts_are_exact k n (stamp v) i w) ∙ h
closes Range k n i w m Right v h = absurd (omega (arith, ltb-true i 0 h))

-- and has not the row
ended : (measure : Measure) (slide size i : ℕ) → nat_le 1 slide ≡ true → (m : Mark) (s : Side) (v : Values) → nat_lt i (first_window (one measure slide size) (at m s v)) ≡ true → has (one measure slide size) i (at m s v) ≡ false
ended Rows k n i w m Left v h = let e = counts_are_exact k n m.left i w in grind (arith, nat_tests, e)
ended Rows k n i w m Right v h = refl
ended Range k n i w m Left v h = let e = counts_are_exact k n (stamp v) i w in grind (arith, nat_tests, e)
ended Range k n i w m Right v h = refl

pub past_have_none : PastHaveNone
unfolding Ordered
past_have_none measure k n w i m x xs o h =
    without (one measure k n) i m x xs (ended measure k n i w.0 m x.side x.values h) (past_have_no_row measure k n i (step_mark m x) xs o.1 (closes measure k n i w.0 m x.side x.values h))
