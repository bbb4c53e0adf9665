-- Which windows are begun and closed, by their counts and along the rows.
use Rattle.std.proofs.Common.{◌≡◌, ℕ, ◌+◌, ◌-◌, ◌*◌, ◌≤◌, min, max, Bool, true, false, cond, not, ◌&&◌, ◌||◌, nat_lt, nat_le, nat_abs, Option, Some, None, ℤ, List, [], ◌∷◌, filter, refl, sym, lt_irrefl, ⊎_elim, ◌∙◌, ap, arith}
use Rattle.std.proofs.Math.Nat.{le-div_iff_mul-le}
use Rattle.std.proofs.lemmas.Bool.{leb-true, ltb-true, lt-ltb, cases_lt, false_from_ne_true, both_ways}
use Rattle.std.proofs.lemmas.Bool.Decides.{nat_tests}
use Rattle.saber_plan.specs.declared.rows.Side.{Side}
use Rattle.saber_plan.specs.declared.rows.Side.TheVariants.{Left, Right}
use Rattle.saber_plan.specs.declared.rows.Row.{Row}
use Rattle.saber_plan.specs.declared.rows.Values.{Values}
use Rattle.saber_plan.specs.declared.windows.Mark.{Mark}
use Rattle.saber_plan.specs.declared.windows.Measure.TheVariants.{Rows, Range}
use Rattle.saber_plan.specs.Rows.{stamp}
use Rattle.saber_plan.specs.Windows.{Frame, unwindowed, one, two, Fits, count_to, count_reached, is_reached, in_order, can_follow, end_mark, spans, step_mark, mark_after, has, begun, past, closed, begun_count, past_count, closed_count, Ordered, Placed, placed_after}

-- the windows below the count are those that are reached
pub counts_are_exact : (slide first far i : ℕ) → nat_le 1 slide ≡ true → nat_lt i (count_to slide first far) ≡ nat_le (i * slide + first) far
counts_are_exact slide first far i h =
    let is_reached = le-div_iff_mul-le {k = slide} {x = i} {y = far - first} (leb-true 1 slide h) in
    grind (arith, nat_tests, is_reached.0, is_reached.1)

count_from_one : (slide far i : ℕ) → nat_le 1 slide ≡ true → nat_lt i (count_to slide 1 far) ≡ nat_lt (i * slide) far
count_from_one slide far i h = counts_are_exact slide 1 far i h ∙ grind (arith, nat_tests)

count_from_zero : (slide far i : ℕ) → nat_le 1 slide ≡ true → nat_lt i (count_to slide 0 far) ≡ nat_le (i * slide) far
count_from_zero slide far i h = counts_are_exact slide 0 far i h ∙ grind (arith, nat_tests)

count_reached_is : (slide first : ℕ) (last : Option ℤ) (i : ℕ) → nat_le 1 slide ≡ true → nat_lt i (count_reached slide first last) ≡ is_reached last (i * slide + first)
count_reached_is slide first None i h = grind (arith, nat_tests)
count_reached_is slide first (Some z) i h = counts_are_exact slide first (nat_abs z) i h

reached_from_zero : (slide : ℕ) (last : Option ℤ) (i : ℕ) → nat_le 1 slide ≡ true → nat_lt i (count_reached slide 0 last) ≡ is_reached last (i * slide)
reached_from_zero slide None i h = grind (arith, nat_tests)
reached_from_zero slide (Some z) i h = count_from_zero slide (nat_abs z) i h

below_min : (i a b : ℕ) → nat_lt i (min a b) ≡ (nat_lt i a && nat_lt i b)
below_min i a b = grind (arith, nat_tests)

below_max : (i a b : ℕ) → nat_lt i (max a b) ≡ (nat_lt i a || nat_lt i b)
below_max i a b = grind (arith, nat_tests)

-- a window is past exactly where its number is below the count
past_is : (f : Frame) → Fits f → (i : ℕ) (m : Mark) → nat_lt i (past_count f m) ≡ past f i m
past_is unwindowed w i m = grind (arith, nat_tests)
past_is (one Rows s n) w i m = counts_are_exact s n m.left i w.0
past_is (one Range s n) w i m = count_reached_is s n m.last i w.0
past_is (two Rows s n k) w i m = below_min i _ _ ∙ (λ j. counts_are_exact s n m.left i w.0 j && counts_are_exact s k m.right i w.0 j)
past_is (two Range s n k) w i m = count_reached_is s (max n k) m.last i w.0

-- and begun exactly where it is below that count
pub begun_are_counted : (f : Frame) → Fits f → (i : ℕ) (m : Mark) → nat_lt i (begun_count f m) ≡ begun f i m
begun_are_counted unwindowed w i m = grind (arith, nat_tests)
begun_are_counted (one Rows s n) w i m = count_from_one s m.left i w.0
begun_are_counted (one Range s n) w i m = reached_from_zero s m.last i w.0
begun_are_counted (two Rows s n k) w i m = below_max i _ _ ∙ (λ j. count_from_one s m.left i w.0 j || count_from_one s m.right i w.0 j)
begun_are_counted (two Range s n k) w i m = reached_from_zero s m.last i w.0

-- and closed exactly where it is below that one
pub closed_are_counted : (f : Frame) → Fits f → (i : ℕ) (m : Mark) → nat_lt i (closed_count f m) ≡ closed f i m
closed_are_counted f w i m = elim (m.ended) as (λ b. nat_lt i (cond b (begun_count f m) (past_count f m)) ≡ cond b (begun f i m) (past f i m)) [ true ↦ begun_are_counted f w i m | false ↦ past_is f w i m ]

-- ---- the end of the input

goes_on_case : (ended ordered : Bool) → (not ended && ordered) ≡ true → (ended ≡ false) × (ordered ≡ true)
goes_on_case true ordered e = absurd (both_ways _ refl e)
goes_on_case false ordered e = (refl, e)

-- a row can follow where the input did not end, and the row does not come before the last one
pub goes_on : (m : Mark) (t : ℕ) → can_follow m t ≡ true → (m.ended ≡ false) × (in_order m.last t ≡ true)
goes_on m t e = goes_on_case m.ended (in_order m.last t) e

-- there the windows that are closed are those that are past
pub closed_past : (f : Frame) (i : ℕ) (m : Mark) → m.ended ≡ false → closed f i m ≡ past f i m
closed_past f i m e = ap (λ b. cond b (begun f i m) (past f i m)) e

-- ---- the windows of a point

-- the windows that hold a point are those from one count up to another
pub points_span : (slide size i p : ℕ) → nat_le 1 slide ≡ true → spans slide size i p ≡ (nat_le (count_to slide size p) i && nat_lt i (count_to slide 0 p))
points_span slide size i p h =
    let low = counts_are_exact slide size p i h in
    let high = count_from_zero slide p i h in
    grind (arith, nat_tests, low, high)

-- ---- one row

abbrev at : Mark → Side → Values → Placed
at m s v = record { row = record { side = s; values = v }; before = m }

abbrev then : Mark → Side → Values → Mark
then m s v = step_mark m (record { side = s; values = v })

-- a row that a window has begins it
pub begins : (f : Frame) (i : ℕ) (m : Mark) (s : Side) (v : Values) → has f i (at m s v) ≡ true → begun f i (then m s v) ≡ true
begins unwindowed i m s v h = h
begins (one Rows k n) i m Left v h = grind (arith, nat_tests)
begins (one Rows k n) i m Right v h = cc
begins (one Range k n) i m Left v h = grind (arith, nat_tests)
begins (one Range k n) i m Right v h = cc
begins (two Rows k n r) i m Left v h = grind (arith, nat_tests)
begins (two Rows k n r) i m Right v h = grind (arith, nat_tests)
begins (two Range k n r) i m Left v h = grind (arith, nat_tests)
begins (two Range k n r) i m Right v h = grind (arith, nat_tests)

reached_on : (o : Option ℤ) (t p : ℕ) → is_reached o t ≡ true → in_order o p ≡ true → nat_le t p ≡ true
reached_on None t p h e = cc
reached_on (Some z) t p h e = grind (arith, nat_tests)

-- what is begun stays begun
begun_on : (f : Frame) (i : ℕ) (m : Mark) (s : Side) (v : Values) → in_order m.last (stamp v) ≡ true → begun f i m ≡ true → begun f i (then m s v) ≡ true
begun_on unwindowed i m s v e h = h
begun_on (one Rows k n) i m Left v e h = grind (arith, nat_tests)
begun_on (one Rows k n) i m Right v e h = h
begun_on (one Range k n) i m s v e h = reached_on m.last _ _ h e
begun_on (two Rows k n r) i m Left v e h = grind (arith, nat_tests)
begun_on (two Rows k n r) i m Right v e h = grind (arith, nat_tests)
begun_on (two Range k n r) i m s v e h = reached_on m.last _ _ h e

-- and what is past stays past
past_on : (f : Frame) (i : ℕ) (m : Mark) (s : Side) (v : Values) → in_order m.last (stamp v) ≡ true → past f i m ≡ true → past f i (then m s v) ≡ true
past_on unwindowed i m s v e h = h
past_on (one Rows k n) i m Left v e h = grind (arith, nat_tests)
past_on (one Rows k n) i m Right v e h = h
past_on (one Range k n) i m s v e h = reached_on m.last _ _ h e
past_on (two Rows k n r) i m Left v e h = grind (arith, nat_tests)
past_on (two Rows k n r) i m Right v e h = grind (arith, nat_tests)
past_on (two Range k n r) i m s v e h = reached_on m.last _ _ h e

-- a window that is past has no later row
past_has_not : (f : Frame) (i : ℕ) (m : Mark) (s : Side) (v : Values) → in_order m.last (stamp v) ≡ true → past f i m ≡ true → has f i (at m s v) ≡ false
past_has_not unwindowed i m s v e h = refl
past_has_not (one Rows k n) i m Left v e h = grind (arith, nat_tests)
past_has_not (one Rows k n) i m Right v e h = refl
past_has_not (one Range k n) i m Left v e h = let far = reached_on m.last _ _ h e in grind (arith, nat_tests)
past_has_not (one Range k n) i m Right v e h = refl
past_has_not (two Rows k n r) i m Left v e h = grind (arith, nat_tests)
past_has_not (two Rows k n r) i m Right v e h = grind (arith, nat_tests)
past_has_not (two Range k n r) i m Left v e h = let far = reached_on m.last _ _ h e in grind (arith, nat_tests)
past_has_not (two Range k n r) i m Right v e h = let far = reached_on m.last _ _ h e in grind (arith, nat_tests)

reached_less : (o : Option ℤ) (t u : ℕ) → t ≤ u → is_reached o u ≡ true → is_reached o t ≡ true
reached_less None t u l h = h
reached_less (Some z) t u l h = grind (arith, nat_tests)

-- a window that is past is begun
past_begun : (f : Frame) → Fits f → (i : ℕ) (m : Mark) → past f i m ≡ true → begun f i m ≡ true
past_begun unwindowed w i m h = h
past_begun (one Rows k n) w i m h = let size = w.1 in grind (arith, nat_tests)
past_begun (one Range k n) w i m h = reached_less m.last _ _ (omega arith) h
past_begun (two Rows k n r) w i m h = let size = w.1 in grind (arith, nat_tests)
past_begun (two Range k n r) w i m h = reached_less m.last _ _ (omega arith) h

-- and so is one that is closed
pub closed_are_begun : (f : Frame) → Fits f → (i : ℕ) (m : Mark) → closed f i m ≡ true → begun f i m ≡ true
closed_are_begun f w i m = elim (m.ended) as (λ b. cond b (begun f i m) (past f i m) ≡ true → begun f i m ≡ true) [ true ↦ λ h. h | false ↦ λ h. past_begun f w i m h ]

-- what is closed stays closed
closed_on : (f : Frame) (i : ℕ) (m : Mark) (s : Side) (v : Values) → can_follow m (stamp v) ≡ true → closed f i m ≡ true → closed f i (then m s v) ≡ true
closed_on f i m s v e h = let on = goes_on m (stamp v) e in closed_past f i (then m s v) on.0 ∙ past_on f i m s v on.1 (sym (closed_past f i m on.0) ∙ h)

-- and has no later row
closed_has_not : (f : Frame) (i : ℕ) (m : Mark) (s : Side) (v : Values) → can_follow m (stamp v) ≡ true → closed f i m ≡ true → has f i (at m s v) ≡ false
closed_has_not f i m s v e h = let on = goes_on m (stamp v) e in past_has_not f i m s v on.1 (sym (closed_past f i m on.0) ∙ h)

-- ---- many rows

pub begun_after : (f : Frame) (i : ℕ) (m : Mark) (xs : List Row) → Ordered m xs → begun f i m ≡ true → begun f i (mark_after m xs) ≡ true
unfolding Ordered
begun_after f i m [] o h = h
begun_after f i m (x ∷ xs) o h = begun_after f i (step_mark m x) xs o.1 (begun_on f i m x.side x.values (goes_on m (stamp x.values) o.0).1 h)

pub closed_after : (f : Frame) (i : ℕ) (m : Mark) (xs : List Row) → Ordered m xs → closed f i m ≡ true → closed f i (mark_after m xs) ≡ true
unfolding Ordered
closed_after f i m [] o h = h
closed_after f i m (x ∷ xs) o h = closed_after f i (step_mark m x) xs o.1 (closed_on f i m x.side x.values o.0 h)

-- no row before is in a window that isn't begun
pub not_begun_has_none : (f : Frame) (i : ℕ) (m : Mark) (xs : List Row) → Ordered m xs → begun f i (mark_after m xs) ≡ false → filter (has f i) (placed_after m xs) ≡ []
unfolding Ordered placed_after
not_begun_has_none f i m [] o h = refl
not_begun_has_none f i m (x ∷ xs) o h =
    let out : has f i (record { row = x; before = m }) ≡ false = false_from_ne_true _ (λ e. both_ways _ h (begun_after f i (step_mark m x) xs o.1 (begins f i m x.side x.values e))) in
    ap (λ b. cond b (record { row = x; before = m } ∷ filter (has f i) (placed_after (step_mark m x) xs)) (filter (has f i) (placed_after (step_mark m x) xs))) out
    ∙ not_begun_has_none f i (step_mark m x) xs o.1 h

-- no later row is in a window that is closed
pub closed_has_none : (f : Frame) (i : ℕ) (m : Mark) (xs : List Row) → Ordered m xs → closed f i m ≡ true → filter (has f i) (placed_after m xs) ≡ []
unfolding Ordered placed_after
closed_has_none f i m [] o h = refl
closed_has_none f i m (x ∷ xs) o h =
    ap (λ b. cond b (record { row = x; before = m } ∷ filter (has f i) (placed_after (step_mark m x) xs)) (filter (has f i) (placed_after (step_mark m x) xs))) (closed_has_not f i m x.side x.values o.0 h)
    ∙ closed_has_none f i (step_mark m x) xs o.1 (closed_on f i m x.side x.values o.0 h)

not_below : (b : ℕ) → nat_lt b b ≡ true → ⊥
not_below b h = lt_irrefl b (ltb-true b b h)

le_by_below : (a b : ℕ) → ((i : ℕ) → nat_lt i a ≡ true → nat_lt i b ≡ true) → a ≤ b
le_by_below a b h = ⊎_elim (λ l. absurd (not_below b (h b (lt-ltb b a l)))) (λ l. l) (cases_lt b a)

-- the counts rise with the rows
pub closed_stay : (f : Frame) → Fits f → (m : Mark) (xs : List Row) → Ordered m xs → closed_count f m ≤ closed_count f (mark_after m xs)
closed_stay f w m xs o = le_by_below _ _ (λ i h. closed_are_counted f w i (mark_after m xs) ∙ closed_after f i m xs o (sym (closed_are_counted f w i m) ∙ h))

pub begun_stay : (f : Frame) → Fits f → (m : Mark) (xs : List Row) → Ordered m xs → begun_count f m ≤ begun_count f (mark_after m xs)
begun_stay f w m xs o = le_by_below _ _ (λ i h. begun_are_counted f w i (mark_after m xs) ∙ begun_after f i m xs o (sym (begun_are_counted f w i m) ∙ h))

-- the end of the input begins nothing
pub begun_ending : (f : Frame) (i : ℕ) (e : Bool) (m : Mark) → begun f i (end_mark e m) ≡ begun f i m
begun_ending unwindowed i e m = refl
begun_ending (one Rows k n) i e m = refl
begun_ending (one Range k n) i e m = refl
begun_ending (two Rows k n r) i e m = refl
begun_ending (two Range k n r) i e m = refl

pub begun_count_ending : (f : Frame) (e : Bool) (m : Mark) → begun_count f (end_mark e m) ≡ begun_count f m
begun_count_ending unwindowed e m = refl
begun_count_ending (one Rows k n) e m = refl
begun_count_ending (one Range k n) e m = refl
begun_count_ending (two Rows k n r) e m = refl
begun_count_ending (two Range k n r) e m = refl

-- and leaves closed what is
pub closed_ending : (f : Frame) → Fits f → (i : ℕ) (e : Bool) (m : Mark) → closed f i m ≡ true → closed f i (end_mark e m) ≡ true
closed_ending f w i true m h = begun_ending f i true m ∙ closed_are_begun f w i m h
closed_ending f w i false m h = h

-- the closed are among the begun
pub closed_within_begun : (f : Frame) → Fits f → (m : Mark) → closed_count f m ≤ begun_count f m
closed_within_begun f w m = le_by_below _ _ (λ i h. begun_are_counted f w i m ∙ closed_are_begun f w i m (sym (closed_are_counted f w i m) ∙ h))

pub ends_close_more : (f : Frame) → Fits f → (e : Bool) (m : Mark) → closed_count f m ≤ closed_count f (end_mark e m)
ends_close_more f w e m = le_by_below _ _ (λ i h. closed_are_counted f w i (end_mark e m) ∙ closed_ending f w i e m (sym (closed_are_counted f w i m) ∙ h))
