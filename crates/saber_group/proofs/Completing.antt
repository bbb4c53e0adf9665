-- The windows of a row: its last is begun by it, and those before its first are closed by it.
use Rattle.std.proofs.lemmas.Bool.{false≢true}
use Rattle.std.proofs.Common.{◌≡◌, ℕ, ◌+◌, ◌-◌, ◌/◌, ◌≤◌, ◌<◌, List, length, take, drop, get_or, true, cond, nat_le, Bool, false, refl, sym, le_refl, le_trans, ◌∙◌, ap, subst, take-append-drop, arith}
use Rattle.std.proofs.lemmas.Bool.Decides.{nat_tests}
use Rattle.std.proofs.Math.Nat.{le-div_iff_mul-le}
use Rattle.saber_plan.specs.declared.rows.Side.{Side}
use Rattle.saber_plan.specs.declared.rows.Side.TheVariants.{Left, Right}
use Rattle.saber_plan.specs.declared.rows.Row.{Row}
use Rattle.saber_plan.specs.declared.rows.Values.{Values}
use Rattle.saber_plan.specs.declared.windows.Mark.{Mark}
use Rattle.saber_plan.specs.declared.windows.Measure.{Measure}
use Rattle.saber_plan.specs.declared.windows.Measure.TheVariants.{Rows, Range}
use Rattle.saber_plan.specs.Rows.{stamp}
use Rattle.saber_plan.specs.Trees.{Tree}
use Rattle.saber_plan.specs.Windows.{one, Fits, step_mark, mark_after, begun_count, closed_count, count_to}
use Rattle.saber_plan.specs.Answers.{frame}
use Rattle.saber_plan.specs.Needs.{first_window, past_window}
use Rattle.saber_plan.specs.GivenRows.{IsRowOf, RowsFit}
use Rattle.saber_plan.specs.Facts.Rows.{mark-append, mark_more, fits_drop, row_at, is_left}
use Rattle.saber_laws.specs.Plans.{OneWindow}
use Rattle.saber_group.specs.SliceParts.{begun_by, closed_by}
use Rattle.saber_laws.proofs.WindowLaws.{begun_stay, closed_stay}

-- ---- the windows of one row

-- those that begin at most there are begun by it
count_next : (slide p : ℕ) → count_to slide 0 p ≡ count_to slide 1 (p + 1)
count_next slide p =
    let here : nat_le 0 p ≡ true = grind (arith, nat_tests) in
    let there : nat_le 1 (p + 1) ≡ true = grind (arith, nat_tests) in
    let same : p - 0 ≡ p + 1 - 1 = omega arith in
    ap (λ b. cond b ((p - 0) / slide + 1) 0) here ∙ ap (λ r. r / slide + 1) same ∙ sym (ap (λ b. cond b ((p + 1 - 1) / slide + 1) 0) there)

begins : (measure : Measure) (slide size : ℕ) (m : Mark) (s : Side) (v : Values) → s ≡ Left → past_window (one measure slide size) (record { row = record { side = s; values = v }; before = m }) ≡ begun_count (one measure slide size) (step_mark m (record { side = s; values = v }))
begins Rows k n m Left v e = count_next k m.left
begins Range k n m Left v e = refl
begins measure k n m Right v e = cc

pub past_begun : (q : Tree) → OneWindow q → (m : Mark) (x : Row) → IsRowOf q x → past_window (frame q) (record { row = x; before = m }) ≡ begun_count (frame q) (step_mark m x)
past_begun q w m x h = subst (λ f. past_window f (record { row = x; before = m }) ≡ begun_count f (step_mark m x)) (sym w.has_frame) (begins w.window.measure w.window.slide w.window.size m x.side x.values (is_left q w.stream w.streams x h))

-- rows begin no more windows than all of them
pub begun_within : (q : Tree) → Fits (frame q) → (m : Mark) (xs : List Row) (k : ℕ) → RowsFit q m xs → begun_by q m (take k xs) ≤ begun_by q m xs
begun_within q fits m xs k h =
    subst (λ (n : Mark). begun_by q m (take k xs) ≤ begun_count (frame q) n) (sym (mark-append m (take k xs) (drop k xs)) ∙ ap (mark_after m) (take-append-drop k xs))
    (begun_stay (frame q) fits (mark_after m (take k xs)) (drop k xs) (fits_drop q m xs k h).ordered)

-- no window behind the row's last is begun
pub past_high : (q : Tree) → OneWindow q → Fits (frame q) → (m : Mark) (xs : List Row) (k : ℕ) (x : Row) (a : Mark) → RowsFit q m xs → k < length xs → x ≡ get_or xs k x → a ≡ mark_after m (take k xs)
    → past_window (frame q) (record { row = x; before = a }) ≤ begun_count (frame q) (mark_after m xs)
past_high q w fits m xs k x a h l e g =
    let one = past_begun q w a x (row_at q m xs k x l e h) in
    let next : step_mark a x ≡ mark_after m (take (k + 1) xs) = ap (λ b. step_mark b x) g ∙ sym (mark_more m xs k x l e) in
    subst (λ n. n ≤ begun_by q m xs) (sym (one ∙ ap (begun_count (frame q)) next)) (begun_within q fits m xs (k + 1) h)

-- ---- the windows before a row's first are closed by it

-- a quotient rises with its dividend
pub div_rises : (n p r : ℕ) → 1 ≤ n → p ≤ r → p / n ≤ r / n
div_rises n p r h l = (le-div_iff_mul-le {k = n} {x = p / n} {y = r} h).1 (le_trans ((le-div_iff_mul-le {k = n} {x = p / n} {y = p} h).0 (le_refl (p / n))) l)

count_case : (slide size p r : ℕ) (b c : Bool) → 1 ≤ slide → p ≤ r → (b ≡ true → c ≡ true) → cond b ((p - size) / slide + 1) 0 ≤ cond c ((r - size) / slide + 1) 0
count_case slide size p r true true h l k = let rises = div_rises slide (p - size) (r - size) h (omega (arith, l)) in omega (arith, rises)
count_case slide size p r true false h l k = absurd (false≢true (k refl))
count_case slide size p r false c h l k = omega arith

both_reach : (size p r : ℕ) → p ≤ r → nat_le size p ≡ true → nat_le size r ≡ true
both_reach size p r l e = grind (arith, nat_tests)

count_rises : (slide size p r : ℕ) → 1 ≤ slide → p ≤ r → count_to slide size p ≤ count_to slide size r
count_rises slide size p r h l = count_case slide size p r (nat_le size p) (nat_le size r) h l (both_reach size p r l)

-- whether the input ended or not
low_if : (b : Bool) (a x y : ℕ) → a ≤ x → a ≤ y → a ≤ cond b x y
low_if true a x y h l = h
low_if false a x y h l = l

under_case : (slide size p : ℕ) (b : Bool) → 1 ≤ slide → cond b ((p - size) / slide + 1) 0 ≤ (p - 0) / slide + 1
under_case slide size p true h = let rises = div_rises slide (p - size) (p - 0) h (omega arith) in omega (arith, rises)
under_case slide size p false h = omega arith

-- fewer windows end at or before a point than begin there
pub count_low : (slide size p : ℕ) → 1 ≤ slide → count_to slide size p ≤ count_to slide 0 p
count_low slide size p h =
    let here : nat_le 0 p ≡ true = grind (arith, nat_tests) in
    subst (λ b. count_to slide size p ≤ cond b ((p - 0) / slide + 1) 0) (sym here) (under_case slide size p (nat_le size p) h)

firsts : (measure : Measure) (slide size : ℕ) (m : Mark) (s : Side) (v : Values) → 1 ≤ slide → s ≡ Left → first_window (one measure slide size) (record { row = record { side = s; values = v }; before = m }) ≤ closed_count (one measure slide size) (step_mark m (record { side = s; values = v }))
firsts Rows k n m Left v h e = low_if m.ended (count_to k n m.left) (count_to k 1 (m.left + 1)) (count_to k n (m.left + 1)) (subst (λ c. count_to k n m.left ≤ c) (count_next k m.left) (count_low k n m.left h)) (count_rises k n m.left (m.left + 1) h (omega arith))
firsts Range k n m Left v h e = low_if m.ended (count_to k n (stamp v)) (count_to k 0 (stamp v)) (count_to k n (stamp v)) (count_low k n (stamp v) h) (le_refl _)
firsts measure k n m Right v h e = cc

first_closed : (q : Tree) (w : OneWindow q) → 1 ≤ w.window.slide → (m : Mark) (x : Row) → IsRowOf q x → first_window (frame q) (record { row = x; before = m }) ≤ closed_count (frame q) (step_mark m x)
first_closed q w low m x h = subst (λ f. first_window f (record { row = x; before = m }) ≤ closed_count f (step_mark m x)) (sym w.has_frame) (firsts w.window.measure w.window.slide w.window.size m x.side x.values low (is_left q w.stream w.streams x h))

pub closed_within : (q : Tree) → Fits (frame q) → (m : Mark) (xs : List Row) (k : ℕ) → RowsFit q m xs → closed_by q m (take k xs) ≤ closed_by q m xs
closed_within q fits m xs k h =
    subst (λ (n : Mark). closed_by q m (take k xs) ≤ closed_count (frame q) n) (sym (mark-append m (take k xs) (drop k xs)) ∙ ap (mark_after m) (take-append-drop k xs))
    (closed_stay (frame q) fits (mark_after m (take k xs)) (drop k xs) (fits_drop q m xs k h).ordered)

pub first_low : (q : Tree) (w : OneWindow q) → 1 ≤ w.window.slide → Fits (frame q) → (m : Mark) (xs : List Row) (k : ℕ) (x : Row) (a : Mark) → RowsFit q m xs → k < length xs → x ≡ get_or xs k x → a ≡ mark_after m (take k xs)
    → first_window (frame q) (record { row = x; before = a }) ≤ closed_by q m xs
first_low q w low fits m xs k x a h l e g =
    let next : step_mark a x ≡ mark_after m (take (k + 1) xs) = ap (λ b. step_mark b x) g ∙ sym (mark_more m xs k x l e) in
    le_trans (subst (λ (n : Mark). first_window (frame q) (record { row = x; before = a }) ≤ closed_count (frame q) n) next (first_closed q w low a x (row_at q m xs k x l e h)))
    (closed_within q fits m xs (k + 1) h)
