-- A window that no row has begun has no row.
use Rattle.std.proofs.Common.{◌≡◌, ℕ, ◌+◌, ◌-◌, ◌/◌, ◌≤◌, List, [], ◌∷◌, filter, true, false, cond, ◌&&◌, nat_le, nat_lt, refl, sym, ◌∙◌, ap, subst, le_trans, le_refl, arith}
use Rattle.std.proofs.lemmas.Bool.Decides.{nat_tests}
use Rattle.saber_plan.specs.declared.rows.Side.{Side}
use Rattle.saber_plan.specs.declared.rows.Side.TheVariants.{Left, Right}
use Rattle.saber_plan.specs.declared.rows.Row.{Row}
use Rattle.saber_plan.specs.declared.rows.Values.{Values}
use Rattle.saber_plan.specs.declared.windows.Mark.{Mark}
use Rattle.saber_plan.specs.declared.windows.Measure.{Measure}
use Rattle.saber_plan.specs.declared.windows.Measure.TheVariants.{Rows, Range}
use Rattle.saber_plan.specs.Trees.{Tree}
use Rattle.saber_plan.specs.Windows.{one, Fits, Ordered, Placed, step_mark, mark_after, placed_after, has, begun_count, count_to}
use Rattle.saber_plan.specs.Answers.{frame}
use Rattle.saber_plan.specs.Needs.{first_window, past_window}
use Rattle.saber_laws.proofs.NeedLaws.{rows_span}
use Rattle.saber_laws.proofs.WindowLaws.{begun_stay}
use Rattle.saber_laws.specs.Plans.{OneWindow}
use Rattle.saber_select.specs.Found.{found_of}
use Rattle.saber_select.specs.Open.{found_here}

count_next : (slide p : ℕ) → count_to slide 0 p ≡ count_to slide 1 (p + 1)
count_next slide p =
    let here : nat_le 0 p ≡ true = grind (arith, nat_tests) in
    let there : nat_le 1 (p + 1) ≡ true = grind (arith, nat_tests) in
    let same : p - 0 ≡ p + 1 - 1 = omega arith in
    ap (λ b. cond b ((p - 0) / slide + 1) 0) here ∙ ap (λ r. r / slide + 1) same ∙ sym (ap (λ b. cond b ((p + 1 - 1) / slide + 1) 0) there)

-- a row begins its windows
begins : (measure : Measure) (slide size : ℕ) (m : Mark) (s : Side) (v : Values) → past_window (one measure slide size) (record { row = record { side = s; values = v }; before = m }) ≤ begun_count (one measure slide size) (step_mark m (record { side = s; values = v }))
begins Rows k l m Left v = subst (λ n. n ≤ count_to k 1 (m.left + 1)) (sym (count_next k m.left)) (le_refl _)
begins Rows k l m Right v = omega arith
begins Range k l m Left v = le_refl _
begins Range k l m Right v = omega arith

past_begun : (q : Tree) → OneWindow q → (m : Mark) (x : Row) → past_window (frame q) (record { row = x; before = m }) ≤ begun_count (frame q) (step_mark m x)
past_begun q w m x = subst (λ f. past_window f (record { row = x; before = m }) ≤ begun_count f (step_mark m x)) (sym w.has_frame) (begins w.window.measure w.window.slide w.window.size m x.side x.values)

behind_all : (first past i : ℕ) → past ≤ i → (nat_le first i && nat_lt i past) ≡ false
behind_all first past i h = grind (arith, nat_tests)

no_row : (q : Tree) → OneWindow q → Fits (frame q) → (i : ℕ) (m : Mark) (xs : List Row) → Ordered m xs → begun_count (frame q) (mark_after m xs) ≤ i → filter (has (frame q) i) (placed_after m xs) ≡ []
unfolding placed_after Ordered
no_row q w fits i m [] o h = refl
no_row q w fits i m (x ∷ xs) o h =
    let f = frame q in
    let y : Placed = record { row = x; before = m } in
    let past = le_trans (past_begun q w m x) (le_trans (begun_stay f fits (step_mark m x) xs o.1) h) in
    ap (λ b. cond b (y ∷ filter (has f i) (placed_after (step_mark m x) xs)) (filter (has f i) (placed_after (step_mark m x) xs))) (rows_span f fits i y ∙ behind_all (first_window f y) (past_window f y) i past)
    ∙ no_row q w fits i (step_mark m x) xs o.1 h

pub none_begun : (q : Tree) → OneWindow q → Fits (frame q) → (m : Mark) (xs : List Row) → Ordered m xs → (i : ℕ) → begun_count (frame q) (mark_after m xs) ≤ i → found_here q m xs i ≡ []
none_begun q w fits m xs o i l = ap (found_of q) (no_row q w fits i m xs o l)
