-- A window that no row has begun has no pair.
use Rattle.std.proofs.Common.{◌≡◌, ℕ, ◌+◌, ◌-◌, ◌/◌, ◌≤◌, max, List, [], ◌∷◌, ◌++◌, filter, length, true, false, cond, ◌&&◌, nat_le, nat_lt, refl, sym, ◌∙◌, ap, subst, le_trans, le_refl, arith}
use Rattle.std.proofs.lemmas.Bool.Decides.{nat_tests}
use Rattle.saber_plan.specs.declared.rows.Side.{Side}
use Rattle.saber_plan.specs.declared.rows.Side.TheVariants.{Left, Right}
use Rattle.saber_plan.specs.declared.rows.Row.{Row}
use Rattle.saber_plan.specs.declared.rows.Values.{Values}
use Rattle.saber_plan.specs.declared.windows.Mark.{Mark}
use Rattle.saber_plan.specs.declared.windows.Measure.{Measure}
use Rattle.saber_plan.specs.declared.windows.Measure.TheVariants.{Rows, Range}
use Rattle.saber_plan.specs.declared.plans.Shape.TheVariants.{Join}
use Rattle.saber_plan.specs.Trees.{Tree}
use Rattle.saber_plan.specs.Windows.{two, Fits, Ordered, Placed, step_mark, mark_after, placed_after, has, begun_count, count_to}
use Rattle.saber_plan.specs.Answers.{frame}
use Rattle.saber_plan.specs.Parts.{no_part, pair_part}
use Rattle.saber_plan.specs.Needs.{first_window, past_window, part_here}
use Rattle.saber_plan.specs.GivenRows.{RowsFit}
use Rattle.saber_plan.specs.Facts.Rows.{mark-append}
use Rattle.saber_laws.specs.Plans.{TwoWindows}
use Rattle.saber_join.proofs.Task.{part_is}
use Rattle.saber_laws.proofs.WindowLaws.{begun_stay}
use Rattle.saber_laws.proofs.CutLaws.{no_rows_no_part}
use Rattle.saber_laws.proofs.NeedLaws.{rows_span}

count_next : (slide p : ℕ) → count_to slide 0 p ≡ count_to slide 1 (p + 1)
count_next slide p =
    let here : nat_le 0 p ≡ true = grind (arith, nat_tests) in
    let there : nat_le 1 (p + 1) ≡ true = grind (arith, nat_tests) in
    let same : p - 0 ≡ p + 1 - 1 = omega arith in
    ap (λ b. cond b ((p - 0) / slide + 1) 0) here ∙ ap (λ r. r / slide + 1) same ∙ sym (ap (λ b. cond b ((p + 1 - 1) / slide + 1) 0) there)

max_first : (a b : ℕ) → a ≤ max a b
max_first a b = omega arith

max_second : (a b : ℕ) → b ≤ max a b
max_second a b = omega arith

-- a row begins its windows
begins : (measure : Measure) (slide left right : ℕ) (m : Mark) (s : Side) (v : Values) → past_window (two measure slide left right) (record { row = record { side = s; values = v }; before = m }) ≤ begun_count (two measure slide left right) (step_mark m (record { side = s; values = v }))
begins Rows k l r m Left v = subst (λ n. n ≤ max (count_to k 1 (m.left + 1)) (count_to k 1 m.right)) (sym (count_next k m.left)) (max_first (count_to k 1 (m.left + 1)) (count_to k 1 m.right))
begins Rows k l r m Right v = subst (λ n. n ≤ max (count_to k 1 m.left) (count_to k 1 (m.right + 1))) (sym (count_next k m.right)) (max_second (count_to k 1 m.left) (count_to k 1 (m.right + 1)))
begins Range k l r m Left v = le_refl _
begins Range k l r m Right v = le_refl _

past_begun : (q : Tree) → TwoWindows q → (m : Mark) (x : Row) → past_window (frame q) (record { row = x; before = m }) ≤ begun_count (frame q) (step_mark m x)
past_begun q w m x = subst (λ f. past_window f (record { row = x; before = m }) ≤ begun_count f (step_mark m x)) (sym w.has_frame) (begins w.left_window.measure w.left_window.slide w.left_window.size w.right_window.size m x.side x.values)

behind_all : (first past i : ℕ) → past ≤ i → (nat_le first i && nat_lt i past) ≡ false
behind_all first past i h = grind (arith, nat_tests)

no_row : (q : Tree) → TwoWindows q → Fits (frame q) → (i : ℕ) (m : Mark) (xs : List Row) → Ordered m xs → begun_count (frame q) (mark_after m xs) ≤ i → filter (has (frame q) i) (placed_after m xs) ≡ []
unfolding placed_after Ordered
no_row q w fits i m [] o h = refl
no_row q w fits i m (x ∷ xs) o h =
    let f = frame q in
    let y : Placed = record { row = x; before = m } in
    let past = le_trans (past_begun q w m x) (le_trans (begun_stay f fits (step_mark m x) xs o.1) h) in
    ap (λ b. cond b (y ∷ filter (has f i) (placed_after (step_mark m x) xs)) (filter (has f i) (placed_after (step_mark m x) xs))) (rows_span f fits i y ∙ behind_all (first_window f y) (past_window f y) i past)
    ∙ no_row q w fits i (step_mark m x) xs o.1 h

pub none_begun : (q : Tree) → q.shape ≡ Join → TwoWindows q → Fits (frame q) → (m : Mark) (back rows : List Row) → RowsFit q m (back ++ rows) → (i : ℕ) → begun_count (frame q) (mark_after (mark_after m back) rows) ≤ i → part_here q i m back rows ≡ no_part
none_begun q e w fits m back rows h i l =
    sym (part_is q m back rows i e)
    ∙ ap (pair_part q (m.left + m.right + length back)) (no_row q w fits i m (back ++ rows) h.ordered (subst (λ n. begun_count (frame q) n ≤ i) (sym (mark-append m back rows)) l))
    ∙ (no_rows_no_part q).of_pairs (m.left + m.right + length back)
