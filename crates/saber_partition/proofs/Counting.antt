-- How many windows a row of one stream closes and begins, and which have it.
use Rattle.std.proofs.Common.{◌≡◌, ℕ, ◌+◌, ◌-◌, ◌/◌, ◌≤◌, ◌<◌, List, [], ◌∷◌, ◌++◌, Bool, true, false, cond, ◌&&◌, nat_le, nat_lt, refl, sym, le_refl, le_trans, ◌∙◌, ap, subst, arith}
use Rattle.std.proofs.lemmas.Bool.{false≢true}
use Rattle.std.proofs.lemmas.Bool.Decides.{nat_tests}
use Rattle.std.proofs.Math.Nat.{le-div_iff_mul-le}
use Rattle.saber_plan.specs.declared.rows.Side.{Side}
use Rattle.saber_plan.specs.declared.rows.Side.TheVariants.{Left, Right}
use Rattle.saber_plan.specs.declared.rows.Row.{Row}
use Rattle.saber_plan.specs.declared.rows.Values.{Values}
use Rattle.saber_plan.specs.declared.windows.Mark.{Mark}
use Rattle.saber_plan.specs.declared.windows.Measure.TheVariants.{Rows}
use Rattle.saber_plan.specs.Trees.{Tree}
use Rattle.saber_plan.specs.Windows.{one, no_rows, mark_of, mark_after, step_mark, past_count, begun_count, count_to, has}
use Rattle.saber_plan.specs.Answers.{frame, past_in, begun_in}
use Rattle.saber_plan.specs.Needs.{first_window, past_window}
use Rattle.saber_plan.specs.GivenRows.{IsRowOf, RowsFit}
use Rattle.saber_plan.specs.Facts.Lists.{all_back}
use Rattle.saber_plan.specs.Facts.Rows.{mark-append, is_left, fits_back}
use Rattle.saber_partition.specs.Streams.{Asks}
use Rattle.saber_laws.proofs.WindowLaws.{begun_stay}
use Rattle.saber_laws.proofs.NeedLaws.{rows_span}

-- ---- counts

count_next : (slide p : ℕ) → count_to slide 0 p ≡ count_to slide 1 (p + 1)
count_next slide p =
    let here : nat_le 0 p ≡ true = grind (arith, nat_tests) in
    let there : nat_le 1 (p + 1) ≡ true = grind (arith, nat_tests) in
    let same : p - 0 ≡ p + 1 - 1 = omega arith in
    ap (λ b. cond b ((p - 0) / slide + 1) 0) here ∙ ap (λ r. r / slide + 1) same ∙ sym (ap (λ b. cond b ((p + 1 - 1) / slide + 1) 0) there)

-- a quotient rises with its dividend
div_rises : (n p r : ℕ) → 1 ≤ n → p ≤ r → p / n ≤ r / n
div_rises n p r h l = (le-div_iff_mul-le {k = n} {x = p / n} {y = r} h).1 (le_trans ((le-div_iff_mul-le {k = n} {x = p / n} {y = p} h).0 (le_refl (p / n))) l)

count_case : (slide size p r : ℕ) (b c : Bool) → 1 ≤ slide → p ≤ r → (b ≡ true → c ≡ true) → cond b ((p - size) / slide + 1) 0 ≤ cond c ((r - size) / slide + 1) 0
count_case slide size p r true true h l k = let rises = div_rises slide (p - size) (r - size) h (omega (arith, l)) in omega (arith, rises)
count_case slide size p r true false h l k = absurd (false≢true (k refl))
count_case slide size p r false c h l k = omega arith

both_reach : (size p r : ℕ) → p ≤ r → nat_le size p ≡ true → nat_le size r ≡ true
both_reach size p r l e = grind (arith, nat_tests)

count_rises : (slide size p r : ℕ) → 1 ≤ slide → p ≤ r → count_to slide size p ≤ count_to slide size r
count_rises slide size p r h l = count_case slide size p r (nat_le size p) (nat_le size r) h l (both_reach size p r l)

-- ---- one row more

first_past : (slide size : ℕ) (m : Mark) (s : Side) (v : Values) → s ≡ Left → first_window (one Rows slide size) (record { row = record { side = s; values = v }; before = m }) ≡ past_count (one Rows slide size) m
first_past slide size m Left v e = refl
first_past slide size m Right v e = cc

past_begun : (slide size : ℕ) (m : Mark) (s : Side) (v : Values) → s ≡ Left → past_window (one Rows slide size) (record { row = record { side = s; values = v }; before = m }) ≡ begun_count (one Rows slide size) (step_mark m (record { side = s; values = v }))
past_begun slide size m Left v e = count_next slide m.left
past_begun slide size m Right v e = cc

past_more : (slide size : ℕ) (m : Mark) (s : Side) (v : Values) → 1 ≤ slide → s ≡ Left → past_count (one Rows slide size) m ≤ past_count (one Rows slide size) (step_mark m (record { side = s; values = v }))
past_more slide size m Left v h e = count_rises slide size m.left (m.left + 1) h (omega arith)
past_more slide size m Right v h e = cc

-- the mark of rows has no end
pub ended_stays : (m : Mark) (us : List Row) → (mark_after m us).ended ≡ m.ended
ended_stays m [] = refl
ended_stays m (u ∷ us) = ended_stays (step_mark m u) us

pub le_true : (a b : ℕ) → a ≤ b → nat_le a b ≡ true
le_true a b h = grind (arith, nat_tests)

pub lt_true : (a b : ℕ) → a < b → nat_lt a b ≡ true
lt_true a b h = grind (arith, nat_tests)

pub lt_false : (a b : ℕ) → b ≤ a → nat_lt a b ≡ false
lt_false a b h = grind (arith, nat_tests)

module _ (q : Tree) (a : Asks q) where
  pub frame_is : frame q ≡ one Rows a.window.window.slide a.window.window.size
  frame_is = a.window.has_frame ∙ (λ j. one (a.by_rows j) a.window.window.slide a.window.window.size)

  module _ (us : List Row) (r : Row) (fits : RowsFit q no_rows (us ++ r ∷ [])) where
    pub is_row : IsRowOf q r
    is_row = (all_back (IsRowOf q) us (r ∷ []) fits.rows).0

    left : r.side ≡ Left
    left = is_left q a.window.stream a.window.streams r is_row

    pub next_mark : mark_of (us ++ r ∷ []) ≡ step_mark (mark_of us) r
    next_mark = mark-append no_rows us (r ∷ [])

    first_is : first_window (frame q) (record { row = r; before = mark_of us }) ≡ past_in q us
    first_is = subst (λ f. first_window f (record { row = r; before = mark_of us }) ≡ past_count f (mark_of us)) (sym frame_is)
        (first_past a.window.window.slide a.window.window.size (mark_of us) r.side r.values left)

    past_is : past_window (frame q) (record { row = r; before = mark_of us }) ≡ begun_in q (us ++ r ∷ [])
    past_is = subst (λ f. past_window f (record { row = r; before = mark_of us }) ≡ begun_count f (step_mark (mark_of us) r)) (sym frame_is)
        (past_begun a.window.window.slide a.window.window.size (mark_of us) r.side r.values left)
        ∙ sym (ap (begun_count (frame q)) next_mark)

    -- the windows that aren't closed before the row and are begun with it have it, and no other
    pub has_is : (i : ℕ) → past_in q us ≤ i → has (frame q) i (record { row = r; before = mark_of us }) ≡ nat_lt i (begun_in q (us ++ r ∷ []))
    has_is i l =
        rows_span (frame q) a.fits i (record { row = r; before = mark_of us })
        ∙ (λ j. nat_le (first_is j) i && nat_lt i (past_is j))
        ∙ ap (λ b. b && nat_lt i (begun_in q (us ++ r ∷ []))) (le_true (past_in q us) i l)

    pub past_rises : past_in q us ≤ past_in q (us ++ r ∷ [])
    past_rises = subst (λ n. past_in q us ≤ past_count (frame q) n) (sym next_mark)
        (subst (λ f. past_count f (mark_of us) ≤ past_count f (step_mark (mark_of us) r)) (sym frame_is)
        (past_more a.window.window.slide a.window.window.size (mark_of us) r.side r.values a.window.fits.slide.0 left))

    pub begun_rises : begun_in q us ≤ begun_in q (us ++ r ∷ [])
    begun_rises = subst (λ n. begun_in q us ≤ begun_count (frame q) n) (sym next_mark)
        (begun_stay (frame q) a.fits (mark_of us) (r ∷ []) (fits_back q no_rows us (r ∷ []) fits).ordered)
