-- What counts of windows tell of a mark and of a point.
use Rattle.std.proofs.Common.{◌≡◌, ℕ, ◌+◌, ◌-◌, ◌/◌, cond, true, ◌&&◌, nat_le, nat_lt, sym, ◌∙◌, ap, arith}
use Rattle.std.proofs.lemmas.Bool.{le-leb}
use Rattle.std.proofs.lemmas.Bool.Decides.{nat_tests}
use Rattle.saber_plan.specs.declared.windows.Mark.{Mark}
use Rattle.saber_plan.specs.declared.windows.Window.{Window}
use Rattle.saber_plan.specs.Checked.{WindowFits}
use Rattle.saber_plan.specs.Windows.{Frame, Fits, begun, begun_count, count_to, spans}
use Rattle.saber_laws.proofs.WindowLaws.{begun_are_counted, points_span}

-- the windows below the count of begun ones are begun
pub begun_by : (f : Frame) (m : Mark) (n : ℕ) → Fits f → n ≡ begun_count f m → (i : ℕ) → nat_lt i n ≡ begun f i m
begun_by f m n fits e i = ap (nat_lt i) e ∙ begun_are_counted f fits i m

count_from_zero : (slide p : ℕ) → count_to slide 0 p ≡ p / slide + 1
count_from_zero slide p =
    let here : nat_le 0 p ≡ true = grind (arith, nat_tests) in
    let same : p - 0 ≡ p = omega arith in
    ap (λ b. cond b ((p - 0) / slide + 1) 0) here ∙ ap (λ r. r / slide + 1) same

below_next : (i n : ℕ) → nat_lt i (n + 1) ≡ nat_le i n
below_next i n = grind (arith, nat_tests)

-- the windows of a point go from the first that ends behind it up to the last that begins at or before it
pub spans_by : (w : Window) (p first : ℕ) → WindowFits w → first ≡ count_to w.slide w.size p → (i : ℕ) → spans w.slide w.size i p ≡ (nat_le first i && nat_le i (p / w.slide))
spans_by w p first fits e i =
    points_span w.slide w.size i p (le-leb 1 w.slide fits.slide.0)
    ∙ (λ j. nat_le (sym e j) i && (ap (nat_lt i) (count_from_zero w.slide p) ∙ below_next i (p / w.slide)) j)
