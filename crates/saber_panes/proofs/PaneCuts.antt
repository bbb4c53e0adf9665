-- How a checked group query is cut.
use Rattle.std.proofs.Common.{◌≡◌, ℕ, ◌*◌, ◌/◌, ◌<◌, sym, ◌∙◌, ap, subst, arith}
use Rattle.std.proofs.Math.Nat.{div-mul_cancel, mul-div_cancel}
use Rattle.saber_plan.specs.declared.windows.Window.{Window}
use Rattle.saber_plan.specs.Trees.{Tree}
use Rattle.saber_plan.specs.Windows.{Frame}
use Rattle.saber_plan.specs.Answers.{frame}
use Rattle.saber_panes.specs.Panes.{divisor, first_pane, pane_count, Cut}
use Rattle.saber_panes.proofs.Divisors.{is_divisor, divisor_some}

pub cut_some : (q : Tree) (f : Frame) (w : Window) (n : ℕ) → Cut q f w n → 0 < n
cut_some q f w n c = let low = divisor_some w.size w.slide c.fits.size.0 in subst (λ k. 0 < k) (sym c.wide) (omega (arith, low))

times_cut : (i s d : ℕ) → 0 < d → s / d * d ≡ s → i * (s / d) ≡ i * s / d
times_cut i s d l e =
    let again : i * (s / d) * d ≡ i * s = (let m = ap (λ n. i * n) e in omega (arith, m)) in
    sym (mul-div_cancel (i * (s / d)) l) ∙ ap (λ n. n / d) again

pub first_is : (q : Tree) (f : Frame) (w : Window) (n : ℕ) → Cut q f w n → (i : ℕ) → i * (w.slide / n) ≡ first_pane (frame q) i
first_is q f w n c i =
    let low = divisor_some w.size w.slide c.fits.size.0 in
    ap (λ k. i * (w.slide / k)) c.wide ∙ times_cut i w.slide (divisor w.size w.slide) (omega (arith, low)) (div-mul_cancel (divisor w.size w.slide) (is_divisor w.size w.slide).1) ∙ sym (ap (λ f. first_pane f i) c.windowed)

pub count_is : (q : Tree) (f : Frame) (w : Window) (n : ℕ) → Cut q f w n → w.size / n ≡ pane_count (frame q)
count_is q f w n c = ap (λ k. w.size / k) c.wide ∙ sym (ap pane_count c.windowed)
