-- Points at which as many steps are reached.
use Rattle.std.proofs.Common.{◌≡◌, ℕ, ◌+◌, ◌-◌, ◌*◌, ◌/◌, ◌%◌, ◌≤◌, ◌<◌, true, nat_le, cond, sym, ap, ◌∙◌, arith}
use Rattle.std.proofs.lemmas.Bool.Decides.{nat_tests}
use Rattle.std.proofs.Math.Nat.{div-add-mod'}
use Rattle.std.proofs.lemmas.Nat.{le-div, div_below}
use Rattle.saber_plan.specs.Windows.{count_to}

-- a distance from the last whole step on, and short of the next one, has as many whole steps
same_steps : (slide d e : ℕ) → 1 ≤ slide → d / slide * slide ≤ e → e < (d / slide + 1) * slide → e / slide ≡ d / slide
same_steps slide d e some from until =
    let low : d / slide ≤ e / slide = le-div (d / slide) e slide (omega (arith, some)) from in
    let high : e / slide < d / slide + 1 = div_below e slide (d / slide + 1) (omega (arith, some)) until in
    omega (arith, low, high)

-- the last step at or before a point, and the next one
steps_near : (slide first far until p : ℕ) → 1 ≤ slide → first ≤ far → until ≤ far - (far - first) % slide + slide
    → far - (far - first) % slide ≤ p → p < until → (first ≤ p) × ((p - first) / slide ≡ (far - first) / slide)
steps_near slide first far until p some within high from below =
    let q : ℕ = (far - first) / slide in
    let parts : q * slide + (far - first) % slide ≡ far - first = div-add-mod' (far - first) slide in
    let next : (q + 1) * slide ≡ q * slide + slide = grind arith in
    let some_left : first ≤ p = omega (arith, parts, within, from) in
    let low : q * slide ≤ p - first = omega (arith, parts, within, from) in
    let short : p - first < (q + 1) * slide = omega (arith, parts, within, high, below, next, some_left) in
    (some_left, same_steps slide (far - first) (p - first) some low short)

pub counts_alike : (slide first far until p : ℕ) → 1 ≤ slide → first ≤ far → until ≤ far - (far - first) % slide + slide
    → far ≤ p → p < until → count_to slide first p ≡ count_to slide first far
counts_alike slide first far until p some within high behind below =
    let near = steps_near slide first far until p some within high (omega (arith, behind)) below in
    let one : nat_le first p ≡ true = grind (arith, nat_tests, near.0) in
    let two : nat_le first far ≡ true = grind (arith, nat_tests, within) in
    ap (λ b. cond b ((p - first) / slide + 1) 0) one ∙ ap (λ n. n + 1) near.1 ∙ sym (ap (λ b. cond b ((far - first) / slide + 1) 0) two)
