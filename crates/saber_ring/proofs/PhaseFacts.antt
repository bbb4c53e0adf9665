-- What a cell's word tells.
use Rattle.std.proofs.Common.{◌≡◌, ◌≢◌, ℕ, Bool, true, false, zero, suc, ◌+◌, ◌*◌, ◌%◌, ◌<◌, ◌≤◌, sym, refl, ap, ◌∙◌, mod-lt, arith}
use mathlib.Core.Logic.{dite}
use native.Mathlib.Decide.{ℕ_discrete}
use native.Mathlib.Nat.{add-mod_right}
use Rattle.std.proofs.Math.Nat.{mod-eq_of_lt}
use Rattle.std.specs.Prelude.{Some, ◌||◌}
use Rattle.saber_ring.specs.Shows.{RingPhase, idle, ready, held, done, taken, past, number_of, free, won_by, RingBlock, blank, coming, kept, read_by, block_number}
use Rattle.saber_ring.specs.declared.view.TurnState.{TurnState}
use Rattle.saber_ring.specs.declared.view.FillState.{FillState}
use Rattle.saber_ring.specs.declared.view.FillState.TheVariants.{Waiting, Begun}

pub false_true : false ≡ true → ⊥
false_true e = cc

pub or_says : (x y z : Bool) → (x ≡ true → z ≡ true) → (y ≡ true → z ≡ true) → x || y ≡ true → z ≡ true
or_says true y z a b e = a refl
or_says false y z a b e = b e

-- the place of a window that has the cell of t
pub window_has : (t n g : ℕ) → 0 < n → (u : ℕ) × (g ≤ u) × (u < g + n) × (u % n ≡ t % n)
window_has t n zero pos = let l = mod-lt t pos in (t % n, omega arith, omega arith, mod-eq_of_lt l)
window_has t n (suc g) pos = let o = window_has t n g pos in let a = o.1 in let z = o.2 in
    dite (ℕ_discrete o.0 g) (λ e. (g + n, omega arith, omega arith, add-mod_right g n ∙ ap (λ (k : ℕ). k % n) (sym e) ∙ o.3)) (λ ne. (o.0, omega arith, omega arith, o.3))

pub number_small : (ph : RingPhase) → number_of ph ≤ 7
number_small idle = omega arith
number_small ready = omega arith
number_small (held j) = omega arith
number_small (done false) = omega arith
number_small (done true) = omega arith
number_small (taken false) = omega arith
number_small (taken true) = omega arith
number_small past = omega arith

pub number_2 : (ph : RingPhase) → number_of ph ≡ 2 → ph ≡ ready
number_2 idle e = absurd (omega arith)
number_2 ready e = refl
number_2 (held j) e = absurd (omega arith)
number_2 (done false) e = absurd (omega arith)
number_2 (done true) e = absurd (omega arith)
number_2 (taken false) e = absurd (omega arith)
number_2 (taken true) e = absurd (omega arith)
number_2 past e = absurd (omega arith)

pub number_4 : (ph : RingPhase) → number_of ph ≡ 4 → ph ≡ done false
number_4 idle e = absurd (omega arith)
number_4 ready e = absurd (omega arith)
number_4 (held j) e = absurd (omega arith)
number_4 (done false) e = refl
number_4 (done true) e = absurd (omega arith)
number_4 (taken false) e = absurd (omega arith)
number_4 (taken true) e = absurd (omega arith)
number_4 past e = absurd (omega arith)

pub number_6 : (ph : RingPhase) → number_of ph ≡ 6 → ph ≡ done true
number_6 idle e = absurd (omega arith)
number_6 ready e = absurd (omega arith)
number_6 (held j) e = absurd (omega arith)
number_6 (done false) e = absurd (omega arith)
number_6 (done true) e = refl
number_6 (taken false) e = absurd (omega arith)
number_6 (taken true) e = absurd (omega arith)
number_6 past e = absurd (omega arith)

-- a task in the window whose cell's word it is
pub found : (u t f p : ℕ) → f ≤ 7 → p ≤ 7 → 8 * u + f ≡ 8 * t + p → (u ≡ t) × (f ≡ p)
found u t f p a b e = (omega arith, omega arith)

pub ready_taken : (m : Bool) → ready ≢ taken m
ready_taken m e = cc

-- two words of done tasks, and the word of another phase
pub same_done : (t k : ℕ) (m n : Bool) → 8 * t + number_of (done m) ≡ 8 * k + number_of (done n) → (t ≡ k) × (m ≡ n)
same_done t k false false e = (omega arith, refl)
same_done t k false true e = absurd (omega arith)
same_done t k true false e = absurd (omega arith)
same_done t k true true e = (omega arith, refl)

pub not_done : (n t k p : ℕ) (m : Bool) → n ≡ 8 * t + p → p < 4 → n ≡ 8 * k + number_of (done m) → ⊥
not_done n t k p false is small e = omega arith
not_done n t k p true is small e = omega arith

pub odd_done : (n t k : ℕ) (m : Bool) → n ≡ 2 * t + 1 → n ≡ 8 * k + number_of (done m) → ⊥
odd_done n t k false is e = omega arith
odd_done n t k true is e = omega arith

pub number_done : (ph : RingPhase) (m : Bool) → number_of ph ≡ number_of (done m) → ph ≡ done m
number_done ph false e = number_4 ph e
number_done ph true e = number_6 ph e

pub done_small : (m : Bool) → number_of (done m) ≤ 7
done_small false = omega arith
done_small true = omega arith

pub ready_done : (m : Bool) → ready ≢ done m
ready_done m e = cc

pub idle_done : (m : Bool) → idle ≢ done m
idle_done m e = cc

pub held_done : (j : ℕ) (m : Bool) → held j ≢ done m
held_done j m e = cc

pub ready_held : (j : ℕ) → ready ≢ held j
ready_held j e = cc

pub held_same : (i j : ℕ) → held i ≡ held j → j ≡ i
held_same i j e = cc

pub idle_taken : (m : Bool) → idle ≢ taken m
idle_taken m e = cc

pub idle_held : (j : ℕ) → idle ≢ held j
idle_held j e = cc

pub some_same : {A : Type 0} (x y : A) → Some x ≡ Some y → x ≡ y
some_same x y e = cc

pub held_taken : (j : ℕ) (m : Bool) → held j ≢ taken m
held_taken j m e = cc

pub done_held : (m : Bool) (j : ℕ) → done m ≢ held j
done_held m j e = cc

pub free_won_by : (x : Bool) (j : ℕ) (p : TurnState) → free x ≢ won_by j p
free_won_by x j p e = cc

pub won_by_same : (i j : ℕ) (p q : TurnState) → won_by i p ≡ won_by j q → (i ≡ j) × (p ≡ q)
won_by_same i j p q e = (cc, cc)

pub done_taken : (m n : Bool) → done m ≢ taken n
done_taken m n e = cc

pub taken_held : (m : Bool) (j : ℕ) → taken m ≢ held j
taken_held m j e = cc

pub taken_same : (m n : Bool) → taken m ≡ taken n → m ≡ n
taken_same m n e = cc

pub past_held : (j : ℕ) → past ≢ held j
past_held j e = cc

pub blank_read : (j : ℕ) → blank ≢ read_by j
blank_read j e = cc

pub coming_read : (j : ℕ) → coming ≢ read_by j
coming_read j e = cc

pub kept_read : (j : ℕ) → kept ≢ read_by j
kept_read j e = cc

pub read_same : (i j : ℕ) → read_by i ≡ read_by j → j ≡ i
read_same i j e = cc

pub block_2 : (x : RingBlock) → block_number x ≡ 2 → x ≡ kept
block_2 blank e = absurd (omega arith)
block_2 coming e = absurd (omega arith)
block_2 kept e = refl
block_2 (read_by j) e = absurd (omega arith)

pub waiting_begun : {T : Type 0} → ◌≡◌ {A = FillState T} Waiting Begun → ⊥
waiting_begun e = cc
