use Rattle.std.proofs.Common.{◌≡◌, ◌≢◌, ◌+◌, ◌-◌, ◌<◌, ◌≤◌, ℕ, zero, suc, Bool, true, false, List, [], ◌∷◌, refl, sym, ap, ◌∙◌, subst, arith, slice_index_or, slice_set}
use Rattle.std.specs.Mem.Slots.{slots_filled, slots_len}
use Rattle.std.proofs.lemmas.List.{get_or-set_other}
use mathlib.Core.Logic.{dite}
use native.Mathlib.Decide.{ℕ_discrete}
use lib.ListN.{get_elem?}
use Rattle.saber_ring.proofs.closing.sweep.Goals as goal

-- a place that was emptied
emptied : (full : List Bool) (i : ℕ) → slice_index_or (slice_set full i false) i false ≡ false
emptied [] i = refl
emptied (x ∷ full) zero = refl
emptied (x ∷ full) (suc i) = emptied full i

-- and those before it
before : (full : List Bool) (i k n : ℕ) → ((k : ℕ) → k < i → k < n → slice_index_or full k false ≡ false) → k < i + 1 → k < n → slice_index_or (slice_set full i false) k false ≡ false
before full i k n none less within = dite (ℕ_discrete k i)
    (λ same. subst (λ (z : ℕ). slice_index_or (slice_set full i false) z false ≡ false) (sym same) (emptied full i))
    (λ other. get_or-set_other full i k false false other ∙ none k (omega arith) within)

-- those behind it
behind : (full : List Bool) (i k n : ℕ) → ((k : ℕ) → i ≤ k → k < n → slice_index_or full k false ≡ true) → i + 1 ≤ k → k < n → slice_index_or (slice_set full i false) k false ≡ true
behind full i k n all more within =
    let other : k ≢ i = omega arith in get_or-set_other full i k false false other ∙ all k (omega arith) within

pub take-requires : goal.take-requires
take-requires g c =
    let i = c.loop-i.invariant in
    let within : c.loop-i.i < slots_len c.loop-i.closed.slots = omega arith in
    (within, i.1.1 c.loop-i.i (omega arith) within)

pub discard-requires : goal.discard-requires
discard-requires g c =
    let i = c.loop-i.invariant in let some = i.0 in let same = i.3 in
    c.requires.cells c.loop-i.i c.take.result (omega arith) (omega arith) (ap (λ xs. get_elem? xs c.loop-i.i) (sym i.2) ∙ c.take.ensures.value)

pub loop-i-preserved : goal.loop-i-preserved
loop-i-preserved g c =
    let i = c.loop-i.invariant in let e = c.take.ensures.others in let n = slots_len c.take.new.self.slots in let full = slots_filled c.loop-i.closed.slots in let long = e.2 in (
      omega arith,
      (
        λ k less within. ap (λ (xs : List Bool). slice_index_or xs k false) e.1 ∙ before full c.loop-i.i k n (λ j low high. i.1.0 j low (omega arith)) less within,
        λ k more within. ap (λ (xs : List Bool). slice_index_or xs k false) e.1 ∙ behind full c.loop-i.i k n (λ j low high. i.1.1 j low (omega arith)) more within,
      ),
      e.0 ∙ i.2,
      e.2 ∙ i.3,
    )

pub loop-i-smaller : goal.loop-i-smaller
loop-i-smaller g c =
    let long = c.take.ensures.others.2 in
    let less : slots_len c.take.new.self.slots - (c.loop-i.i + 1) < slots_len c.loop-i.closed.slots - c.loop-i.i = omega arith in
    less

pub free-requires : goal.free-requires
free-requires g c = λ k within. c.loop-i.invariant.1.0 k (omega arith) within
