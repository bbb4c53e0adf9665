-- Adding up the numbers of tasks.
use Rattle.std.proofs.Common.{◌≡◌, ℕ, Bool, true, false, ◌+◌, ◌-◌, ◌≤◌, zero, suc, List, [], ◌∷◌, ◌++◌, take, sym, refl, ap, ap₂, ◌∙◌, subst, length-append, arith}
use Rattle.std.specs.Prelude.{Option, Some, None, slice_index}
use Rattle.std.proofs.lemmas.List.{get_or-take}
use Rattle.std.proofs.Math.Seq.{get_or-append_seam}
use Rattle.saber_ring.specs.declared.view.Lead.{Lead}
use Rattle.saber_ring.specs.declared.view.View.{View}
use Rattle.saber_ring.specs.Shows.{extra}
use Rattle.saber_ring.specs.Calls.{FillsNext}
use Rattle.saber_ring.specs.Closing.{Finishes}
use Rattle.saber_ring.specs.Sums.{AreNumbers, IsNumber, IsSum, sum_to, IsTotal, GoesOnBy, IsNextTask, EndsInSum}

-- the first tasks add the same by the data of more
pub sum_upto : (told : List ℕ) (n k : ℕ) → k ≤ n → sum_to (take n told) k ≡ sum_to told k
sum_upto told n zero le = refl
sum_upto told n (suc k) le =
    ap₂ ◌+◌ (sum_upto told n k (omega arith))
    (ap₂ ◌+◌ (ap₂ ◌+◌ (get_or-take n told k 0 (omega arith)) (get_or-take n told (k - 1) 0 (omega arith))) (get_or-take n told (k - 2) 0 (omega arith)))

-- a piece that fits is taken up
pub goes_on : (told : List ℕ) (k old new piece : ℕ) → IsTotal (take k told) k false old → IsSum told k piece → new ≡ old + piece → GoesOnBy told k new true
goes_on told k old new piece total sum now =
    now ∙ ap₂ ◌+◌ (total ∙ sum_upto told k k (omega arith)) sum ∙ (let e : suc k ≡ k + 1 = omega arith in ap (sum_to told) e)

pub stops : (told : List ℕ) (k old new : ℕ) → IsTotal (take k told) k false old → new ≡ old → GoesOnBy told k new false
stops told k old new total now = now ∙ total ∙ sum_upto told k k (omega arith)

-- so the stage goes on exactly where the piece was added
pub adds_or_stops : (told : List ℕ) (k old new piece : ℕ) (added : Bool) → IsTotal (take k told) k false old → IsSum told k piece → (added ≡ true → new ≡ old + piece) → (added ≡ false → new ≡ old) → GoesOnBy told k new added
adds_or_stops told k old new piece true total sum more same = goes_on told k old new piece total sum (more refl)
adds_or_stops told k old new piece false total sum more same = stops told k old new total (same refl)

pub next_number : (t rows : ℕ) (o : Option (Lead (List ℕ))) → IsNextTask t o → FillsNext AreNumbers (λ told r. told ++ r ∷ []) IsNumber t rows o
next_number t rows None h = absurd h
next_number t rows (Some l) h =
    let long = length-append l.told (rows ∷ []) in let size = h.1 in
    (h.0, sym (subst (λ z. slice_index (l.told ++ rows ∷ []) z ≡ rows) size (get_or-append_seam l.told rows [] 0)), omega arith)

pub ends_in_sum : (v : View (List ℕ)) (stage : ℕ) (o : Option (Lead (List ℕ))) → Finishes (λ (told : List ℕ) k. take k told) IsTotal v stage o → EndsInSum stage v.seen o
ends_in_sum v stage None f = absurd f
ends_in_sum v stage (Some l) f = let within = f.4 in (f.0, f.2 ∙ sum_upto l.told (f.0 + extra f.1) f.0 (omega arith), f.6, omega arith)
