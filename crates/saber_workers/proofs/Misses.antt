-- Refusals that stay the last.
use Rattle.std.proofs.Common.{◌≡◌, ◌≢◌, ℕ, Bool, true, false, ◌+◌, ◌*◌, ◌%◌, not, refl, sym, subst}
use Rattle.std.specs.Prelude.{Option, None}
use Rattle.saber_ring.specs.declared.view.View.{View}
use Rattle.saber_ring.specs.declared.view.OwnStep.{OwnStep}
use Rattle.saber_workers.specs.Seats.{IsRefused, IsHeldUp}

pub empty_if : (b : Bool) → not b ≡ false → b ≡ true
empty_if true e = refl
empty_if false e = absurd (let h = e in cc)

module _ {T : Type 0} (size : ℕ) (v m w : View T) where
  pub none_refused : (o : Option ℕ) → o ≡ None → IsHeldUp size m w o → w.missed ≡ m.missed
  none_refused o is h = subst (IsHeldUp size m w) is h

  pub still_refused : (t : ℕ) → w.missed ≡ m.missed → IsRefused size v m t → IsRefused size v w t
  still_refused t same r = subst (λ (z : OwnStep). (z.place ≡ t % size + 1) × (z.word ≢ 8 * t + 2) × (z.number ≡ v.saw.number + 1)) (sym same) r
