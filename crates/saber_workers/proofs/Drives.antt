-- What a drive of the stage leaves.
use Rattle.std.proofs.Common.{◌≡◌, ◌≢◌, ℕ, ◌%◌, ◌⊎◌, true, false, refl, sym, subst, inl, inr}
use Rattle.saber_ring.specs.declared.view.View.{View}
use Rattle.saber_ring.specs.declared.view.TurnState.{TurnState}
use Rattle.saber_ring.specs.declared.view.TurnState.TheVariants.{Open, TookPiece, TookMark, WonStopped, Leaving}
use Rattle.saber_ring.specs.Calls.{NotLast, Releases}
use Rattle.saber_ring.specs.Plays.{is_stopped, looked_turn}
use Rattle.saber_workers.specs.Seats.{FoundNone, EndsTurn}

not_both : true ≡ false → ⊥
not_both e = cc

-- a release that isn't that of a stopped stage is of an open turn
pub open_of : (state : TurnState) → is_stopped state ≡ false → state ≡ Open
open_of Open e = refl
open_of TookPiece e = absurd (not_both e)
open_of TookMark e = absurd (not_both e)
open_of WonStopped e = absurd (not_both e)
open_of Leaving e = absurd (not_both e)

pub ends_turn : {T : Type 0} (size k : ℕ) (v v' : View T) (state : TurnState) → Releases size k v v' state → (state ≡ Open → FoundNone size k v) → EndsTurn size v' (is_stopped state)
ends_turn size k v v' Open r f = subst (λ (z : View _). EndsTurn size z false) (sym r.2) (let n = f refl in (refl, inr (k, refl, n.0, n.1, n.2)))
ends_turn size k v v' TookPiece r f = subst (λ (z : View _). EndsTurn size z true) (sym r.2) (refl, (k, refl))
ends_turn size k v v' TookMark r f = subst (λ (z : View _). EndsTurn size z true) (sym r.2) (refl, (k, refl))
ends_turn size k v v' WonStopped r f = subst (λ (z : View _). EndsTurn size z true) (sym r.2) (refl, (k, refl))
ends_turn size k v v' Leaving r f = subst (λ (z : View _). EndsTurn size z true) (sym r.2) (refl, (k, refl))

-- a turn that was not won
pub held_ends : {T : Type 0} (size word : ℕ) (v v' : View T) → NotLast v.lead
    → ((v' ≡ looked_turn v word) × (word % 2 ≢ 0)) ⊎ ((even : ℕ) × (even % 2 ≡ 0) × (word ≢ even) × (v' ≡ looked_turn (looked_turn v even) word)) → EndsTurn size v' false
held_ends size word v v' others (inl one) = subst (λ (z : View _). EndsTurn size z false) (sym one.0) (refl, inl (others, inl one.1))
held_ends size word v v' others (inr two) = subst (λ (z : View _). EndsTurn size z false) (sym two.3) (refl, inl (others, inr (refl, two.1, two.2)))
