-- What the last seat finds in the cell of the task after those behind the stage.
use Rattle.std.proofs.Common.{◌≡◌, ◌≢◌, ◌⊎◌, ℕ, Bool, true, false, get_or, ◌+◌, ◌*◌, ◌%◌, length, sym, refl, ap, ◌∙◌, subst, arith, inl, inr}
use Rattle.std.specs.Prelude.{Some, None}
use mathlib.Core.Option.{some}
use mathlib.Core.Option as maybe
use lib.ListN.{get_elem?}
use Rattle.atomic_table.specs.Table.{State, Me, keeps, step, Allows}
use Rattle.saber_ring.specs.declared.view.SlotValue.{SlotValue}
use Rattle.saber_ring.specs.declared.view.TurnState.TheVariants.{Open}
use Rattle.saber_ring.specs.declared.view.Entry.TheVariants.{Claim, Deposit}
use Rattle.saber_ring.specs.declared.view.View.{View}
use Rattle.saber_ring.specs.declared.view.Lead.{Lead}
use Rattle.saber_ring.specs.declared.view.HeldTurn.{HeldTurn}
use Rattle.saber_ring.specs.Shows.{RingPhase, idle, ready, held, done, taken, past, number_of, won_by, TakenBy, RingState, Fits, HasTurn, TurnFits, ShowsAs, Shows, times, claims_of, deposits_of}
use Rattle.saber_ring.specs.Plays.{looked, sees_piece}
use Rattle.saber_ring.proofs.BlockFrames.{cell_low}
use Rattle.saber_ring.proofs.PhaseFacts.{some_same, number_done}
use Rattle.saber_ring.proofs.Moves.{looks}
use Rattle.saber_ring.proofs.Turns.{open_by}
use Rattle.saber_ring.proofs.Alone.{Alone, own_all}
use Rattle.saber_ring.proofs.Endings.{no_jobs}

module _ {T R P S : Type 0} (is_told : T → ℕ → Type 0) (upto : T → ℕ → T) (needs : T → ℕ → ℕ) (is_rows : T → ℕ → R → Type 0) (is_piece : T → ℕ → P → Type 0) (is_stage : T → ℕ → Bool → S → Type 0) (size : ℕ) where
  abbrev St : Type 0
  St = State (SlotValue R P S) (View T)

  abbrev As : St → RingState T → Type 0
  As s b = ShowsAs is_told upto needs is_rows is_piece is_stage size s b

  abbrev IsAlone : St → RingState T → ℕ → View T → Lead T → Type 0
  IsAlone = Alone is_told upto needs is_rows is_piece is_stage size

  done_there : (s : St) (b : RingState T) (id : ℕ) (v : View T) (l : Lead T) → As s b → IsAlone s b id v l → v.job ≡ None → b.turn ≡ won_by id Open → (ph : RingPhase) → b.phase b.given ≡ ph → claims_of ph ≢ 0 → Fits size b (length s.views) b.given ph → (m : Bool) × (ph ≡ done m)
  done_there s b id v l sh a no_job opened idle e c f = absurd (c refl)
  done_there s b id v l sh a no_job opened ready e c f = absurd (c refl)
  done_there s b id v l sh a no_job opened (held j) e c f = absurd (no_jobs is_told upto needs is_rows is_piece is_stage size s b id v l sh a no_job b.given j e)
  done_there s b id v l sh a no_job opened (done m) e c f = (m, refl)
  done_there s b id v l sh a no_job opened (taken m) e c f = absurd (subst (TakenBy m) opened f.2)
  done_there s b id v l sh a no_job opened past e c f = absurd (omega (arith, f))

  which : (n k : ℕ) (m : Bool) → n ≡ 8 * k + number_of (done m) → (n ≡ 8 * k + 4) ⊎ (n ≡ 8 * k + 6)
  which n k false e = inl e
  which n k true e = inr e

  -- a claimed task is done for the last seat that has no job and the turn open in hand
  finds_done : (s : St) (b : RingState T) (id : ℕ) (v : View T) (l : Lead T) → As s b → IsAlone s b id v l → v.job ≡ None → (h : HeldTurn T) → v.turn ≡ Some h → h.state ≡ Open → times (Claim h.behind) v.own ≢ 0 → (i : ℕ) → i ≡ h.behind % size + 1
      → (get_or s.words i 0 ≡ 8 * h.behind + 4) ⊎ (get_or s.words i 0 ≡ 8 * h.behind + 6)
  finds_done s b id v l sh a no_job h is opened claim_made i cell =
      let k = sh.shape in let own = own_all is_told upto needs is_rows is_piece is_stage size s b id v l sh a in let has = subst (HasTurn upto b id) is (k.each_seat id v a.0).turn in
      let at : h.behind ≡ b.given = has.1 in let c : claims_of (b.phase b.given) ≢ 0 = λ e. claim_made (ap (λ (z : ℕ). times (Claim z) v.own) at ∙ own (Claim b.given) ∙ e) in
      let d = done_there s b id v l sh a no_job (has.0 ∙ ap (won_by id) opened) (b.phase b.given) refl c (k.each_task b.given) in let pos = k.some_cell in
      which (get_or s.words i 0) h.behind d.0 (ap (λ (z : ℕ). get_or s.words z 0) cell ∙ k.each_word h.behind (omega arith) (omega arith) ∙ ap (λ (z : RingPhase). 8 * h.behind + number_of z) (ap b.phase at ∙ d.1))

  deposit_there : (b : RingState T) (n id : ℕ) (m : Bool) → b.turn ≡ won_by id Open → (ph : RingPhase) → deposits_of m ph ≢ 0 → Fits size b n b.given ph → ph ≡ done m
  deposit_there b n id m opened idle c f = absurd (c refl)
  deposit_there b n id m opened ready c f = absurd (c refl)
  deposit_there b n id m opened (held j) c f = absurd (c refl)
  deposit_there b n id true opened (done true) c f = refl
  deposit_there b n id false opened (done false) c f = refl
  deposit_there b n id true opened (done false) c f = absurd (c refl)
  deposit_there b n id false opened (done true) c f = absurd (c refl)
  deposit_there b n id m opened (taken x) c f = absurd (subst (TakenBy x) opened f.2)
  deposit_there b n id m opened past c f = absurd (omega (arith, f))

  -- a task that the last seat deposited is done as it did, for the turn open in its hand
  finds_deposit : (s : St) (b : RingState T) (id : ℕ) (v : View T) (l : Lead T) → As s b → IsAlone s b id v l → (h : HeldTurn T) → v.turn ≡ Some h → h.state ≡ Open → (m : Bool) → times (Deposit h.behind m) v.own ≢ 0 → (i : ℕ) → i ≡ h.behind % size + 1
      → get_or s.words i 0 ≡ 8 * h.behind + number_of (done m)
  finds_deposit s b id v l sh a h is opened m made i cell =
      let k = sh.shape in let own = own_all is_told upto needs is_rows is_piece is_stage size s b id v l sh a in let has = subst (HasTurn upto b id) is (k.each_seat id v a.0).turn in
      let at : h.behind ≡ b.given = has.1 in let c : deposits_of m (b.phase b.given) ≢ 0 = λ e. made (ap (λ (z : ℕ). times (Deposit z m) v.own) at ∙ own (Deposit b.given m) ∙ e) in
      let d = deposit_there b (length s.views) id m (has.0 ∙ ap (won_by id) opened) (b.phase b.given) c (k.each_task b.given) in let pos = k.some_cell in
      ap (λ (z : ℕ). get_or s.words z 0) cell ∙ k.each_word h.behind (omega arith) (omega arith) ∙ ap (λ (z : RingPhase). 8 * h.behind + number_of z) (ap b.phase at ∙ d)

  -- a holder that finds the next task done took nothing, and the stage runs
  finds_open : (s : St) (b : RingState T) (id : ℕ) (v : View T) → As s b → get_elem? s.views id ≡ some v → (h : HeldTurn T) → v.turn ≡ Some h → (i : ℕ) (m : Bool) → i ≡ h.behind % size + 1 → get_or s.words i 0 ≡ 8 * h.behind + number_of (done m) → h.state ≡ Open
  finds_open s b id v sh at h is i m cell e =
      let k = sh.shape in let has = subst (HasTurn upto b id) is (k.each_seat id v at).turn in let pos = k.some_cell in let same = has.1 in
      let word : get_or s.words i 0 ≡ 8 * h.behind + number_of (b.phase h.behind) = ap (λ (z : ℕ). get_or s.words z 0) cell ∙ k.each_word h.behind (omega arith) (omega arith) in
      let equal : number_of (b.phase h.behind) ≡ number_of (done m) = omega arith in
      open_by is_told upto needs is_rows is_piece is_stage size b (length s.views) id m (ap b.phase (sym same) ∙ number_done (b.phase h.behind) m equal) h.state (subst (TurnFits b (length s.views)) has.0 k.turn_fits)

  pub looks_for_piece : (slots id : ℕ) (me : Me (SlotValue R P S) (View T)) (i : ℕ) (h : HeldTurn T) → i ≡ h.behind % size + 1 → me.0.turn ≡ Some h
      → Allows (Shows is_told upto needs is_rows is_piece is_stage size) slots id me i (λ n. n) (sees_piece (step slots i 0 0 maybe.none) me)
  looks_for_piece slots id me i h cell is_turn s r wide at _ = let n : ℕ = get_or s.words i 0 in let b = r.0 in let sh = r.1 in (
    looked me.0 i n,
    keeps,
    tt,
    looks is_told upto needs is_rows is_piece is_stage size s b i id me.1 me.0 (looked me.0 i n) sh (cell_low i h.behind size cell sh.shape.some_cell) at refl refl refl refl refl refl refl (sh.shape.each_seat id me.0 at).seen,
    (
      refl,
      (λ l h' lead out no_job alive is opened made. finds_done s b id me.0 l sh (at, lead, out, alive) no_job h' is opened made i (cell ∙ ap (λ (z : HeldTurn T). z.behind % size + 1) (some_same h h' (sym is_turn ∙ is)))),
      (λ h' m is e. finds_open s b id me.0 sh at h' is i m (cell ∙ ap (λ (z : HeldTurn T). z.behind % size + 1) (some_same h h' (sym is_turn ∙ is))) e),
      (λ l h' m lead out alive is opened made. finds_deposit s b id me.0 l sh (at, lead, out, alive) h' is opened m made i (cell ∙ ap (λ (z : HeldTurn T). z.behind % size + 1) (some_same h h' (sym is_turn ∙ is)))),
    ),
  )
