-- The steps that are no event leave the core.
use Rattle.std.proofs.Common.{◌≡◌, ℕ, Bool, ◌+◌, ◌*◌, ◌%◌, ◌≤◌, ⊎_elim, List, [], length, get_or, set, sym, refl, ap, ◌∙◌, subst, arith}
use lib.Seq.{set-get_or}
use mathlib.Core.Option.{none, some}
use Rattle.saber_ring.specs.declared.view.SlotValue.TheVariants.{Empty}
use Rattle.std.specs.Prelude.{None}
use Rattle.saber_ring.specs.declared.view.TurnState.TheVariants.{Leaving}
use Rattle.saber_ring.specs.Shows.{coming, kept, read_by, won_by, RingState, ShowsAs}
use Rattle.saber_ring.specs.Plays.{looked, looked_turn, missing, led, begun, reading, leaving}
use Rattle.saber_ring.specs.Cores.{holder_of, core_of}
use Rattle.saber_ring.specs.Laws.{LookIsNoEvent, BeginIsNoEvent, StoreIsNoEvent, ReadIsNoEvent, ReturnIsNoEvent, PutBackIsNoEvent}
use Rattle.saber_ring.proofs.Puts.{put}
use Rattle.saber_ring.proofs.Moves.{word_found, looked_by, looked_as}
use Rattle.saber_ring.proofs.Turns.{Again, holds_turn, word_sees}
use Rattle.saber_ring.proofs.Releases.{Rises, left_at}
use Rattle.saber_ring.proofs.Fills.{begun_at, no_turn_found, stored_at}
use Rattle.saber_ring.proofs.Readers.{read_at, returned_at}
use Rattle.saber_ring.specs.declared.view.FillState.TheVariants.{Begun, Stored}

module _ {T R P S : Type 0} (is_told : T → ℕ → Type 0) (upto : T → ℕ → T) (needs : T → ℕ → ℕ) (is_rows : T → ℕ → R → Type 0) (is_piece : T → ℕ → P → Type 0) (is_stage : T → ℕ → Bool → S → Type 0) where
  pub look_law : LookIsNoEvent {R = R} {P = P} {S = S} is_told upto needs is_rows is_piece is_stage
  look_law size id i s b v sh at low = let seen = (sh.shape.each_seat id v at).seen in
      let found = ⊎_elim (λ (le : i ≤ size). word_found is_told upto needs is_rows is_piece is_stage size s b sh i id v le at) (λ (no_turn : v.turn ≡ None). no_turn_found is_told upto needs is_rows is_piece is_stage size b id v.turn (get_or s.words i 0) no_turn) low in (
        looked_by is_told upto needs is_rows is_piece is_stage size s b id v (looked v i (get_or s.words i 0)) sh at refl refl refl refl refl refl found seen,
        looked_by is_told upto needs is_rows is_piece is_stage size s b id v (missing v i (get_or s.words i 0)) sh at refl refl refl refl refl refl found seen,
        looked_as is_told upto needs is_rows is_piece is_stage size s b 0 id v (looked_turn v (get_or s.words 0 0)) sh (omega arith) at refl refl refl refl refl refl refl (word_sees is_told upto needs is_rows is_piece is_stage size s b sh id v at).2,
      )

  pub begin_law : ((size : ℕ) → Rises {R = R} {P = P} {S = S} is_told upto needs is_rows is_piece is_stage size) → BeginIsNoEvent {R = R} {P = P} {S = S} is_told upto needs is_rows is_piece is_stage
  begin_law rises size id s b v l sh at is_lead alive no_turn waits room =
      let t : ℕ = l.filled in let i : ℕ = t % size + 1 + size in
      let c = begun_at is_told upto needs is_rows is_piece is_stage size (rises size) s b sh id t i (4 * t + 1) (v, []) l at refl refl is_lead refl waits room alive no_turn in
      let b' : RingState T = record b { fill = Begun; block = put b.block t coming } in
      (c.0, (b', subst (λ (w : ℕ). ShowsAs is_told upto needs is_rows is_piece is_stage size (record { words = set s.words i (4 * t + 1); homes = set s.homes i none; views = set s.views id (led v i w (begun l)) }) b') c.0 c.2, refl))

  pub read_law : ((size : ℕ) → Rises {R = R} {P = P} {S = S} is_told upto needs is_rows is_piece is_stage size) → ((size : ℕ) → Again {R = R} {P = P} {S = S} is_told upto needs is_rows is_piece is_stage size) → ReadIsNoEvent {R = R} {P = P} {S = S} is_told upto needs is_rows is_piece is_stage
  read_law rises again size id u s b v x sh at is_job no_block no_turn alive first le word =
      let i : ℕ = u % size + 1 + size in let c = read_at is_told upto needs is_rows is_piece is_stage size (rises size) (again size) s b sh id u i (4 * u + 3) (v, []) x at is_job no_block no_turn alive first le refl refl word in
      let b' : RingState T = record b { block = put b.block u (read_by id) } in
      (b', subst (λ (w : ℕ). ShowsAs is_told upto needs is_rows is_piece is_stage size (record { words = set s.words i (4 * u + 3); homes = set s.homes i none; views = set s.views id (reading v i w u) }) b') word c.3, refl)

  pub return_law : ((size : ℕ) → Rises {R = R} {P = P} {S = S} is_told upto needs is_rows is_piece is_stage size) → ((size : ℕ) → Again {R = R} {P = P} {S = S} is_told upto needs is_rows is_piece is_stage size) → ReturnIsNoEvent {R = R} {P = P} {S = S} is_told upto needs is_rows is_piece is_stage
  return_law rises again size id u s b v x r sh at is_job is_block no_turn alive rows =
      (record b { block = put b.block u kept }, returned_at is_told upto needs is_rows is_piece is_stage size (rises size) (again size) s b sh id u (u % size + 1 + size) (4 * u + 2) (v, []) x r at is_job is_block no_turn alive refl refl rows, refl)

  module _ (filled : T → R → T) (keep : (told : T) (d k : ℕ) (rows : R) → is_told told d → is_told (filled told rows) (d + 1) → is_rows (filled told rows) d rows → k ≤ d → upto (filled told rows) k ≡ upto told k) (whole : (told : T) (d : ℕ) → is_told told d → upto told d ≡ told) where
    pub store_law : StoreIsNoEvent {P = P} {S = S} is_told upto needs is_rows is_piece is_stage filled
    store_law size id s b v l r sh at is_lead is_begun rows told alive no_turn = let t : ℕ = l.filled in
        (record b { fill = Stored (filled l.told r); block = put b.block t kept }, stored_at is_told upto needs is_rows is_piece is_stage size filled keep whole s b sh id t (t % size + 1 + size) (4 * t + 2) (v, []) l r at is_lead is_begun refl refl refl rows told alive no_turn, refl)

  pub put_back_law : PutBackIsNoEvent {R = R} {P = P} {S = S} is_told upto needs is_rows is_piece is_stage
  put_back_law size id s b v h sh at is_turn took alive =
      let i : ℕ = h.behind % size + 1 in let n : ℕ = length s.views in let e = (holds_turn is_told upto needs is_rows is_piece is_stage size s b sh id v h at is_turn).0 ∙ ap (won_by id) took in
      let b' : RingState T = record b { turn = won_by id Leaving } in (
        b',
        subst (λ (ws : List ℕ). ShowsAs is_told upto needs is_rows is_piece is_stage size (record { words = ws; homes = set s.homes i (some Empty); views = set s.views id (leaving v i (get_or s.words i 0) h) }) b') (set-get_or s.words i 0) (left_at is_told upto needs is_rows is_piece is_stage size s b sh id i (v, []) h at refl is_turn took alive),
        λ j. record (core_of size n b) { turn = holder_of b.given (sym e j) },
      )
