-- The give of the holder of the turn keeps the rule.
use Rattle.std.proofs.Common.{◌^◌, ◌≡◌, ◌≢◌, ℕ, Bool, true, false, ◌+◌, ◌*◌, ◌%◌, ◌<◌, ◌≤◌, List, ◌∷◌, length, set, sym, refl, ap, ◌∙◌, subst, mod-lt, le_refl, arith, length-set}
use mathlib.Core.Option.{none, some}
use native.Mathlib.Nat.{add-mod_right}
use lib.ListN.{get_elem?}
use Rattle.std.specs.Prelude.{Some}
use Rattle.atomic_table.specs.Table.{State, Me, gives, step, rest, put_back, Allows}
use Rattle.atomic_table.proofs.Lists.{set_here, set_else}
use Rattle.saber_ring.specs.declared.view.SlotValue.{SlotValue}
use Rattle.saber_ring.specs.declared.view.SlotValue.TheVariants.{Empty}
use Rattle.saber_ring.specs.declared.view.TurnState.{TurnState}
use Rattle.saber_ring.specs.declared.view.TurnState.TheVariants.{Open, TookPiece}
use Rattle.saber_ring.specs.declared.view.Entry.TheVariants.{Give}
use Rattle.saber_ring.specs.declared.view.View.{View}
use Rattle.saber_ring.specs.declared.view.HeldTurn.{HeldTurn}
use Rattle.saber_ring.specs.Shows.{RingPhase, idle, ready, held, done, taken, past, number_of, won_by, turn_word, is_halted, RingState, Fits, TurnFits, knows_next, IsLive, AtHome, ShowsAs, Shows, due, same, claims_of, deposits_of, takes_of, gives_of}
use Rattle.saber_ring.specs.Plays.{went_on, goes_on}
use Rattle.saber_ring.proofs.BlockFrames.{blocks_low, cell_low}
use Rattle.saber_ring.proofs.Puts.{put, at_put, put_else, at_length}
use Rattle.saber_ring.proofs.PhaseFacts.{false_true, some_same, won_by_same, taken_held, past_held}
use Rattle.saber_ring.proofs.Moves.{no_find, job_put, lead_put}
use Rattle.saber_ring.proofs.Frames.{fits_stay, knows_stay, cell_step, home_step, live_base, job_stays}
use Rattle.saber_ring.proofs.Counts.{one, counts_more, due_give}
use Rattle.saber_ring.proofs.Turns.{alone, holds_turn, others_not}

module _ {T R P S : Type 0} (is_told : T → ℕ → Type 0) (upto : T → ℕ → T) (needs : T → ℕ → ℕ) (is_rows : T → ℕ → R → Type 0) (is_piece : T → ℕ → P → Type 0) (is_stage : T → ℕ → Bool → S → Type 0) (size : ℕ) where
  abbrev St : Type 0
  St = State (SlotValue R P S) (View T)

  abbrev M : Type 0
  M = Me (SlotValue R P S) (View T)

  abbrev Rule : St → Type 0
  Rule = Shows is_told upto needs is_rows is_piece is_stage size

  abbrev As : St → RingState T → Type 0
  As s b = ShowsAs is_told upto needs is_rows is_piece is_stage size s b

  beyond : (b : RingState T) (n u : ℕ) (ph : RingPhase) → b.filled ≤ u → b.given + size ≤ u → b.given ≤ u → Fits size b n u ph → 0 < size → ph ≡ idle
  beyond b n u idle a z l f p = refl
  beyond b n u ready a z l f p = let e = f.1 in absurd (omega arith)
  beyond b n u (held j) a z l f p = let e = f.1 in absurd (omega arith)
  beyond b n u (done m) a z l f p = let e = f.1 in absurd (omega arith)
  beyond b n u (taken m) a z l f p = let e = f.1 in absurd (omega arith)
  beyond b n u past a z l f p = absurd (omega (arith, f))

  past_counts : (m : Bool) → deposits_of m (taken false) ≡ deposits_of m past
  past_counts false = refl
  past_counts true = refl

  -- give
  pub given_at : (s : St) (b : RingState T) (sh : As s b) (id i x : ℕ) (me : M) (h : HeldTurn T) → get_elem? s.views id ≡ some me.0 → me.0.turn ≡ Some h → h.state ≡ TookPiece → i ≡ b.given % size + 1 → x ≡ 8 * (b.given + size) → IsLive me.0
      → As record { words = set s.words i x; homes = set s.homes i (some Empty); views = set s.views id (went_on me.0 i x h) } (record { assembled = b.assembled; given = b.given + 1; filled = b.filled; turn = won_by id Open; lead = b.lead; out = b.out; told = b.told; fill = b.fill; phase = put b.phase b.given past; block = b.block })
  given_at s b sh id i x me h at is_turn is_whole cell is alive =
      let k = sh.shape in let mine = k.each_seat id me.0 at in let g : ℕ = b.given in let t : ℕ = g + size in let has = holds_turn is_told upto needs is_rows is_piece is_stage size s b sh id me.0 h at is_turn in let turn_now : b.turn ≡ won_by id TookPiece = has.0 ∙ ap (won_by id) is_whole in
      let rest' = subst (TurnFits b (length s.views)) turn_now k.turn_fits in let phase : b.phase g ≡ taken false = rest'.1 in let room = subst (Fits size b (length s.views) g) phase (k.each_task g) in
      let below : g < b.filled = room.1 in let pos : 0 < size = k.some_cell in let few : b.filled ≤ g + size = k.filled_room in let here = at_length s.views id me.0 at in
      let w : View T = went_on me.0 i x h in let b' : RingState T = record { assembled = b.assembled; given = g + 1; filled = b.filled; turn = won_by id Open; lead = b.lead; out = b.out; told = b.told; fill = b.fill; phase = put b.phase g past; block = b.block } in
      let s' : St = record { words = set s.words i x; homes = set s.homes i (some Empty); views = set s.views id w } in
      let ne : t ≢ g = λ e. omega arith in
      let now : put b.phase g past t ≡ idle = put_else b.phase g past t ne ∙ beyond b (length s.views) t (b.phase t) few (omega arith) (omega arith) (k.each_task t) pos in
      let cell' : i ≡ t % size + 1 = cell ∙ ap (λ (z : ℕ). z + 1) (sym (add-mod_right g size)) in
      let near : i < length s.homes = (let q = mod-lt g k.some_cell in let z = k.homes_wide in omega arith) in
      let window : (u : ℕ) → u ≢ t → b'.given ≤ u → u < b'.given + size → (b.given ≤ u) × (u < b.given + size) × (b'.phase u ≡ b.phase u) = λ u ne a z. ((omega arith), (omega arith), put_else b.phase g past u (λ e. omega arith)) in
      let not_held : (j : ℕ) → b.phase g ≢ held j = λ j e. taken_held false j (sym phase ∙ e) in let last : b.filled ≢ g = λ e. omega arith in let runs : is_halted b.turn ≡ true → ⊥ = λ e. false_true (sym (ap is_halted turn_now) ∙ e) in
      record {
        shape = cell_step is_told upto needs is_rows is_piece is_stage size s b b' (set s.homes i (some Empty)) id t i x me.0 w k at refl refl cell' (is ∙ (omega arith) ∙ ap (λ (z : RingPhase). 8 * t + number_of z) (sym now)) (length-set s.homes i (some Empty)) (omega arith) (omega arith) window
            ((let z = k.assembled_given in omega arith), (omega arith), (omega arith), k.filled_end, k.told) refl
            (λ u. at_put b.phase g past (λ v y. Fits size b' (length s.views) v y) u (λ _. (omega arith))
            (λ ne. fits_stay size b b' (length s.views) (length s.views) u (b.phase u) (le_refl (length s.views)) (λ a _. (omega arith)) (λ a. a) (λ a. a) (λ a. (omega arith))
            (λ n e. absurd (ne (subst (Fits size b (length s.views) u) e (k.each_task u)).0)) (k.each_task u)))
            (ap (turn_word b.assembled) (sym turn_now)) here
            record {
              job = job_stays upto b b' id me.0.job (λ _ _. refl) (job_put is_told upto needs is_rows is_piece is_stage size b s sh g past id (not_held id) (past_held id)) mine.job;
              turn = (refl, ap (λ (z : ℕ). z + 1) has.1, has.2 ∙ ap (λ (z : TurnState). upto b.told (g + knows_next z)) is_whole ∙ ap (upto b.told) (let e : g + 1 ≡ g + 1 + 0 = omega arith in e));
              block = mine.block;
              lead = lead_put is_told upto needs is_rows is_piece is_stage size b id g past last me.0.lead mine.lead;
              seen = (mine.seen.0, λ e. absurd (runs (mine.seen.1 e)));
              found = no_find is_told upto needs is_rows is_piece is_stage size b' id w.turn x (g + size) 0 (omega arith) (omega arith);
              base = live_base upto b b' id me.0 w (λ _ _. refl) alive refl mine.base;
            }
            (λ j v ne kn. knows_stay upto b b' j v (λ _. ((λ e. e), λ e. e)) (λ _ _. refl) (job_put is_told upto needs is_rows is_piece is_stage size b s sh g past j (not_held j) (past_held j))
            (alone is_told upto needs is_rows is_piece is_stage size b b' id j ne (others_not is_told upto needs is_rows is_piece is_stage size b id TookPiece turn_now) (λ i p e. sym (won_by_same id i Open p e).0)) refl (λ _. (refl, refl, refl, refl)) (le_refl b.assembled) (λ e. absurd (runs e)) kn);
        home = home_step is_told upto needs is_rows is_piece is_stage size s s' b b' t k sh.home (λ j ne. set_else s.homes i j (some Empty) (λ e. ne (e ∙ cell'))) (omega arith) (omega arith) window (λ _ _. refl)
            (subst (AtHome upto is_rows is_piece is_stage b.told (get_elem? s'.homes (t % size + 1)) t) (sym now) (ap (get_elem? s'.homes) (sym cell') ∙ set_here s.homes i (some Empty) near)) tt
            (λ m e. let f = subst (Fits size b (length s.views) (g + 1)) (sym (put_else b.phase g past (g + 1) (λ q. omega arith)) ∙ e) (k.each_task (g + 1)) in let q = f.0 in absurd (omega arith));
        blocks = blocks_low is_told upto needs is_rows is_piece is_stage size s b b.assembled (g + 1) b.out (won_by id Open) b'.phase i x (set s.homes i (some Empty)) (set s.views id w) sh.blocks sh.blocks.room
            (λ u j v reads e. put_else b.phase g past v (λ same. not_held j (ap b.phase (sym same) ∙ e)) ∙ e) (cell_low i t size cell' k.some_cell) (λ j ne. set_else s.homes i j (some Empty) ne);
        count = counts_more b b' s.views id me.0 w (Give h.behind) at refl
            (subst (λ (z : ℕ). (e : _) → one (same e (Give z)) + due b e ≡ due b' e) (sym has.1) (due_give b g past (ap claims_of phase) (λ m. ap (deposits_of m) phase ∙ past_counts m) (ap takes_of phase) (ap (λ (z : RingPhase). gives_of z + 1) phase))) sh.count;
      }

  whole_below : (s : St) (b : RingState T) → As s b → (id : ℕ) (v : View T) (h : HeldTurn T) → get_elem? s.views id ≡ some v → v.turn ≡ Some h → h.state ≡ TookPiece → h.behind < 2 ^ 42
  whole_below s b sh id v h at is_turn is_whole =
      let k = sh.shape in let has = holds_turn is_told upto needs is_rows is_piece is_stage size s b sh id v h at is_turn in let r = subst (TurnFits b (length s.views)) (has.0 ∙ ap (won_by id) is_whole) k.turn_fits in let f = subst (Fits size b (length s.views) b.given) r.1 (k.each_task b.given) in let l = f.1 in let e = k.filled_end in let q = has.1 in omega arith

  pub gives_cell : (slots id : ℕ) (me : M) (i new : ℕ) (h : HeldTurn T) → i ≡ h.behind % size + 1 → new ≡ 8 * (h.behind + size) → me.0.turn ≡ Some h → h.state ≡ TookPiece → me.1 ≡ (i, Empty) ∷ rest me.1 → IsLive me.0
      → Allows Rule slots id me i (λ n. new) (λ _. goes_on (step slots i new 0 none) me new)
  gives_cell slots id me i new h cell is is_turn is_whole has alive s r wide at _ = let same : h.behind ≡ r.0.given = (holds_turn is_told upto needs is_rows is_piece is_stage size s r.0 r.1 id me.0 h at is_turn).1 in (
    went_on me.0 i new h,
    gives,
    tt,
    subst (λ (cs : List (ℕ × SlotValue R P S)). Rule record { words = set s.words i new; homes = put_back s.homes cs; views = set s.views id (went_on me.0 i new h) }) (sym has)
        ((record { assembled = r.0.assembled; given = r.0.given + 1; filled = r.0.filled; turn = won_by id Open; lead = r.0.lead; out = r.0.out; told = r.0.told; fill = r.0.fill; phase = put r.0.phase r.0.given past; block = r.0.block }), given_at s r.0 r.1 id i new me h at is_turn is_whole (cell ∙ ap (λ (z : ℕ). z % size + 1) same) (is ∙ ap (λ (z : ℕ). 8 * (z + size)) same) alive),
    λ h' is'. let q : h ≡ h' = some_same h h' (sym is_turn ∙ is') in (subst (λ (z : HeldTurn T). z.behind < 2 ^ 42) q (let below = whole_below s r.0 r.1 id me.0 h at is_turn is_whole in omega arith), λ k. (went_on me.0 i new (q k), rest me.1)),
  )
