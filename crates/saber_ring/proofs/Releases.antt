-- The release of the turn keeps the rule, and so does the load before that of a piece in hand.
use Rattle.std.proofs.Common.{◌≡◌, ◌≢◌, ℕ, Bool, true, false, ◌+◌, ◌*◌, ◌%◌, ◌<◌, ◌≤◌, List, ◌∷◌, length, get_or, set, sym, refl, ap, ◌∙◌, subst, mod-lt, le_refl, arith, length-set}
use mathlib.Core.Option.{none, some}
use mathlib.Core.Option as maybe
use lib.ListN.{get_elem?}
use Rattle.std.specs.Prelude.{Some}
use Rattle.atomic_table.specs.Table.{State, Me, gives, step, rest, put_back, Allows}
use Rattle.atomic_table.proofs.Lists.{set_here, set_else}
use Rattle.saber_ring.specs.declared.view.SlotValue.{SlotValue}
use Rattle.saber_ring.specs.declared.view.SlotValue.TheVariants.{Empty, Stage}
use Rattle.saber_ring.specs.declared.view.TurnState.{TurnState}
use Rattle.saber_ring.specs.declared.view.TurnState.TheVariants.{Open, TookPiece, TookMark, WonStopped, Leaving}
use Rattle.saber_ring.specs.declared.view.View.{View}
use Rattle.saber_ring.specs.declared.view.HeldTurn.{HeldTurn}
use Rattle.saber_ring.specs.Shows.{RingPhase, taken, number_of, free, won_by, turn_word, is_halted, TakenBy, RingState, Fits, IsTaken, TurnFits, extra, knows_next, IsLive, AtHome, ShowsAs, Shows, same}
use Rattle.saber_ring.specs.Plays.{leaving, is_stopped, without_turn, releases, puts_back}
use Rattle.saber_ring.proofs.BlockFrames.{blocks_low, cell_low}
use Rattle.saber_ring.proofs.Puts.{at_length}
use Rattle.saber_ring.proofs.PhaseFacts.{false_true, or_says, some_same, free_won_by, won_by_same, taken_same}
use Rattle.saber_ring.proofs.Frames.{EmptyOf, empty_stays, fits_stay, knows_stay, cell_step, turn_step, home_step, home_turn, ordered, live_base}
use Rattle.saber_ring.proofs.Counts.{counts_same, due_kept}
use Rattle.saber_ring.proofs.Turns.{alone, same_jobs, holds_turn, others_not, halts_stopped, leaving_open}

module _ {T R P S : Type 0} (is_told : T → ℕ → Type 0) (upto : T → ℕ → T) (needs : T → ℕ → ℕ) (is_rows : T → ℕ → R → Type 0) (is_piece : T → ℕ → P → Type 0) (is_stage : T → ℕ → Bool → S → Type 0) (size : ℕ) where
  abbrev St : Type 0
  St = State (SlotValue R P S) (View T)

  abbrev M : Type 0
  M = Me (SlotValue R P S) (View T)

  abbrev Rule : St → Type 0
  Rule = Shows is_told upto needs is_rows is_piece is_stage size

  abbrev As : St → RingState T → Type 0
  As s b = ShowsAs is_told upto needs is_rows is_piece is_stage size s b

  state_rests : (b : RingState T) (n : ℕ) (id : ℕ) (g : TurnState) → is_stopped g ≡ true → TurnFits b n (won_by id g) → IsTaken b n
  state_rests b n id Open e r = absurd cc
  state_rests b n id TookPiece e r = (false, r.1)
  state_rests b n id TookMark e r = (true, r.1)
  state_rests b n id WonStopped e r = r.1
  state_rests b n id Leaving e r = (false, r.1)

  taken_stops : (m : Bool) (id : ℕ) (g : TurnState) → TakenBy m (won_by id g) → is_stopped g ≡ true
  taken_stops m id Open t = absurd t
  taken_stops m id TookPiece t = refl
  taken_stops m id TookMark t = refl
  taken_stops m id WonStopped t = refl
  taken_stops m id Leaving t = refl

  told_stops : (g : TurnState) → knows_next g ≡ extra (is_stopped g)
  told_stops Open = refl
  told_stops TookPiece = refl
  told_stops TookMark = refl
  told_stops WonStopped = refl
  told_stops Leaving = refl

  released_empty : (s s' : St) (b b' : RingState T) (id : ℕ) (y : Bool) → b'.given ≡ b.given → get_elem? s'.homes (b.given % size + 1) ≡ get_elem? s.homes (b.given % size + 1) → (g : TurnState) → g ≢ TookPiece → EmptyOf is_told upto needs is_rows is_piece is_stage size s b (won_by id g)
      → EmptyOf is_told upto needs is_rows is_piece is_stage size s' b' (free y)
  released_empty s s' b b' id y given same Open ne h = empty_stays is_told upto needs is_rows is_piece is_stage size s s' b b' given same (free y) h
  released_empty s s' b b' id y given same TookPiece ne h = absurd (ne refl)
  released_empty s s' b b' id y given same TookMark ne h = empty_stays is_told upto needs is_rows is_piece is_stage size s s' b b' given same (free y) h
  released_empty s s' b b' id y given same WonStopped ne h = empty_stays is_told upto needs is_rows is_piece is_stage size s s' b b' given same (free y) h
  released_empty s s' b b' id y given same Leaving ne h = empty_stays is_told upto needs is_rows is_piece is_stage size s s' b b' given same (free y) h

  -- the first block that a task needs never falls
  abbrev pub Rises : Type 0
  Rises = (told : T) (d j k : ℕ) → is_told told d → j ≤ k → k ≤ d → needs (upto told j) j ≤ needs (upto told k) k

  -- release
  pub released_at : Rises → (s : St) (b : RingState T) (sh : As s b) (id x : ℕ) (me : M) (h : HeldTurn T) (st : S) → get_elem? s.views id ≡ some me.0 → me.0.turn ≡ Some h → h.state ≢ TookPiece → x ≡ turn_word h.behind (free (is_stopped h.state)) → is_stage h.told h.behind (is_stopped h.state) st → IsLive me.0
      → As record { words = set s.words 0 x; homes = set s.homes 0 (some (Stage st)); views = set s.views id (without_turn me.0 x h) } (record b { assembled = b.given; turn = free (is_stopped h.state) })
  released_at rises s b sh id x me h st at is_turn not_whole is stage alive =
      let k = sh.shape in let mine = k.each_seat id me.0 at in let has = holds_turn is_told upto needs is_rows is_piece is_stage size s b sh id me.0 h at is_turn in let y : Bool = is_stopped h.state in let here = at_length s.views id me.0 at in
      let w : View T = without_turn me.0 x h in let b' : RingState T = record b { assembled = b.given; turn = free y } in
      let s' : St = record { words = set s.words 0 x; homes = set s.homes 0 (some (Stage st)); views = set s.views id w } in
      let halts : is_halted b.turn ≡ true → y ≡ true = λ e. halts_stopped id h.state (sym (ap is_halted has.0) ∙ e) in
      let near : 0 < length s.homes = (let z = k.homes_wide in omega arith) in
      record {
        shape = turn_step is_told upto needs is_rows is_piece is_stage size s b b' (set s.homes 0 (some (Stage st))) id x me.0 w k at refl refl (length-set s.homes 0 (some (Stage st))) refl refl (le_refl b.given, k.given_filled, k.filled_room, k.filled_end, k.told) refl
            (λ u. fits_stay size b b' (length s.views) (length s.views) u (b.phase u) (le_refl (length s.views)) (λ a _. a) (λ a. a) (λ a. a) (λ a. a)
            (λ m e. let f = subst (Fits size b (length s.views) u) e (k.each_task u) in (f.0, f.1, taken_stops m id h.state (subst (TakenBy m) has.0 f.2))) (k.each_task u))
            (is ∙ ap (λ (z : ℕ). turn_word z (free y)) has.1) (refl, λ e. state_rests b (length s.views) id h.state e (subst (TurnFits b (length s.views)) has.0 k.turn_fits))
            record {
              job = mine.job;
              turn = λ p e. free_won_by y id p e;
              block = mine.block;
              lead = mine.lead;
              seen = ((let z = has.1 in omega arith), or_says me.0.stopped y y (λ e. halts (mine.seen.1 e)) (λ e. e));
              found = tt;
              base = live_base upto b b' id me.0 w (λ _ _. refl) alive refl mine.base;
            }
            (λ j v ne kn. knows_stay upto b b' j v (λ _. ((λ e. e), λ e. e)) (λ _ _. refl) (same_jobs is_told upto needs is_rows is_piece is_stage size s b b' sh refl j) (alone is_told upto needs is_rows is_piece is_stage size b b' id j ne (others_not is_told upto needs is_rows is_piece is_stage size b id h.state has.0) (λ i p e. absurd (free_won_by y i p e))) refl (λ _. (refl, refl, refl, refl)) k.assembled_given halts kn);
        home = home_turn is_told upto needs is_rows is_piece is_stage size s s' b b' k sh.home (λ j _. set_else s.homes 0 (j + 1) (some (Stage st)) (λ e. omega arith)) refl refl refl
            (st, set_here s.homes 0 (some (Stage st)) near, subst (λ (z : T × ℕ). is_stage z.0 z.1 y st) (λ i. ((has.2 ∙ ap (λ (z : ℕ). upto b.told (b.given + z)) (told_stops h.state)) i, has.1 i)) stage)
            (λ m e. released_empty s s' b b' id y refl (set_else s.homes 0 (b.given % size + 1) (some (Stage st)) (λ q. omega arith)) h.state not_whole (subst (EmptyOf is_told upto needs is_rows is_piece is_stage size s b) has.0 (sh.home.taken_cell m e)));
        blocks = blocks_low is_told upto needs is_rows is_piece is_stage size s b b.given b.given b.out (free y) b.phase 0 x (set s.homes 0 (some (Stage st))) (set s.views id w) sh.blocks (let r = sh.blocks.room in let q = rises b.told b.filled b.assembled b.given k.told k.assembled_given k.given_filled in omega arith) (λ _ _ _ _ e. e) (omega arith) (λ j ne. set_else s.homes 0 j (some (Stage st)) ne);
        count = counts_same b b' s.views id me.0 w at refl (due_kept b b' refl) sh.count;
      }

  pub releases_turn : Rises → (slots id : ℕ) (me : M) (new : ℕ) (h : HeldTurn T) (st : S) → new ≡ turn_word h.behind (free (is_stopped h.state)) → me.0.turn ≡ Some h → h.state ≢ TookPiece → is_stage h.told h.behind (is_stopped h.state) st → me.1 ≡ (0, Stage st) ∷ rest me.1 → IsLive me.0
      → Allows Rule slots id me 0 (λ n. new) (λ _. releases (step slots 0 new 0 none) me new)
  releases_turn rises slots id me new h st is is_turn not_whole stage has alive s r wide at _ = (
    without_turn me.0 new h,
    gives,
    tt,
    subst (λ (cs : List (ℕ × SlotValue R P S)). Rule record { words = set s.words 0 new; homes = put_back s.homes cs; views = set s.views id (without_turn me.0 new h) }) (sym has) (record r.0 { assembled = r.0.given; turn = free (is_stopped h.state) }, released_at rises s r.0 r.1 id new me h st at is_turn not_whole is stage alive),
    λ h' is'. let q : h ≡ h' = some_same h h' (sym is_turn ∙ is') in ((λ k. (without_turn me.0 new (q k), rest me.1)), subst (λ (z : HeldTurn T). me.0.seen ≤ z.behind) q (let a = (r.1.shape.each_seat id me.0 at).seen.0 in let z = r.1.shape.assembled_given in let g = (holds_turn is_told upto needs is_rows is_piece is_stage size s r.0 r.1 id me.0 h at is_turn).1 in omega arith)),
  )

  -- the slot of the taken cell goes back at a look
  pub left_at : (s : St) (b : RingState T) (sh : As s b) (id i : ℕ) (me : M) (h : HeldTurn T) → get_elem? s.views id ≡ some me.0 → i ≡ h.behind % size + 1 → me.0.turn ≡ Some h → h.state ≡ TookPiece → IsLive me.0
      → As record { words = set s.words i (get_or s.words i 0); homes = set s.homes i (some Empty); views = set s.views id (leaving me.0 i (get_or s.words i 0) h) } (record b { turn = won_by id Leaving })
  left_at s b sh id i me h at cell is_turn is_whole alive =
      let n : ℕ = get_or s.words i 0 in let w : View T = leaving me.0 i n h in let k = sh.shape in let g : ℕ = b.given in let b' : RingState T = record b { turn = won_by id Leaving } in
      let has = holds_turn is_told upto needs is_rows is_piece is_stage size s b sh id me.0 h at is_turn in let turn_now : b.turn ≡ won_by id TookPiece = has.0 ∙ ap (won_by id) is_whole in let mine = k.each_seat id me.0 at in
      let rest' = subst (TurnFits b (length s.views)) turn_now k.turn_fits in let phase : b.phase g ≡ taken false = rest'.1 in let cell' : i ≡ g % size + 1 = cell ∙ ap (λ (z : ℕ). z % size + 1) has.1 in
      let hi : g < g + size = (let p = k.some_cell in omega arith) in let homes' : List (maybe.Option (SlotValue R P S)) = set s.homes i (some Empty) in let s' : St = record { words = set s.words i n; homes = homes'; views = set s.views id w } in
      let near : i < length s.homes = (let q = mod-lt g k.some_cell in let z = k.homes_wide in omega arith) in
      let window : (u : ℕ) → u ≢ g → g ≤ u → u < g + size → (g ≤ u) × (u < g + size) × (b.phase u ≡ b.phase u) = λ u ne a z. (a, z, refl) in
      let runs : is_halted b.turn ≡ true → ⊥ = λ e. false_true (sym (ap is_halted turn_now) ∙ e) in
      let same_mark : (m : Bool) → b.phase g ≡ taken m → m ≡ false = λ m e. taken_same m false (sym e ∙ phase) in
      record {
        shape = cell_step is_told upto needs is_rows is_piece is_stage size s b b' homes' id g i n me.0 w k at refl refl cell' (ap (λ (z : ℕ). get_or s.words z 0) cell' ∙ k.each_word g (le_refl g) hi) (length-set s.homes i (some Empty)) (le_refl g) hi window
            (ordered is_told upto needs is_rows is_piece is_stage size s b k) refl
            (λ u. fits_stay size b b' (length s.views) (length s.views) u (b.phase u) (le_refl (length s.views)) (λ a _. a) (λ a. a) (λ a. a) (λ a. a)
            (λ m e. let f = subst (Fits size b (length s.views) u) e (k.each_task u) in (f.0, f.1, same_mark m (ap b.phase (sym f.0) ∙ e))) (k.each_task u))
            (ap (turn_word b.assembled) (sym turn_now)) (rest'.0, rest'.1)
            record {
              job = mine.job;
              turn = (refl, has.1, has.2 ∙ ap (λ (z : TurnState). upto b.told (g + knows_next z)) is_whole);
              block = mine.block;
              lead = mine.lead;
              seen = (mine.seen.0, λ e. absurd (runs (mine.seen.1 e)));
              found = λ opened m e. absurd (leaving_open opened);
              base = live_base upto b b' id me.0 w (λ _ _. refl) alive refl mine.base;
            }
            (λ j v ne kn. knows_stay upto b b' j v (λ _. ((λ e. e), λ e. e)) (λ _ _. refl) (same_jobs is_told upto needs is_rows is_piece is_stage size s b b' sh refl j) (alone is_told upto needs is_rows is_piece is_stage size b b' id j ne (others_not is_told upto needs is_rows is_piece is_stage size b id TookPiece turn_now) (λ i p e. sym (won_by_same id i Leaving p e).0)) refl (λ _. (refl, refl, refl, refl)) (le_refl b.assembled) (λ e. absurd (runs e)) kn);
        home = home_step is_told upto needs is_rows is_piece is_stage size s s' b b' g k sh.home (λ j ne. set_else s.homes i j (some Empty) (λ e. ne (e ∙ cell'))) (le_refl g) hi window (λ _ _. refl)
            (subst (AtHome upto is_rows is_piece is_stage b.told (get_elem? s'.homes (g % size + 1)) g) (sym phase) tt) tt (λ m e. ap (get_elem? s'.homes) (sym cell') ∙ set_here s.homes i (some Empty) near);
        blocks = blocks_low is_told upto needs is_rows is_piece is_stage size s b b.assembled b.given b.out (won_by id Leaving) b.phase i n homes' (set s.views id w) sh.blocks sh.blocks.room (λ _ _ _ _ e. e) (cell_low i g size cell' k.some_cell) (λ j ne. set_else s.homes i j (some Empty) ne);
        count = counts_same b b' s.views id me.0 w at refl (due_kept b b' refl) sh.count;
      }

  whole_word : (s : St) (b : RingState T) → As s b → (id i : ℕ) (v : View T) (h : HeldTurn T) → get_elem? s.views id ≡ some v → i ≡ h.behind % size + 1 → v.turn ≡ Some h → h.state ≡ TookPiece → get_or s.words i 0 ≡ 8 * h.behind + 5
  whole_word s b sh id i v h at cell is_turn is_whole =
      let k = sh.shape in let has = holds_turn is_told upto needs is_rows is_piece is_stage size s b sh id v h at is_turn in let same = has.1 in let pos = k.some_cell in
      let r = subst (TurnFits b (length s.views)) (has.0 ∙ ap (won_by id) is_whole) k.turn_fits in
      ap (λ (z : ℕ). get_or s.words z 0) cell ∙ k.each_word h.behind (omega arith) (omega arith) ∙ ap (λ (z : RingPhase). 8 * h.behind + number_of z) (ap b.phase same ∙ r.1)

  pub puts_slot_back : (slots id : ℕ) (me : M) (i : ℕ) (h : HeldTurn T) → i ≡ h.behind % size + 1 → me.0.turn ≡ Some h → h.state ≡ TookPiece → me.1 ≡ (i, Empty) ∷ rest me.1 → IsLive me.0 → Allows Rule slots id me i (λ n. n) (puts_back (step slots i 0 0 none) me)
  puts_slot_back slots id me i h cell is_turn is_whole has alive s r wide at _ = let n : ℕ = get_or s.words i 0 in (
    leaving me.0 i n h,
    gives,
    tt,
    subst (λ (cs : List (ℕ × SlotValue R P S)). Rule record { words = set s.words i n; homes = put_back s.homes cs; views = set s.views id (leaving me.0 i n h) }) (sym has)
        (record r.0 { turn = won_by id Leaving }, left_at s r.0 r.1 id i me h at cell is_turn is_whole alive),
    λ h' is'. let q : h ≡ h' = some_same h h' (sym is_turn ∙ is') in ((λ k. (leaving me.0 i n (q k), rest me.1)), whole_word s r.0 r.1 id i me.0 h at cell is_turn is_whole ∙ ap (λ (z : HeldTurn T). 8 * z.behind + 5) q),
  )
