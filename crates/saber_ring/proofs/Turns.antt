-- The win of the turn keeps the rule, and what its word and its holder tell.
use Rattle.std.proofs.Common.{◌^◌, ◌≡◌, ◌≢◌, ℕ, Bool, true, false, eqb, ◌+◌, ◌*◌, ◌%◌, ◌<◌, ◌≤◌, ◌∷◌, length, get_or, set, sym, refl, ap, ◌∙◌, subst, le_refl, arith, length-set}
use mathlib.Core.Option.{none, some}
use lib.ListN.{get_elem?}
use prog.Atomic.{either}
use Rattle.std.specs.Prelude.{Some, ◌||◌}
use Rattle.atomic_table.specs.Table.{State, Me, keeps, takes, step, Allows}
use Rattle.atomic_table.proofs.Lists.{exchanged, set_else}
use Rattle.saber_ring.specs.declared.view.SlotValue.{SlotValue}
use Rattle.saber_ring.specs.declared.view.SlotValue.TheVariants.{Stage}
use Rattle.saber_ring.specs.declared.view.TurnState.{TurnState}
use Rattle.saber_ring.specs.declared.view.TurnState.TheVariants.{Open, TookPiece, TookMark, WonStopped, Leaving}
use Rattle.saber_ring.specs.declared.view.View.{View}
use Rattle.saber_ring.specs.declared.view.HeldTurn.{HeldTurn}
use Rattle.saber_ring.specs.Shows.{RingPhase, done, number_of, RingTurn, free, won_by, turn_word, is_halted, Sees, TakenBy, RingState, Fits, IsTaken, TurnFits, extra, knows_next, first_of_task, HasLead, HasTurn, IsLive, StageHome, ShowsAs, Shows, same}
use Rattle.saber_ring.specs.Plays.{looked_turn, turn_behind, state_shown, is_stopped, with_turn, wins, sees_turn, sees_room, Leaves}
use Rattle.saber_ring.proofs.Puts.{at_length}
use Rattle.saber_ring.proofs.PhaseFacts.{false_true, or_says, done_taken, free_won_by, won_by_same}
use Rattle.saber_ring.proofs.Endings.{shown, leaves_at, behind_filled}
use Rattle.saber_ring.proofs.Moves.{Early, base_is, Goes, looks, held_below}
use Rattle.std.proofs.lemmas.Bool.Decides.{nat_tests}
use Rattle.saber_ring.proofs.Frames.{EmptyOf, empty_stays, fits_stay, knows_stay, turn_step, home_turn, ordered, live_base, JobOn, TurnOn}
use Rattle.saber_ring.proofs.BlockFrames.{blocks_low}
use Rattle.saber_ring.proofs.Counts.{counts_same, due_kept}

-- the turn's word, read
abbrev pub won_state : Bool → TurnState
won_state false = Open
won_state true = WonStopped

pub even_free : (k : ℕ) (x : RingTurn) (n : ℕ) → turn_word k x ≡ n → n % 2 ≡ 0 → (y : Bool) × (x ≡ free y)
even_free k (free y) n e even = (y, refl)
even_free k (won_by j Open) n e even = absurd (omega arith)
even_free k (won_by j TookPiece) n e even = absurd (omega arith)
even_free k (won_by j TookMark) n e even = absurd (omega arith)
even_free k (won_by j WonStopped) n e even = absurd (omega arith)
even_free k (won_by j Leaving) n e even = absurd (omega arith)

pub behind_of : (k : ℕ) (x : RingTurn) → k ≤ 2 ^ 42 → turn_behind (turn_word k x) ≡ k
behind_of k (free false) le = omega arith
behind_of k (free true) le = omega arith
behind_of k (won_by j Open) le = omega arith
behind_of k (won_by j TookPiece) le = omega arith
behind_of k (won_by j TookMark) le = omega arith
behind_of k (won_by j WonStopped) le = omega arith
behind_of k (won_by j Leaving) le = omega arith

pub state_is : (k : ℕ) (y : Bool) → k ≤ 2 ^ 42 → state_shown (turn_word k (free y)) ≡ won_state y
state_is k false le = grind (arith, nat_tests)
state_is k true le = grind (arith, nat_tests)

pub stopped_is : (y : Bool) → is_stopped (won_state y) ≡ y
stopped_is false = refl
stopped_is true = refl

pub next_is : (y : Bool) → knows_next (won_state y) ≡ extra y
next_is false = refl
next_is true = refl

pub stop_shows : (k : ℕ) (x : RingTurn) → k ≤ 2 ^ 42 → is_stopped (state_shown (turn_word k x)) ≡ is_halted x
stop_shows k (free y) le = ap is_stopped (state_is k y le) ∙ stopped_is y
stop_shows k (won_by j Open) le = let e : state_shown (2 * k + 1) ≡ Open = grind (arith, nat_tests) in ap is_stopped e
stop_shows k (won_by j TookPiece) le = let e : state_shown (2 * k + 1) ≡ Open = grind (arith, nat_tests) in ap is_stopped e
stop_shows k (won_by j TookMark) le = let e : state_shown (2 * k + 1) ≡ Open = grind (arith, nat_tests) in ap is_stopped e
stop_shows k (won_by j Leaving) le = let e : state_shown (2 * k + 1) ≡ Open = grind (arith, nat_tests) in ap is_stopped e
stop_shows k (won_by j WonStopped) le = let e : state_shown (2 * k + 1 + 2 ^ 62) ≡ WonStopped = grind (arith, nat_tests) in ap is_stopped e

state_halts : (id : ℕ) (y : Bool) → is_halted (won_by id (won_state y)) ≡ y
state_halts id false = refl
state_halts id true = refl

pub halts_stopped : (id : ℕ) (g : TurnState) → is_halted (won_by id g) ≡ true → is_stopped g ≡ true
halts_stopped id Open e = absurd (false_true e)
halts_stopped id TookPiece e = refl
halts_stopped id TookMark e = refl
halts_stopped id WonStopped e = refl
halts_stopped id Leaving e = refl

pub held_word : (k j : ℕ) (y : Bool) → turn_word k (won_by j (won_state y)) ≡ turn_word k (free y) + 1
held_word k j false = omega arith
held_word k j true = omega arith

pub leaving_open : Leaving ≡ Open → ⊥
leaving_open e = cc

module _ {T R P S : Type 0} (is_told : T → ℕ → Type 0) (upto : T → ℕ → T) (needs : T → ℕ → ℕ) (is_rows : T → ℕ → R → Type 0) (is_piece : T → ℕ → P → Type 0) (is_stage : T → ℕ → Bool → S → Type 0) (size : ℕ) where
  abbrev St : Type 0
  St = State (SlotValue R P S) (View T)

  abbrev M : Type 0
  M = Me (SlotValue R P S) (View T)

  abbrev Rule : St → Type 0
  Rule = Shows is_told upto needs is_rows is_piece is_stage size

  abbrev As : St → RingState T → Type 0
  As s b = ShowsAs is_told upto needs is_rows is_piece is_stage size s b

  abbrev Moved : St → ℕ → ℕ → M → (ℕ → M → Type 0) → ℕ → Type 0
  Moved = Goes is_told upto needs is_rows is_piece is_stage size

  abbrev pub Again : Type 0
  Again = (told : T) (d j k : ℕ) → is_told told d → k ≤ j → j ≤ d → upto (upto told j) k ≡ upto told k

  pub small_assembled : (s : St) (b : RingState T) → As s b → b.assembled ≤ 2 ^ 42
  small_assembled s b sh = let k = sh.shape in let a = k.assembled_given in let z = k.given_filled in let e = k.filled_end in omega arith

  -- the word of the turn, looked at
  pub word_sees : (s : St) (b : RingState T) (sh : As s b) (id : ℕ) (v : View T) → get_elem? s.views id ≡ some v → (v.seen ≤ turn_behind (get_or s.words 0 0)) × (v.stopped ≡ true → is_stopped (state_shown (get_or s.words 0 0)) ≡ true) × Sees b (turn_behind (get_or s.words 0 0)) (v.stopped || is_stopped (state_shown (get_or s.words 0 0)))
  word_sees s b sh id v at =
      let n : ℕ = get_or s.words 0 0 in let le = small_assembled s b sh in let k : turn_behind n ≡ b.assembled = ap turn_behind sh.shape.turn_is ∙ behind_of b.assembled b.turn le in
      let x : is_stopped (state_shown n) ≡ is_halted b.turn = ap (λ (z : ℕ). is_stopped (state_shown z)) sh.shape.turn_is ∙ stop_shows b.assembled b.turn le in let mine = (sh.shape.each_seat id v at).seen in let seen = mine.0 in
      ((omega arith), (λ e. x ∙ mine.1 e), ((omega arith), or_says v.stopped (is_stopped (state_shown n)) (is_halted b.turn) mine.1 (λ e. sym x ∙ e)))

  -- a load of the turn word
  pub sees_the_turn : (slots id : ℕ) (me : M) → Allows Rule slots id me 0 (λ n. n) (sees_turn (step slots 0 0 0 none) me)
  sees_the_turn slots id me s r wide at _ =
      let n : ℕ = get_or s.words 0 0 in let b = r.0 in let seen = word_sees s b r.1 id me.0 at in
      (looked_turn me.0 n, keeps, tt, looks is_told upto needs is_rows is_piece is_stage size s b 0 id me.1 me.0 (looked_turn me.0 n) r.1 (omega arith) at refl refl refl refl refl refl refl seen.2, (refl, seen.0, (λ l lead alone no_turn alive. shown is_told upto needs is_rows is_piece is_stage size s b id me.0 l r.1 (at, lead, alone, alive) no_turn), seen.1))

  -- a load of it by the first seat, which looks for room
  pub sees_the_room : Early is_told upto needs is_rows is_piece is_stage size → (slots id : ℕ) (me : M) → Allows Rule slots id me 0 (λ n. n) (sees_room upto needs (step slots 0 0 0 none) me)
  sees_the_room early slots id me s r wide at _ =
      let n : ℕ = get_or s.words 0 0 in let b = r.0 in let sh = r.1 in let seen = word_sees s b sh id me.0 at in let k = sh.shape in let le = small_assembled s b sh in
      let behind : turn_behind n ≡ b.assembled = ap turn_behind k.turn_is ∙ behind_of b.assembled b.turn le in let below : b.assembled ≤ b.filled = (let a = k.assembled_given in let z = k.given_filled in omega arith) in let first = early b.told b.filled b.assembled k.told below in (
        looked_turn me.0 n,
        keeps,
        tt,
        looks is_told upto needs is_rows is_piece is_stage size s b 0 id me.1 me.0 (looked_turn me.0 n) sh (omega arith) at refl refl refl refl refl refl refl seen.2,
        (
          refl,
          seen.0,
          λ l lead. let mine = subst (HasLead upto b id) lead (k.each_seat id me.0 at).lead in let d = mine.2 in
              (omega arith, subst (λ (z : T × ℕ). first_of_task upto needs z.0 z.1 ≤ z.1) (λ i. (sym mine.1 i, sym behind i)) first),
        ),
      )

  -- the turn goes to a seat, or comes from it: nobody else had it
  pub alone : (b b' : RingState T) (id j : ℕ) → j ≢ id → ((i : ℕ) (p : TurnState) → b.turn ≡ won_by i p → i ≡ id) → ((i : ℕ) (p : TurnState) → b'.turn ≡ won_by i p → i ≡ id) → TurnOn upto b b' j
  alone b b' id j ne before after p = ((λ e. absurd (ne (after j p e))), λ e. absurd (ne (before j p e)))

  pub same_jobs : (s : St) (b b' : RingState T) → As s b → b'.phase ≡ b.phase → (j : ℕ) → JobOn upto b b' j
  same_jobs s b b' sh same j u = ((λ e. ap (λ (f : ℕ → RingPhase). f u) (sym same) ∙ e), λ e. (ap (λ (f : ℕ → RingPhase). f u) same ∙ e, held_below is_told upto needs is_rows is_piece is_stage size b s sh u j e))

  taken_on : (id : ℕ) (m y : Bool) → y ≡ true → TakenBy m (won_by id (won_state y))
  taken_on id m false e = absurd cc
  taken_on id m true e = tt

  rests_on : (b : RingState T) (id n : ℕ) (y : Bool) → id < n → (y ≡ true → IsTaken b n) → TurnFits (record b { turn = won_by id (won_state y) }) n (won_by id (won_state y))
  rests_on b id n false l t = l
  rests_on b id n true l t = (l, t refl)

  won_find : (k n : ℕ) (y m : Bool) → n ≡ turn_word k (free y) → won_state y ≡ Open → n ≡ 8 * k + number_of (done m) → ⊥
  won_find k n false false is opened e = omega arith
  won_find k n false true is opened e = omega arith
  won_find k n true m is opened e = cc

  won_empty : (s s' : St) (b b' : RingState T) (id : ℕ) → b'.given ≡ b.given → get_elem? s'.homes (b.given % size + 1) ≡ get_elem? s.homes (b.given % size + 1) → (y : Bool) → EmptyOf is_told upto needs is_rows is_piece is_stage size s b (free y)
      → EmptyOf is_told upto needs is_rows is_piece is_stage size s' b' (won_by id (won_state y))
  won_empty s s' b b' id given same false h = empty_stays is_told upto needs is_rows is_piece is_stage size s s' b b' given same (won_by id Open) h
  won_empty s s' b b' id given same true h = empty_stays is_told upto needs is_rows is_piece is_stage size s s' b b' given same (won_by id WonStopped) h

  -- win
  pub won_at : (s : St) (b : RingState T) (sh : As s b) (id x : ℕ) (me : M) (y : Bool) → get_elem? s.views id ≡ some me.0 → b.turn ≡ free y → x ≡ get_or s.words 0 0 + 1 → IsLive me.0
      → (st : S) × is_stage (upto b.told (b.given + extra y)) b.given y st × (get_elem? s.homes 0 ≡ some (some (Stage st))) × (b.assembled ≡ b.given)
      × As record { words = set s.words 0 x; homes = set s.homes 0 none; views = set s.views id (with_turn me.0 (get_or s.words 0 0) (record { behind = b.assembled; state = won_state y; told = upto b.told (b.given + extra y) })) } (record b { turn = won_by id (won_state y) })
  won_at s b sh id x me y at is_free next alive =
      let k = sh.shape in let mine = k.each_seat id me.0 at in let n : ℕ = get_or s.words 0 0 in
      let rest = subst (TurnFits b (length s.views)) is_free k.turn_fits in let h = subst (StageHome is_told upto needs is_rows is_piece is_stage size s b) is_free sh.home.stage in
      let w : View T = with_turn me.0 n (record { behind = b.assembled; state = won_state y; told = upto b.told (b.given + extra y) }) in
      let b' : RingState T = record b { turn = won_by id (won_state y) } in let here = at_length s.views id me.0 at in
      let before : (i : ℕ) (p : TurnState) → b.turn ≡ won_by i p → i ≡ id = λ i p e. absurd (free_won_by y i p (sym is_free ∙ e)) in
      let after : (i : ℕ) (p : TurnState) → b'.turn ≡ won_by i p → i ≡ id = λ i p e. sym (won_by_same id i (won_state y) p e).0 in
      let halts : is_halted b.turn ≡ true → is_halted (won_by id (won_state y)) ≡ true = λ e. state_halts id y ∙ sym (ap is_halted is_free) ∙ e in
      let s' : St = record { words = set s.words 0 x; homes = set s.homes 0 none; views = set s.views id w } in (
        h.0,
        h.2,
        h.1,
        rest.0,
        record {
          shape = turn_step is_told upto needs is_rows is_piece is_stage size s b b' (set s.homes 0 none) id x me.0 w k at refl refl (length-set s.homes 0 none) refl refl (ordered is_told upto needs is_rows is_piece is_stage size s b k) refl
              (λ u. fits_stay size b b' (length s.views) (length s.views) u (b.phase u) (le_refl (length s.views)) (λ a _. a) (λ a. a) (λ a. a) (λ a. a)
              (λ m e. let f = subst (Fits size b (length s.views) u) e (k.each_task u) in (f.0, f.1, taken_on id m y (subst (TakenBy m) is_free f.2))) (k.each_task u))
              (next ∙ ap (λ (z : ℕ). z + 1) (k.turn_is ∙ ap (turn_word b.assembled) is_free) ∙ sym (held_word b.assembled id y)) (rests_on b id (length s.views) y here rest.1)
              record {
                job = mine.job;
                turn = (refl, rest.0, ap (λ (z : ℕ). upto b.told (b.given + z)) (sym (next_is y)));
                block = mine.block;
                lead = mine.lead;
                seen = (le_refl b.assembled, or_says me.0.stopped (is_stopped (won_state y)) (is_halted (won_by id (won_state y))) (λ e. halts (mine.seen.1 e)) (λ e. state_halts id y ∙ sym (stopped_is y) ∙ e));
                found = λ opened m e. absurd (won_find b.assembled n y m (k.turn_is ∙ ap (turn_word b.assembled) is_free) opened e);
                base = live_base upto b b' id me.0 w (λ _ _. refl) alive refl mine.base;
              }
              (λ j v ne kn. knows_stay upto b b' j v (λ _. ((λ e. e), λ e. e)) (λ _ _. refl) (same_jobs s b b' sh refl j) (alone b b' id j ne before after) refl (λ _. (refl, refl, refl, refl)) (le_refl b.assembled) halts kn);
          home = home_turn is_told upto needs is_rows is_piece is_stage size s s' b b' k sh.home (λ j _. set_else s.homes 0 (j + 1) none (λ e. omega arith)) refl refl refl tt
              (λ m e. won_empty s s' b b' id refl (set_else s.homes 0 (b.given % size + 1) none (λ q. omega arith)) y (subst (EmptyOf is_told upto needs is_rows is_piece is_stage size s b) is_free (sh.home.taken_cell m e)));
          blocks = blocks_low is_told upto needs is_rows is_piece is_stage size s b b.assembled b.given b.out (won_by id (won_state y)) b.phase 0 x (set s.homes 0 none) (set s.views id w) sh.blocks sh.blocks.room (λ _ _ _ _ e. e) (omega arith) (λ j ne. set_else s.homes 0 j none ne);
          count = counts_same b b' s.views id me.0 w at refl (due_kept b b' refl) sh.count;
        },
      )

  pub wins_turn : Again → (slots id : ℕ) (me : M) (old new : ℕ) → old % 2 ≡ 0 → new ≡ old + 1 → IsLive me.0 → Allows Rule slots id me 0 (λ n. either (eqb n old) new n) (wins upto is_stage (step slots 0 old new none) me)
  wins_turn again slots id me old new even second alive s r wide at _ =
      let n : ℕ = get_or s.words 0 0 in let b = r.0 in let sh = r.1 in let then = wins upto is_stage (step slots 0 old new none) me in let le = small_assembled s b sh in let mine = sh.shape.each_seat id me.0 at in
      let k : turn_behind n ≡ b.assembled = ap turn_behind sh.shape.turn_is ∙ behind_of b.assembled b.turn le in let seen = word_sees s b sh id me.0 at in
      exchanged n old new (Moved s 0 id me then)
      (λ hit. let f = even_free b.assembled b.turn n (sym sh.shape.turn_is) (ap (λ (z : ℕ). z % 2) hit ∙ even) in let y = f.0 in
      let state : state_shown n ≡ won_state y = ap state_shown (sh.shape.turn_is ∙ ap (turn_word b.assembled) f.1) ∙ state_is b.assembled y le in
      let c = won_at s b sh id new me y at f.1 (second ∙ ap (λ (z : ℕ). z + 1) (sym hit)) alive in let told : T = upto b.told (b.given + extra y) in (
        with_turn me.0 n (record { behind = b.assembled; state = won_state y; told = told }),
        takes 0 (Stage c.0),
        c.2,
        (record b { turn = won_by id (won_state y) }, c.4),
        (
          (λ _. (
            told,
            c.0,
            subst (λ (z : ℕ × Bool). is_stage told z.0 z.1 c.0) (λ i. ((sym c.3 ∙ sym k) i, (sym (stopped_is y) ∙ ap is_stopped (sym state)) i)) c.1,
            seen.0,
            (omega arith),
            λ i. (with_turn me.0 n (record { behind = sym k i; state = sym state i; told = told }), (0, Stage c.0) ∷ me.1),
            (λ l lead alone no_turn. subst (λ (z : ℕ × Bool). Leaves me.0.own z.0 z.1) (λ i. ((sym c.3 ∙ sym k) i, (sym (stopped_is y) ∙ ap is_stopped (sym state)) i)) (leaves_at is_told upto needs is_rows is_piece is_stage size s b id me.0 l sh (at, lead, alone, alive) y f.1)),
            base_is is_told upto needs is_rows is_piece is_stage size again s b sh id me.0 at alive (b.given + extra y) (behind_filled is_told upto needs is_rows is_piece is_stage size s b sh y f.1),
          )),
          λ miss. absurd (miss hit),
        ),
      ))
      (λ miss. (looked_turn me.0 n, keeps, tt, looks is_told upto needs is_rows is_piece is_stage size s b 0 id me.1 me.0 (looked_turn me.0 n) sh (omega arith) at refl refl refl refl refl refl refl seen.2, ((λ hit. absurd (miss hit)), λ _. (refl, seen.0, λ l lead alone no_turn is_alive. shown is_told upto needs is_rows is_piece is_stage size s b id me.0 l sh (at, lead, alone, is_alive) no_turn))))

  -- the holder's own facts
  pub holds_turn : (s : St) (b : RingState T) → As s b → (id : ℕ) (v : View T) (h : HeldTurn T) → get_elem? s.views id ≡ some v → v.turn ≡ Some h → (b.turn ≡ won_by id h.state) × (h.behind ≡ b.given) × (h.told ≡ upto b.told (b.given + knows_next h.state))
  holds_turn s b sh id v h at is = subst (HasTurn upto b id) is (sh.shape.each_seat id v at).turn

  pub others_not : (b : RingState T) (id : ℕ) (g : TurnState) → b.turn ≡ won_by id g → (i : ℕ) (p : TurnState) → b.turn ≡ won_by i p → i ≡ id
  others_not b id g is i p e = sym (won_by_same id i g p (sym is ∙ e)).0

  -- a task that is done was not taken, and the turn was not won stopped
  pub open_by : (b : RingState T) (n id : ℕ) (m : Bool) → b.phase b.given ≡ done m → (g : TurnState) → TurnFits b n (won_by id g) → g ≡ Open
  open_by b n id m is Open r = refl
  open_by b n id m is TookPiece r = absurd (done_taken m false (sym is ∙ r.1))
  open_by b n id m is TookMark r = absurd (done_taken m true (sym is ∙ r.1))
  open_by b n id m is WonStopped r = absurd (done_taken m r.1.0 (sym is ∙ r.1.1))
  open_by b n id m is Leaving r = absurd (done_taken m false (sym is ∙ r.1))
