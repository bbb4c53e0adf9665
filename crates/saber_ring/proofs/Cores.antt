-- Each step that is an event takes the core to the next one.
use Rattle.std.proofs.Common.{◌^◌, ◌≡◌, ◌≢◌, ℕ, Bool, true, false, zero, suc, ◌+◌, ◌-◌, ◌*◌, ◌%◌, ◌<◌, ◌≤◌, List, [], ◌∷◌, ◌++◌, length, set, length-set, sym, refl, ap, ◌∙◌, subst, le_refl, arith}
use Rattle.std.proofs.lemmas.Bool.Decides.{nat_tests}
use Rattle.std.specs.Prelude.{drop, ◌==◌, Some, None, is_none, slice_get, nat_lt, ◌&&◌, if◌then◌else◌}
use Rattle.saber_core.specs.declared.events.TaskPhase.TheVariants.{Ready, Held, Done, Taken}
use Rattle.saber_core.specs.declared.events.Event.{Event}
use Rattle.saber_core.specs.Machine as core
use Rattle.saber_core.specs.declared.events.Event.TheVariants as event
use Rattle.saber_core.specs.Machine.{given_of, given_count, phase_at, is_ready, is_held_by, is_done, is_taken_piece, is_marked, is_holder, has_taken, seat_of, is_seated, is_allowed, outcome, next}
use Rattle.saber_ring.specs.declared.view.TurnState.{TurnState}
use Rattle.saber_ring.specs.Shows.{RingPhase, ready, held, done, taken, past, number_of, turn_word, extra, Fits, HasJob, HasTurn, RingTurn, free, won_by, RingState}
use Rattle.saber_ring.specs.Cores.{core_phase, phases_from, is_taking, holder_of, core_of}
use mathlib.Core.Option.{none, some}
use mathlib.Core.Option as maybe
use lib.ListN.{get_elem?}
use Rattle.atomic_table.specs.Table.{State}
use Rattle.atomic_table.proofs.Lists.{set_else}
use Rattle.saber_ring.specs.declared.view.FillState.TheVariants.{Waiting}
use Rattle.saber_ring.specs.declared.view.View.{View}
use Rattle.saber_ring.specs.declared.view.SlotValue.{SlotValue}
use Rattle.saber_ring.specs.declared.view.SlotValue.TheVariants.{Empty}
use Rattle.saber_ring.specs.Shows.{TurnFits, AtHome, ShowsAs}
use Rattle.saber_ring.specs.Plays.{led, more_filled, with_job, with_turn, turn_behind, state_shown, is_stopped, taken_state, with_take}
use Rattle.saber_ring.specs.Laws.{after_take, ClaimIsItsEvent, DepositIsItsEvent, WinIsItsEvent, ReleaseIsItsEvent, TakeIsItsEvent, GiveIsItsEvent, FillIsItsEvent}
use Rattle.saber_ring.proofs.Moves.{Early, claimed_at, deposited_at, stored_facts, filled_at}
use Rattle.saber_ring.proofs.Turns.{won_state, even_free, behind_of, state_is, small_assembled, won_at, open_by}
use Rattle.saber_ring.proofs.Takes.{taken_at}
use Rattle.saber_ring.proofs.Gives.{given_at}
use Rattle.saber_ring.proofs.Releases.{Rises, released_at}
use Rattle.saber_ring.specs.declared.view.TurnState.TheVariants.{Open, TookPiece}
use Rattle.saber_ring.proofs.PhaseFacts.{false_true, number_done}
use Rattle.saber_ring.proofs.Puts.{put, put_here, put_else, at_length}

-- the phases where one task goes on
pub phases_same : (phase phase' : ℕ → RingPhase) (g n : ℕ) → ((u : ℕ) → g ≤ u → u < g + n → phase' u ≡ phase u) → phases_from phase' g n ≡ phases_from phase g n
phases_same phase phase' g zero same = refl
phases_same phase phase' g (suc n) same = λ i. core_phase (same g (omega arith) (omega arith) i) ∷ phases_same phase phase' (g + 1) n (λ u a z. same u (omega arith) (omega arith)) i

phases_put : (phase : ℕ → RingPhase) (t : ℕ) (ph : RingPhase) (g n k : ℕ) → t ≡ g + k → k < n → phases_from (put phase t ph) g n ≡ set (phases_from phase g n) k (core_phase ph)
phases_put phase t ph g zero k is lt = absurd (omega arith)
phases_put phase t ph g (suc n) zero is lt = λ i. core_phase (((ap (put phase t ph) (let e : g ≡ t = omega arith in e)) ∙ put_here phase t ph) i) ∷ phases_same phase (put phase t ph) (g + 1) n (λ u a z. put_else phase t ph u (λ e. omega arith)) i
phases_put phase t ph g (suc n) (suc k) is lt = λ i. core_phase (put_else phase t ph g (λ e. omega arith) i) ∷ phases_put phase t ph (g + 1) n k (omega arith) (omega arith) i

phases_get : (phase : ℕ → RingPhase) (g n k : ℕ) → k < n → slice_get (phases_from phase g n) k ≡ Some (core_phase (phase (g + k)))
phases_get phase g zero k lt = absurd (omega arith)
phases_get phase g (suc n) zero lt = ap (λ (z : ℕ). Some (core_phase (phase z))) (let e : g ≡ g + 0 = omega arith in e)
phases_get phase g (suc n) (suc k) lt = phases_get phase (g + 1) n k (omega arith) ∙ ap (λ (z : ℕ). Some (core_phase (phase z))) (let e : g + 1 + k ≡ g + suc k = omega arith in e)

phases_more : (phase : ℕ → RingPhase) (g n : ℕ) → phases_from phase g (suc n) ≡ phases_from phase g n ++ core_phase (phase (g + n)) ∷ []
phases_more phase g zero = ap (λ (z : ℕ). core_phase (phase z) ∷ []) (let e : g ≡ g + 0 = omega arith in e)
phases_more phase g (suc n) = λ i. core_phase (phase g) ∷ (phases_more phase (g + 1) n ∙ ap (λ (z : ℕ). phases_from phase (g + 1) n ++ core_phase (phase z) ∷ []) (let e : g + 1 + n ≡ g + suc n = omega arith in e)) i

module _ (s : core.State) (e : Event) where
  -- an event that a seat may make and the state allows
  applied : is_seated s.seats (seat_of e) ≡ true → is_allowed s e ≡ true → next s e ≡ outcome s e
  applied seated allowed = ap (λ (c : Bool). if c then outcome s e else s) (λ i. seated i && allowed i)

module _ {T : Type 0} (size n : ℕ) (b : RingState T) where
  -- where the rule ties k to the turn
  abbrev pub Tied : RingTurn → Type 0
  Tied (free x) = b.assembled ≡ b.given
  Tied (won_by j p) = Unit {0}

  pub given_core : Tied b.turn → given_count (core_of size n b) ≡ b.given
  given_core tied = go b.turn tied
    where
      go : (x : RingTurn) → Tied x → given_of b.assembled (holder_of b.given x) ≡ b.given
      go (free x) t = t
      go (won_by j p) t = refl

  phase_core : (t : ℕ) → Tied b.turn → b.given ≤ t → t < b.filled → phase_at (core_of size n b) t ≡ Some (core_phase (b.phase t))
  phase_core t tied lo hi =
      let g = given_core tied in let lt : nat_lt t b.given ≡ false = grind (arith, nat_tests) in
      subst (λ (z : ℕ). (if nat_lt t z then None else slice_get (phases_from b.phase b.given (b.filled - b.given)) (t - z)) ≡ Some (core_phase (b.phase t))) (sym g)
      (subst (λ (c : Bool). (if c then None else slice_get (phases_from b.phase b.given (b.filled - b.given)) (t - b.given)) ≡ Some (core_phase (b.phase t))) (sym lt)
      (phases_get b.phase b.given (b.filled - b.given) (t - b.given) (omega arith) ∙ ap (λ (z : ℕ). Some (core_phase (b.phase z))) (let e : b.given + (t - b.given) ≡ t = omega arith in e)))

  -- the phase of the first task that isn't given
  first_phase : Tied b.turn → b.given < b.filled → phase_at (core_of size n b) (given_count (core_of size n b)) ≡ Some (core_phase (b.phase b.given))
  first_phase tied lt = ap (phase_at (core_of size n b)) (given_core tied) ∙ phase_core b.given tied (le_refl b.given) lt

  seated : (id : ℕ) → id < n → nat_lt id n ≡ true
  seated id lt = grind (arith, nat_tests)

  held_by : (id : ℕ) (p : TurnState) → b.turn ≡ won_by id p → is_holder id (core_of size n b).turn ≡ true
  held_by id p is = let same : id == id ≡ true = grind (arith, nat_tests) in ap (λ (z : RingTurn). is_holder id (holder_of b.given z)) is ∙ same

  -- a claim is the event Claim
  pub core_claim : (id t : ℕ) → id < n → Tied b.turn → b.given ≤ t → t < b.filled → b.phase t ≡ ready → core_of size n (record b { phase = put b.phase t (held id) }) ≡ next (core_of size n b) (event.Claim id t)
  core_claim id t seat tied lo hi is =
      let allowed : is_ready (phase_at (core_of size n b) t) ≡ true = ap is_ready (phase_core t tied lo hi) ∙ ap (λ (z : RingPhase). is_ready (Some (core_phase z))) is in
      let put_is = phases_put b.phase t (held id) b.given (b.filled - b.given) (t - b.given) (omega arith) (omega arith) in
      (λ i. record (core_of size n b) { phases = (put_is ∙ ap (λ (z : ℕ). set (phases_from b.phase b.given (b.filled - b.given)) (t - z) (Held id)) (sym (given_core tied))) i })
      ∙ sym (applied (core_of size n b) (event.Claim id t) (seated id seat) allowed)

  -- a deposit is the event Deposit
  pub core_deposit : (id t : ℕ) (m : Bool) → id < n → Tied b.turn → b.given ≤ t → t < b.filled → b.phase t ≡ held id → core_of size n (record b { phase = put b.phase t (done m) }) ≡ next (core_of size n b) (event.Deposit id t m)
  core_deposit id t m seat tied lo hi is =
      let same : id == id ≡ true = grind (arith, nat_tests) in
      let allowed : is_held_by id (phase_at (core_of size n b) t) ≡ true = ap (is_held_by id) (phase_core t tied lo hi) ∙ ap (λ (z : RingPhase). is_held_by id (Some (core_phase z))) is ∙ same in
      let put_is = phases_put b.phase t (done m) b.given (b.filled - b.given) (t - b.given) (omega arith) (omega arith) in
      (λ i. record (core_of size n b) { phases = (put_is ∙ ap (λ (z : ℕ). set (phases_from b.phase b.given (b.filled - b.given)) (t - z) (Done m)) (sym (given_core tied))) i })
      ∙ sym (applied (core_of size n b) (event.Deposit id t m) (seated id seat) allowed)

  -- a win is the event Win
  pub core_win : (id : ℕ) (y : Bool) → id < n → b.assembled ≡ b.given → b.turn ≡ free y → core_of size n (record b { turn = won_by id (won_state y) }) ≡ next (core_of size n b) (event.Win id)
  core_win id y seat same is =
      (λ i. record (core_of size n b) { turn = Some (record { seat = id; given = sym same i; taken = not_taking y i }) })
      ∙ sym (applied (core_of size n b) (event.Win id) (seated id seat) (ap (λ (z : RingTurn). is_none (holder_of b.given z)) is))
    where
      not_taking : (y : Bool) → is_taking (won_state y) ≡ false
      not_taking false = refl
      not_taking true = refl

  -- a release is the event Release
  pub core_release : (id : ℕ) (g : TurnState) (y : Bool) → id < n → b.turn ≡ won_by id g → core_of size n (record b { assembled = b.given; turn = free y }) ≡ next (core_of size n b) (event.Release id)
  core_release id g y seat is =
      let tied : Tied b.turn = subst Tied (sym is) tt in
      (λ i. record (core_of size n b) { assembled = sym (given_core tied) i; turn = None })
      ∙ sym (applied (core_of size n b) (event.Release id) (seated id seat) (held_by id g is))

  -- a take is the event Take
  pub core_take : (id : ℕ) (m : Bool) → id < n → b.given < b.filled → b.turn ≡ won_by id Open → b.phase b.given ≡ done m → core_of size n (record b { phase = put b.phase b.given (taken m); turn = won_by id (taken_state m) }) ≡ next (core_of size n b) (event.Take id)
  core_take id m seat lt is phase =
      let tied : Tied b.turn = subst Tied (sym is) tt in let first = first_phase tied lt ∙ ap (λ (z : RingPhase). Some (core_phase z)) phase in
      let put_is = phases_put b.phase b.given (taken m) b.given (b.filled - b.given) 0 (omega arith) (omega arith) in
      let found : is_done (phase_at (core_of size n b) (given_count (core_of size n b))) ≡ true = ap is_done first in
      (λ i. record (core_of size n b) {
        turn = Some (record { seat = id; given = sym (given_core tied) i; taken = takes m i });
        phases = (put_is ∙ ap (λ z. set (phases_from b.phase b.given (b.filled - b.given)) 0 (Taken (is_marked z))) (sym first)) i;
      })
      ∙ sym (applied (core_of size n b) (event.Take id) (seated id seat) (λ i. held_by id Open is i && found i))
    where
      takes : (m : Bool) → is_taking (taken_state m) ≡ true
      takes false = refl
      takes true = refl

  -- a give is the event Give
  pub core_give : (id : ℕ) → id < n → b.given < b.filled → b.turn ≡ won_by id TookPiece → b.phase b.given ≡ taken false
      → core_of size n (record { assembled = b.assembled; given = b.given + 1; filled = b.filled; turn = won_by id Open; lead = b.lead; out = b.out; told = b.told; fill = b.fill; phase = put b.phase b.given past; block = b.block }) ≡ next (core_of size n b) (event.Give id)
  core_give id seat lt is phase =
      let tied : Tied b.turn = subst Tied (sym is) tt in let first = first_phase tied lt ∙ ap (λ (z : RingPhase). Some (core_phase z)) phase in
      let took : has_taken (core_of size n b).turn ≡ true = ap (λ (z : RingTurn). has_taken (holder_of b.given z)) is in
      let piece : is_taken_piece (phase_at (core_of size n b) (given_count (core_of size n b))) ≡ true = ap is_taken_piece first in
      let fewer : b.filled - b.given ≡ suc (b.filled - (b.given + 1)) = omega arith in
      let rest_is = phases_same b.phase (put b.phase b.given past) (b.given + 1) (b.filled - (b.given + 1)) (λ u a z. put_else b.phase b.given past u (λ e. omega arith)) ∙ sym (ap (λ (z : ℕ). drop 1 (phases_from b.phase b.given z)) fewer) in
      (λ i. record (core_of size n b) { turn = Some (record { seat = id; given = sym (given_core tied) i + 1; taken = false }); phases = rest_is i })
      ∙ sym (applied (core_of size n b) (event.Give id) (seated id seat) (λ i. held_by id TookPiece is i && took i && piece i))

  -- filled is the event Fill
  pub core_fill : (told' : T) → Tied b.turn → b.given ≤ b.filled → b.filled < b.given + size → b.filled < 2 ^ 42
      → core_of size n (record { assembled = b.assembled; given = b.given; filled = b.filled + 1; turn = b.turn; lead = b.lead; out = b.out; told = told'; fill = Waiting; phase = put b.phase b.filled ready; block = b.block }) ≡ next (core_of size n b) event.Fill
  core_fill told' tied le room end =
      let f : ℕ = b.filled - b.given in
      let near : nat_lt b.filled (given_count (core_of size n b) + size) ≡ true = (let a : nat_lt b.filled (b.given + size) ≡ true = grind (arith, nat_tests) in ap (λ (z : ℕ). nat_lt b.filled (z + size)) (given_core tied) ∙ a) in
      let below : nat_lt b.filled (2 ^ 42) ≡ true = grind (arith, nat_tests) in
      let more : phases_from (put b.phase b.filled ready) b.given (b.filled + 1 - b.given) ≡ phases_from b.phase b.given f ++ Ready ∷ [] =
      ap (phases_from (put b.phase b.filled ready) b.given) (let e : b.filled + 1 - b.given ≡ suc f = omega arith in e) ∙ phases_more (put b.phase b.filled ready) b.given f
      ∙ (λ i. phases_same b.phase (put b.phase b.filled ready) b.given f (λ u a z. put_else b.phase b.filled ready u (λ e. omega arith)) i ++ core_phase ((ap (put b.phase b.filled ready) (let e : b.given + f ≡ b.filled = omega arith in e) ∙ put_here b.phase b.filled ready) i) ∷ []) in
      (λ i. record (core_of size n b) { filled = b.filled + 1; phases = more i }) ∙ sym (applied (core_of size n b) event.Fill refl (λ i. near i && below i))

-- the rule ties k to the turn
tied_by : {T : Type 0} (size n : ℕ) (b : RingState T) (m : ℕ) (x : RingTurn) → TurnFits b m x → Tied size n b x
tied_by size n b m (free y) r = r.0
tied_by size n b m (won_by j p) r = tt

pub claim_law : {T R P S : Type 0} (is_told : T → ℕ → Type 0) (upto : T → ℕ → T) (needs : T → ℕ → ℕ) (is_rows : T → ℕ → R → Type 0) (is_piece : T → ℕ → P → Type 0) (is_stage : T → ℕ → Bool → S → Type 0) → ClaimIsItsEvent {R = R} {P = P} {S = S} is_told upto needs is_rows is_piece is_stage
claim_law is_told upto needs is_rows is_piece is_stage size id t s b v sh at no_job alive word =
    let i : ℕ = t % size + 1 in let c = claimed_at is_told upto needs is_rows is_piece is_stage size s b sh id t i (8 * t + 3) (v, []) at refl refl word no_job alive in
    let n : ℕ = length s.views in (
      record b { phase = put b.phase t (held id) },
      subst (λ (w : ℕ). ShowsAs is_told upto needs is_rows is_piece is_stage size (record { words = set s.words i (8 * t + 3); homes = set s.homes i none; views = set s.views id (with_job v i w (record { task = t; told = upto b.told (t + 1) })) }) (record b { phase = put b.phase t (held id) })) word c.2,
      core_claim size n b id t (at_length s.views id v at) (tied_by size n b n b.turn sh.shape.turn_fits) c.3 c.0 c.4,
    )

module _ {T R P S : Type 0} (is_told : T → ℕ → Type 0) (upto : T → ℕ → T) (needs : T → ℕ → ℕ) (is_rows : T → ℕ → R → Type 0) (is_piece : T → ℕ → P → Type 0) (is_stage : T → ℕ → Bool → S → Type 0) where
  pub deposit_law : DepositIsItsEvent {R = R} {P = P} {S = S} is_told upto needs is_rows is_piece is_stage
  deposit_law size id m y s b v x sh at is_job no_block alive home =
      let k = sh.shape in let n : ℕ = length s.views in let job = subst (HasJob upto b id) is_job (k.each_seat id v at).job in let room = subst (Fits size b n x.task) job.0 (k.each_task x.task) in (
        record b { phase = put b.phase x.task (done m) },
        deposited_at is_told upto needs is_rows is_piece is_stage size s b sh id x.task (x.task % size + 1) (8 * x.task + number_of (done m)) (v, []) x m y at is_job no_block refl refl refl alive home,
        core_deposit size n b id x.task m (at_length s.views id v at) (tied_by size n b n b.turn k.turn_fits) room.0 room.1 job.0,
      )

  pub win_law : WinIsItsEvent {R = R} {P = P} {S = S} is_told upto needs is_rows is_piece is_stage
  win_law size id n s b v sh at alive is even =
      let le = small_assembled is_told upto needs is_rows is_piece is_stage size s b sh in let word : turn_word b.assembled b.turn ≡ n = sym sh.shape.turn_is ∙ is in let f = even_free b.assembled b.turn n word even in let y = f.0 in
      let k : turn_behind n ≡ b.assembled = ap turn_behind (sym word) ∙ behind_of b.assembled b.turn le in let state : state_shown n ≡ won_state y = ap state_shown (sym word ∙ ap (turn_word b.assembled) f.1) ∙ state_is b.assembled y le in
      let c = won_at is_told upto needs is_rows is_piece is_stage size s b sh id (n + 1) (v, []) y at f.1 (ap (λ (z : ℕ). z + 1) (sym is)) alive in let told : T = upto b.told (b.given + extra y) in (
        record b { turn = won_by id (won_state y) },
        told,
        subst (λ (z : ℕ × ℕ × TurnState). ShowsAs is_told upto needs is_rows is_piece is_stage size (record { words = set s.words 0 (n + 1); homes = set s.homes 0 none; views = set s.views id (with_turn v z.0 (record { behind = z.1; state = z.2; told = told })) }) (record b { turn = won_by id (won_state y) }))
            (λ i. (is i, sym k i, sym state i)) c.4,
        core_win size (length s.views) b id y (at_length s.views id v at) c.3 f.1,
      )

  pub release_law : ((size : ℕ) → Rises {R = R} {P = P} {S = S} is_told upto needs is_rows is_piece is_stage size) → ReleaseIsItsEvent {R = R} {P = P} {S = S} is_told upto needs is_rows is_piece is_stage
  release_law rises size id s b v h st sh at is_turn not_whole stage alive =
      let has = subst (HasTurn upto b id) is_turn (sh.shape.each_seat id v at).turn in (
        record b { assembled = b.given; turn = free (is_stopped h.state) },
        released_at is_told upto needs is_rows is_piece is_stage size (rises size) s b sh id (turn_word h.behind (free (is_stopped h.state))) (v, []) h st at is_turn not_whole refl stage alive,
        core_release size (length s.views) b id h.state (is_stopped h.state) (at_length s.views id v at) has.0,
      )

  pub give_law : GiveIsItsEvent {R = R} {P = P} {S = S} is_told upto needs is_rows is_piece is_stage
  give_law size id s b v h sh at is_turn whole alive =
      let k = sh.shape in let n : ℕ = length s.views in let has = subst (HasTurn upto b id) is_turn (k.each_seat id v at).turn in let turn_now = has.0 ∙ ap (won_by id) whole in
      let r = subst (TurnFits b n) turn_now k.turn_fits in let room = subst (Fits size b n b.given) r.1 (k.each_task b.given) in (
        record { assembled = b.assembled; given = b.given + 1; filled = b.filled; turn = won_by id Open; lead = b.lead; out = b.out; told = b.told; fill = b.fill; phase = put b.phase b.given past; block = b.block },
        given_at is_told upto needs is_rows is_piece is_stage size s b sh id (h.behind % size + 1) (8 * (h.behind + size)) (v, []) h at is_turn whole (ap (λ (z : ℕ). z % size + 1) has.1) (ap (λ (z : ℕ). 8 * (z + size)) has.1) alive,
        core_give size n b id (at_length s.views id v at) room.1 turn_now r.1,
      )

  after_take_wide : (m : Bool) (homes : List (maybe.Option (SlotValue R P S))) (i : ℕ) → length (after_take m homes i) ≡ length homes
  after_take_wide false homes i = length-set homes i none
  after_take_wide true homes i = refl

  after_take_else : (m : Bool) (homes : List (maybe.Option (SlotValue R P S))) (i j : ℕ) → j ≢ i → get_elem? (after_take m homes i) j ≡ get_elem? homes j
  after_take_else false homes i j ne = set_else homes i j none ne
  after_take_else true homes i j ne = refl

  -- the mark has an empty slot
  marked_slot : (size : ℕ) (s : State (SlotValue R P S) (View T)) (b : RingState T) → ShowsAs is_told upto needs is_rows is_piece is_stage size s b → (m : Bool) → b.phase b.given ≡ done m → m ≡ true → (i : ℕ) → i ≡ b.given % size + 1 → get_elem? (after_take m s.homes i) i ≡ some (some Empty)
  marked_slot size s b sh false phase q i cell = absurd (false_true q)
  marked_slot size s b sh true phase q i cell =
      let pos = sh.shape.some_cell in
      ap (get_elem? s.homes) cell ∙ subst (AtHome upto is_rows is_piece is_stage b.told (get_elem? s.homes (b.given % size + 1)) b.given) phase (sh.home.each_cell b.given (le_refl b.given) (omega arith))

  pub take_law : TakeIsItsEvent {R = R} {P = P} {S = S} is_told upto needs is_rows is_piece is_stage
  take_law size id m s b v h sh at is_turn alive word =
      let k = sh.shape in let n : ℕ = length s.views in let has = subst (HasTurn upto b id) is_turn (k.each_seat id v at).turn in let same : h.behind ≡ b.given = has.1 in let pos = k.some_cell in
      let i : ℕ = h.behind % size + 1 in let cell : i ≡ b.given % size + 1 = ap (λ (z : ℕ). z % size + 1) same in
      let shown = k.each_word h.behind (omega arith) (omega arith) in let equal : number_of (b.phase h.behind) ≡ number_of (done m) = omega arith in let phase : b.phase b.given ≡ done m = ap b.phase (sym same) ∙ number_done (b.phase h.behind) m equal in
      let opened = open_by is_told upto needs is_rows is_piece is_stage size b n id m phase h.state (subst (TurnFits b n) has.0 k.turn_fits) in let room = subst (Fits size b n b.given) phase (k.each_task b.given) in
      let ring : RingState T = record b { phase = put b.phase b.given (taken m); turn = won_by id (taken_state m) } in (
        ring,
        subst (λ (z : ℕ × ℕ). ShowsAs is_told upto needs is_rows is_piece is_stage size (record { words = set s.words i (8 * h.behind + number_of (taken m)); homes = after_take m s.homes i; views = set s.views id (with_take v i z.0 (record { behind = h.behind; state = taken_state m; told = upto b.told (z.1 + 1) })) }) ring) (λ j. (word j, sym same j))
            (taken_at is_told upto needs is_rows is_piece is_stage size s b sh id i (8 * h.behind + number_of (taken m)) (v, []) h m (after_take m s.homes i) at is_turn opened cell phase (ap (λ (z : ℕ). 8 * z + number_of (taken m)) same) (after_take_wide m s.homes i) (after_take_else m s.homes i) (λ q. marked_slot size s b sh m phase q i cell) alive),
        core_take size n b id m (at_length s.views id v at) room.1 (has.0 ∙ ap (won_by id) opened) phase,
      )

  pub fill_law : ((size : ℕ) → Early {R = R} {P = P} {S = S} is_told upto needs is_rows is_piece is_stage size) → FillIsItsEvent {R = R} {P = P} {S = S} is_told upto needs is_rows is_piece is_stage
  fill_law early size id s b v l told' sh at is_lead stored end alive =
      let k = sh.shape in let n : ℕ = length s.views in let f = stored_facts is_told upto needs is_rows is_piece is_stage size (early size) s b sh id v l told' at is_lead stored in let same : l.filled ≡ b.filled = f.0 in let t : ℕ = l.filled in let i : ℕ = t % size + 1 in
      let c = filled_at is_told upto needs is_rows is_piece is_stage size (early size) s b sh id t i (8 * t + 2) (v, []) l told' at is_lead stored refl refl refl end alive in
      let ring : RingState T = record { assembled = b.assembled; given = b.given; filled = b.filled + 1; turn = b.turn; lead = b.lead; out = b.out; told = told'; fill = Waiting; phase = put b.phase t ready; block = b.block } in (
        c.0,
        (
          ring,
          subst (λ (w : ℕ). ShowsAs is_told upto needs is_rows is_piece is_stage size (record { words = set s.words i (8 * t + 2); homes = s.homes; views = set s.views id (led v i w (more_filled l told')) }) ring) c.0 c.1,
          subst (λ (z : ℕ). core_of size n (record { assembled = b.assembled; given = b.given; filled = b.filled + 1; turn = b.turn; lead = b.lead; out = b.out; told = told'; fill = Waiting; phase = put b.phase z ready; block = b.block }) ≡ next (core_of size n b) event.Fill) (sym same)
              (core_fill size n b told' (tied_by size n b n b.turn k.turn_fits) k.given_filled f.3 (omega arith)),
        ),
      )
