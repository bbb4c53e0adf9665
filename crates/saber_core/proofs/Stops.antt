-- What a stopped stage leaves.
use Rattle.std.proofs.Common.{◌≡◌, ℕ, Bool, true, false, ◌+◌, ◌⊎◌, inl, inr, ⊎_elim, ◌≢◌, List, [], ◌∷◌, sym, refl, ap, ◌∙◌, arith}
use Rattle.std.specs.Prelude.{◌&&◌, if◌then◌else◌}
use Rattle.saber_core.specs.declared.events.Event.{Event}
use Rattle.saber_core.specs.declared.events.Event.TheVariants.{Fill, Claim, Deposit, Win, Take, Give, Release}
use Rattle.saber_core.specs.Machine.{State, fresh, given_count, phase_at, is_taken, is_done, is_holder, has_taken, is_taken_piece, is_allowed, applies, outcome, next}
use Rattle.saber_core.specs.Sound.{IsSound}
use Rattle.saber_core.specs.Runs.{task_of, is_take, is_give, tasks_of, state_after, StaysStopped, StopsForGood}
use Rattle.saber_core.proofs.Phases.{both, ready_is, held_is, done_is, unfilled, phase_of, given_more, given_after, given_less, allowed_of, moved}
use Rattle.saber_core.proofs.Sounds.{moved_cases, next_cases, sound_next, sound_fresh, sound_after}

-- the first task that isn't given is taken, and no holder of the turn has it
record IsStopped (s : State) : Type 0 where
  sound : IsSound s
  first_taken : is_taken (phase_at s (given_count s)) ≡ true
  none_held : has_taken s.turn ≡ false

-- an event leaves the stop as it is
record LeavesStop (s : State) (e : Event) (s' : State) : Type 0 where
  given_same : given_count s' ≡ given_count s
  phase_same : phase_at s' (given_count s) ≡ phase_at s (given_count s)
  none_held : has_taken s'.turn ≡ false

-- an event of another task, or of the turn alone, leaves the phase of the first that isn't given
leaves_first : (s : State) (e : Event) → is_allowed s e ≡ true → IsSound s → phase_of s e ≡ phase_at s (task_of s e) ⊎ (is_taken (phase_at s (task_of s e)) ≡ false) → is_taken (phase_at s (given_count s)) ≡ true → phase_at (outcome s e) (given_count s) ≡ phase_at s (given_count s)
leaves_first s e h sound why first = ⊎_elim
    (λ (x : (given_count s ≡ task_of s e) × (phase_at (outcome s e) (given_count s) ≡ phase_of s e)). ⊎_elim
    (λ (same : phase_of s e ≡ phase_at s (task_of s e)). x.1 ∙ same ∙ ap (phase_at s) (sym x.0))
    (λ (no : is_taken (phase_at s (task_of s e)) ≡ false). absurd (let c = ap (λ (t : ℕ). is_taken (phase_at s t)) x.0 in cc))
    why)
    (λ (x : (given_count s ≢ task_of s e) × (phase_at (outcome s e) (given_count s) ≡ phase_at s (given_count s))). x.1)
    (moved_cases (given_count s) (task_of s e) (phase_at s (given_count s)) (phase_at (outcome s e) (given_count s)) (phase_of s e) (moved s e h sound.phases_count (given_count s)))

-- then no take and no give applies
stop_kinds : (s : State) (e : Event) → is_allowed s e ≡ true → IsStopped s → (is_take e ≡ false) × (is_give e ≡ false)
stop_kinds s (Take seat) h stop = absurd (let done = ap is_taken (done_is (phase_at s (given_count s)) (both (is_holder seat s.turn) (is_done (phase_at s (given_count s))) h).1) in let taken = stop.first_taken in cc)
stop_kinds s (Give seat) h stop = absurd (let has = both (is_holder seat s.turn) (has_taken s.turn) (both (is_holder seat s.turn && has_taken s.turn) (is_taken_piece (phase_at s (given_count s))) h).0 in let none = stop.none_held in cc)
stop_kinds s _ h stop = (refl, refl)

-- each event that is left leaves its task's phase, or is about a task that isn't taken
stop_phase : (s : State) (e : Event) → is_allowed s e ≡ true → IsStopped s → (phase_of s e ≡ phase_at s (task_of s e)) ⊎ (is_taken (phase_at s (task_of s e)) ≡ false)
stop_phase s Fill h stop = inr (ap is_taken (unfilled s stop.sound.phases_count))
stop_phase s (Claim seat task) h stop = inr (ap is_taken (ready_is (phase_at s task) h))
stop_phase s (Deposit seat task mark) h stop = inr (ap is_taken (held_is seat (phase_at s task) h))
stop_phase s (Win seat) h stop = inl refl
stop_phase s (Take seat) h stop = absurd (let kinds = stop_kinds s (Take seat) h stop in cc)
stop_phase s (Give seat) h stop = absurd (let kinds = stop_kinds s (Give seat) h stop in cc)
stop_phase s (Release seat) h stop = inl refl

-- and no holder of the turn has taken anything after it
stop_turn : (s : State) (e : Event) → is_allowed s e ≡ true → IsStopped s → has_taken (outcome s e).turn ≡ false
stop_turn s Fill h stop = stop.none_held
stop_turn s (Claim seat task) h stop = stop.none_held
stop_turn s (Deposit seat task mark) h stop = stop.none_held
stop_turn s (Win seat) h stop = refl
stop_turn s (Take seat) h stop = absurd (let kinds = stop_kinds s (Take seat) h stop in cc)
stop_turn s (Give seat) h stop = absurd (let kinds = stop_kinds s (Give seat) h stop in cc)
stop_turn s (Release seat) h stop = refl

-- so each event leaves the stop
stop_left : (s : State) (e : Event) → IsStopped s → LeavesStop s e (next s e)
stop_left s e stop = next_cases (LeavesStop s e) s e
    (λ is. let h = allowed_of s e is in record {
      given_same = given_after s e h ∙ (let more = given_less e (stop_kinds s e h stop).1 in let same : given_count s + given_more e ≡ given_count s = omega arith in same);
      phase_same = leaves_first s e h stop.sound (stop_phase s e h stop) stop.first_taken;
      none_held = stop_turn s e h stop;
    })
    (record { given_same = refl; phase_same = refl; none_held = stop.none_held })

-- and the stage stays stopped
stop_next : (s : State) (e : Event) → IsStopped s → IsStopped (next s e)
stop_next s e stop = let left = stop_left s e stop in
    record {
      sound = sound_next s e stop.sound;
      first_taken = ap (λ (t : ℕ). is_taken (phase_at (next s e) t)) left.given_same ∙ ap is_taken left.phase_same ∙ stop.first_taken;
      none_held = left.none_held;
    }

-- events of a kind that no longer applies have no task
none_of : (is_kind : Event → Bool) → ((s : State) (e : Event) → is_allowed s e ≡ true → IsStopped s → is_kind e ≡ false) → (events : List Event) (s : State) → IsStopped s → tasks_of is_kind s events ≡ []
none_of is_kind never [] s stop = refl
none_of is_kind never (e ∷ events) s stop = ap (λ (b : Bool). if b then task_of s e ∷ tasks_of is_kind (next s e) events else tasks_of is_kind (next s e) events) (unmet (applies s e) refl) ∙ none_of is_kind never events (next s e) (stop_next s e stop)
  where
    by_none : (b c : Bool) → b ≡ false → b && c ≡ false
    by_none true c h = absurd (cc)
    by_none false c h = refl

    by_not : (b : Bool) → b && false ≡ false
    by_not true = refl
    by_not false = refl

    unmet : (b : Bool) → applies s e ≡ b → is_kind e && b ≡ false
    unmet true is = by_none (is_kind e) true (never s e (allowed_of s e is) stop)
    unmet false is = by_not (is_kind e)

-- the first task that isn't given keeps its phase
first_stays : (events : List Event) (s : State) → IsStopped s → phase_at (state_after s events) (given_count s) ≡ phase_at s (given_count s)
first_stays [] s stop = refl
first_stays (e ∷ events) s stop = let left = stop_left s e stop in
    ap (phase_at (state_after (next s e) events)) (sym left.given_same) ∙ first_stays events (next s e) (stop_next s e stop) ∙ ap (phase_at (next s e)) left.given_same ∙ left.phase_same

-- a stopped stage stays so over all events
stays : (events : List Event) (s : State) → IsStopped s → StaysStopped s events
stays events s stop =
    record {
      is_taken = stop.first_taken;
      stays_taken = first_stays events s stop;
      no_take = none_of is_take (λ s e h stop. (stop_kinds s e h stop).0) events s stop;
      no_give = none_of is_give (λ s e h stop. (stop_kinds s e h stop).1) events s stop;
    }

-- a release after a take that wasn't given stops the stage
release_stops : (s : State) (seat : ℕ) (later : List Event) → IsSound s → StopsForGood s seat later
release_stops s seat later sound is has =
    let same : next s (Release seat) ≡ outcome s (Release seat) = ap (λ (b : Bool). if b then outcome s (Release seat) else s) is in
    stays later (next s (Release seat)) (record {
      sound = sound_next s (Release seat) sound;
      first_taken = ap (λ (z : State). is_taken (phase_at z (given_count z))) same ∙ sound.holder_taken has;
      none_held = ap (λ (z : State). has_taken z.turn) same;
    })

-- the same after any events from a new core
pub stops_for_good : (size seats seat : ℕ) (before later : List Event) → StopsForGood (state_after (fresh size seats) before) seat later
stops_for_good size seats seat before later = release_stops (state_after (fresh size seats) before) seat later (sound_after (fresh size seats) before (sound_fresh size seats))
