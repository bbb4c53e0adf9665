-- Each event keeps the invariant.
use Rattle.std.proofs.Common.{◌≡◌, ℕ, Bool, true, false, ◌+◌, ◌-◌, ◌^◌, ◌<◌, ◌⊎◌, inl, inr, ⊎_elim, ◌≢◌, List, [], ◌∷◌, length, sym, refl, ap, ◌∙◌, arith, length-append, length-set, length-drop}
use Rattle.std.proofs.lemmas.Bool.Decides.{nat_tests}
use Rattle.std.specs.Prelude.{Option, Some, None, ◌==◌, ◌&&◌, nat_lt, if◌then◌else◌}
use Rattle.saber_core.specs.declared.events.TaskPhase.{TaskPhase}
use Rattle.saber_core.specs.declared.events.TaskPhase.TheVariants.{Ready, Held, Done, Taken}
use Rattle.saber_core.specs.declared.events.Event.{Event}
use Rattle.saber_core.specs.declared.events.Event.TheVariants.{Fill, Claim, Deposit, Win, Take, Give, Release}
use Rattle.saber_core.specs.Machine.{State, fresh, given_count, phase_at, is_taken, is_holder, has_taken, is_taken_piece, is_marked, is_seated, seat_of, is_allowed, applies, outcome, next}
use Rattle.saber_core.specs.Sound.{IsSound}
use Rattle.saber_core.specs.Runs.{task_of, state_after}
use Rattle.saber_core.proofs.Phases.{both, ready_is, held_is, taken_piece_is, taken_is, within, unfilled, phase_of, given_after, moved}

-- what the phase of a task says, where one task moved: it is the new one there, and else the old one
pub moved_cases : {A : Type 0} (task k : ℕ) (old new p : A) → new ≡ (if task == k then p else old) → ((task ≡ k) × (new ≡ p)) ⊎ ((task ≢ k) × (new ≡ old))
moved_cases task k old new p h = go (task == k) refl h
  where
    go : (b : Bool) → (task == k) ≡ b → new ≡ (if b then p else old) → ((task ≡ k) × (new ≡ p)) ⊎ ((task ≢ k) × (new ≡ old))
    go true is h = inl ((let e : task ≡ k = grind (arith, nat_tests) in e), h)
    go false is h = inr ((let e : task ≢ k = grind (arith, nat_tests) in e), h)

module _ (s : State) (e : Event) (allowed : is_allowed s e ≡ true) (sound : IsSound s) where
  -- the new holders of tasks exist
  holders : ((seat : ℕ) → phase_of s e ≡ Some (Held seat) → seat < s.seats) → (task seat : ℕ) → phase_at (outcome s e) task ≡ Some (Held seat) → seat < s.seats
  holders own task seat h = ⊎_elim
      (λ (x : (task ≡ task_of s e) × (phase_at (outcome s e) task ≡ phase_of s e)). own seat (sym x.1 ∙ h))
      (λ (x : (task ≢ task_of s e) × (phase_at (outcome s e) task ≡ phase_at s task)). sound.task_holder task seat (sym x.1 ∙ h))
      (moved_cases task (task_of s e) (phase_at s task) (phase_at (outcome s e) task) (phase_of s e) (moved s e allowed sound.phases_count task))

  -- a task that is taken then is the event's own, or was taken before
  taken_task : (task : ℕ) (mark : Bool) → phase_at (outcome s e) task ≡ Some (Taken mark) → ((task ≡ task_of s e) × (phase_of s e ≡ Some (Taken mark))) ⊎ ((task ≢ task_of s e) × (task ≡ given_count s))
  taken_task task mark h = ⊎_elim
      (λ (x : (task ≡ task_of s e) × (phase_at (outcome s e) task ≡ phase_of s e)). inl (x.0, sym x.1 ∙ h))
      (λ (x : (task ≢ task_of s e) × (phase_at (outcome s e) task ≡ phase_at s task)). inr (x.0, sound.first_taken task mark (sym x.1 ∙ h)))
      (moved_cases task (task_of s e) (phase_at s task) (phase_at (outcome s e) task) (phase_of s e) (moved s e allowed sound.phases_count task))

  -- a taken task stays so, where the event is about another
  stays_taken : is_taken (phase_at s (task_of s e)) ≡ false → is_taken (phase_at s (given_count s)) ≡ true → is_taken (phase_at (outcome s e) (given_count s)) ≡ true
  stays_taken other h = ⊎_elim
      (λ (x : (given_count s ≡ task_of s e) × (phase_at (outcome s e) (given_count s) ≡ phase_of s e)). absurd (let c = ap (λ (t : ℕ). is_taken (phase_at s t)) x.0 in cc))
      (λ (x : (given_count s ≢ task_of s e) × (phase_at (outcome s e) (given_count s) ≡ phase_at s (given_count s))). ap is_taken x.1 ∙ h)
      (moved_cases (given_count s) (task_of s e) (phase_at s (given_count s)) (phase_at (outcome s e) (given_count s)) (phase_of s e) (moved s e allowed sound.phases_count (given_count s)))

  -- and it was so before, where the event takes none
  was_taken : is_taken (phase_of s e) ≡ false → is_taken (phase_at (outcome s e) (given_count s)) ≡ true → is_taken (phase_at s (given_count s)) ≡ true
  was_taken none_taken h = ⊎_elim
      (λ (x : (given_count s ≡ task_of s e) × (phase_at (outcome s e) (given_count s) ≡ phase_of s e)). absurd (let c = ap is_taken x.1 in cc))
      (λ (x : (given_count s ≢ task_of s e) × (phase_at (outcome s e) (given_count s) ≡ phase_at s (given_count s))). ap is_taken (sym x.1) ∙ h)
      (moved_cases (given_count s) (task_of s e) (phase_at s (given_count s)) (phase_at (outcome s e) (given_count s)) (phase_of s e) (moved s e allowed sound.phases_count (given_count s)))

  -- no later task is taken
  later_taken : (task : ℕ) → task ≢ task_of s e → task ≢ given_count s → is_taken (phase_at (outcome s e) task) ≡ true → ⊥
  later_taken task other far h = let t = taken_is (phase_at (outcome s e) task) h in ⊎_elim
      (λ (x : (task ≡ task_of s e) × (phase_of s e ≡ Some (Taken t.0))). other x.0)
      (λ (x : (task ≢ task_of s e) × (task ≡ given_count s)). far x.1)
      (taken_task task t.0 t.1)

  -- where the event takes no other task, only the first that isn't given is taken after it
  first_taken_still : (is_taken (phase_of s e) ≡ true → task_of s e ≡ given_count s) → (task : ℕ) (mark : Bool) → phase_at (outcome s e) task ≡ Some (Taken mark) → task ≡ given_count s
  first_taken_still own task mark h = ⊎_elim
      (λ (x : (task ≡ task_of s e) × (phase_of s e ≡ Some (Taken mark))). x.0 ∙ own (ap is_taken x.1))
      (λ (x : (task ≢ task_of s e) × (task ≡ given_count s)). x.1)
      (taken_task task mark h)

-- an event that applies keeps the invariant
pub kept : (s : State) (e : Event) → is_seated s.seats (seat_of e) ≡ true → is_allowed s e ≡ true → IsSound s → IsSound (outcome s e)
kept s Fill seated h sound =
    let a = both (nat_lt s.filled (given_count s + s.size)) (nat_lt s.filled (2 ^ 42)) h in
    let room : s.filled < given_count s + s.size = (let t = a.0 in grind (arith, nat_tests)) in let few : s.filled < 2 ^ 42 = (let t = a.1 in grind (arith, nat_tests)) in
    record {
      assembled_given = sound.assembled_given;
      given_filled = omega arith;
      filled_fits = omega arith;
      filled_limit = omega arith;
      phases_count = (let n = length-append s.phases (Ready ∷ []) in let c = sound.phases_count in omega arith);
      task_holder = holders s Fill h sound (λ seat e. absurd (cc));
      turn_holder = sound.turn_holder;
      first_taken = first_taken_still s Fill h sound (λ e. absurd (cc));
      holder_taken = λ e. stays_taken s Fill h sound (ap is_taken (unfilled s sound.phases_count)) (sound.holder_taken e);
      stopped_gives_none = λ e t. sound.stopped_gives_none e (was_taken s Fill h sound refl t);
    }
kept s (Claim seat task) seated h sound =
    record {
      assembled_given = sound.assembled_given;
      given_filled = sound.given_filled;
      filled_fits = sound.filled_fits;
      filled_limit = sound.filled_limit;
      phases_count = (let n = length-set s.phases (task - given_count s) (Held seat) in let c = sound.phases_count in omega arith);
      task_holder = holders s (Claim seat task) h sound (λ other e. (let same : seat ≡ other = cc in grind (arith, nat_tests)));
      turn_holder = sound.turn_holder;
      first_taken = first_taken_still s (Claim seat task) h sound (λ e. absurd (cc));
      holder_taken = λ e. stays_taken s (Claim seat task) h sound (ap is_taken (ready_is (phase_at s task) h)) (sound.holder_taken e);
      stopped_gives_none = λ e t. sound.stopped_gives_none e (was_taken s (Claim seat task) h sound refl t);
    }
kept s (Deposit seat task mark) seated h sound =
    record {
      assembled_given = sound.assembled_given;
      given_filled = sound.given_filled;
      filled_fits = sound.filled_fits;
      filled_limit = sound.filled_limit;
      phases_count = (let n = length-set s.phases (task - given_count s) (Done mark) in let c = sound.phases_count in omega arith);
      task_holder = holders s (Deposit seat task mark) h sound (λ other e. absurd (cc));
      turn_holder = sound.turn_holder;
      first_taken = first_taken_still s (Deposit seat task mark) h sound (λ e. absurd (cc));
      holder_taken = λ e. stays_taken s (Deposit seat task mark) h sound (ap is_taken (held_is seat (phase_at s task) h)) (sound.holder_taken e);
      stopped_gives_none = λ e t. sound.stopped_gives_none e (was_taken s (Deposit seat task mark) h sound refl t);
    }
kept s (Win seat) seated h sound =
    let same : s.assembled ≡ given_count s + 0 = given_after s (Win seat) h in
    record {
      assembled_given = omega arith;
      given_filled = (let a = sound.given_filled in omega arith);
      filled_fits = (let a = sound.filled_fits in omega arith);
      filled_limit = sound.filled_limit;
      phases_count = (let c = sound.phases_count in omega arith);
      task_holder = holders s (Win seat) h sound (λ other e. sound.task_holder (given_count s) other e);
      turn_holder = λ other e. grind (arith, nat_tests);
      first_taken = λ task mark e. first_taken_still s (Win seat) h sound (λ _. refl) task mark e ∙ (let x : given_count s ≡ s.assembled = omega arith in x);
      holder_taken = λ e. absurd (cc);
      stopped_gives_none = λ e t. refl;
    }
kept s (Take seat) seated h sound =
    record {
      assembled_given = sound.assembled_given;
      given_filled = sound.given_filled;
      filled_fits = sound.filled_fits;
      filled_limit = sound.filled_limit;
      phases_count = (let n = length-set s.phases 0 (Taken (is_marked (phase_at s (given_count s)))) in let c = sound.phases_count in omega arith);
      task_holder = holders s (Take seat) h sound (λ other e. absurd (cc));
      turn_holder = λ other e. grind (arith, nat_tests);
      first_taken = first_taken_still s (Take seat) h sound (λ _. refl);
      holder_taken = λ e. ap is_taken (moved s (Take seat) h sound.phases_count (given_count s)) ∙ ap (λ (b : Bool). is_taken (if b then Some (Taken (is_marked (phase_at s (given_count s)))) else phase_at s (given_count s))) (let x : (given_count s == given_count s) ≡ true = grind (arith, nat_tests) in x);
      stopped_gives_none = λ e t. absurd (cc);
    }
kept s (Give seat) seated h sound =
    let has = taken_piece_is (phase_at s (given_count s)) (both (is_holder seat s.turn && has_taken s.turn) (is_taken_piece (phase_at s (given_count s))) h).1 in
    let w = within s (given_count s) (Taken false) has in let lt = w.1 in let c = sound.phases_count in let some : 0 < length s.phases = omega arith in
    record {
      assembled_given = (let a = sound.assembled_given in omega arith);
      given_filled = omega arith;
      filled_fits = (let a = sound.filled_fits in omega arith);
      filled_limit = sound.filled_limit;
      phases_count = (let n = length-drop 1 s.phases in omega arith);
      task_holder = holders s (Give seat) h sound (λ other e. absurd (cc));
      turn_holder = λ other e. grind (arith, nat_tests);
      first_taken = λ task mark e. ⊎_elim
          (λ (x : (task ≡ given_count s) × (None ≡ Some (Taken mark))). absurd (let never = x.1 in cc))
          (λ (x : (task ≢ given_count s) × (task ≡ given_count s)). absurd (x.0 x.1))
          (taken_task s (Give seat) h sound task mark e);
      holder_taken = λ e. absurd (cc);
      stopped_gives_none = λ e t. absurd (later_taken s (Give seat) h sound (given_count s + 1) (λ x. omega arith) (λ x. omega arith) t);
    }
kept s (Release seat) seated h sound =
    record {
      assembled_given = omega arith;
      given_filled = sound.given_filled;
      filled_fits = sound.filled_fits;
      filled_limit = sound.filled_limit;
      phases_count = sound.phases_count;
      task_holder = holders s (Release seat) h sound (λ other e. sound.task_holder (given_count s) other e);
      turn_holder = λ other e. absurd (cc);
      first_taken = first_taken_still s (Release seat) h sound (λ _. refl);
      holder_taken = λ e. absurd (cc);
      stopped_gives_none = λ e t. refl;
    }

-- what holds of a state and of what each event that applies makes of it holds of the next
pub next_cases : (P : State → Type 0) (s : State) (e : Event) → (applies s e ≡ true → P (outcome s e)) → P s → P (next s e)
next_cases P s e applied same = go (applies s e) refl
  where
    go : (b : Bool) → applies s e ≡ b → P (if b then outcome s e else s)
    go true is = applied is
    go false is = same

-- each event keeps the invariant
pub sound_next : (s : State) (e : Event) → IsSound s → IsSound (next s e)
sound_next s e sound = next_cases IsSound s e (λ is. let a = both (is_seated s.seats (seat_of e)) (is_allowed s e) is in kept s e a.0 a.1 sound) sound

-- a core with no task has no phase
no_phase : (size seats task : ℕ) → phase_at (fresh size seats) task ≡ None
no_phase size seats task = go (nat_lt task 0)
  where
    none : Option TaskPhase
    none = None

    go : (b : Bool) → (if b then none else none) ≡ none
    go true = refl
    go false = refl

-- a new core is sound
pub sound_fresh : (size seats : ℕ) → IsSound (fresh size seats)
sound_fresh size seats =
    record {
      assembled_given = omega arith;
      given_filled = omega arith;
      filled_fits = omega arith;
      filled_limit = omega arith;
      phases_count = refl;
      task_holder = λ task seat e. absurd (let n = no_phase size seats task in cc);
      turn_holder = λ seat e. absurd (cc);
      first_taken = λ task mark e. absurd (let n = no_phase size seats task in cc);
      holder_taken = λ e. absurd (cc);
      stopped_gives_none = λ e t. refl;
    }

-- all events together keep the invariant
pub sound_after : (s : State) (events : List Event) → IsSound s → IsSound (state_after s events)
sound_after s [] sound = sound
sound_after s (e ∷ events) sound = sound_after (next s e) events (sound_next s e sound)
