-- No task twice, and the given ones in order.
use Rattle.std.proofs.Common.{◌≡◌, ℕ, Bool, true, false, zero, suc, ◌+◌, ◌<◌, ◌≤◌, ⊎_elim, ◌≢◌, List, [], ◌∷◌, ◌++◌, sym, refl, ap, ◌∙◌, arith, append_assoc, append-nil}
use Rattle.std.proofs.lemmas.Bool.Decides.{nat_tests}
use Rattle.std.proofs.lemmas.Map.Keys.{IsDistinct-cons}
use Rattle.std.specs.Prelude.{Option, Some, None, ◌==◌, ◌&&◌, nat_eq, nat_lt, if◌then◌else◌}
use Rattle.std.specs.List.{IsDistinct, AllByRecursion, range_with_len}
use Rattle.saber_core.specs.declared.events.TaskPhase.{TaskPhase}
use Rattle.saber_core.specs.declared.events.TaskPhase.TheVariants.{Ready, Held, Done, Taken}
use Rattle.saber_core.specs.declared.events.Event.{Event}
use Rattle.saber_core.specs.declared.events.Event.TheVariants.{Fill, Claim, Deposit, Win, Take, Give, Release}
use Rattle.saber_core.specs.Machine.{State, fresh, given_count, phase_at, is_done, is_holder, has_taken, is_taken_piece, is_marked, is_allowed, applies, outcome, next}
use Rattle.saber_core.specs.Sound.{IsSound}
use Rattle.saber_core.specs.Runs.{task_of, is_claim, is_deposit, is_take, is_give, tasks_of, gives, state_after, IsOrderly}
use Rattle.saber_core.proofs.Phases.{both, ready_is, held_is, done_is, taken_piece_is, within, unfilled, phase_of, given_more, given_after, given_less, allowed_of, moved}
use Rattle.saber_core.proofs.Sounds.{moved_cases, next_cases, sound_next, sound_fresh}

-- how far a phase is
abbrev level : Option TaskPhase → ℕ
level None = 0
level (Some Ready) = 1
level (Some (Held seat)) = 2
level (Some (Done mark)) = 3
level (Some (Taken mark)) = 4

-- how far a task has come: 0 before its fill, then by its phase, and 5 once it is given
abbrev progress : State → ℕ → ℕ
progress s task = if nat_lt task (given_count s) then 5 else level (phase_at s task)

-- how far its task has come where an event applies that moves one
abbrev rank_of : Event → Option ℕ
rank_of Fill = Some 0
rank_of (Claim seat task) = Some 1
rank_of (Deposit seat task mark) = Some 2
rank_of (Win seat) = None
rank_of (Take seat) = Some 3
rank_of (Give seat) = Some 4
rank_of (Release seat) = None

-- the progress of a task that isn't given is by its phase
progress_in : (s : State) (task : ℕ) (p : Option TaskPhase) → given_count s ≤ task → phase_at s task ≡ p → progress s task ≡ level p
progress_in s task p le is = let past : nat_lt task (given_count s) ≡ false = grind (arith, nat_tests) in ap (λ (b : Bool). if b then 5 else level (phase_at s task)) past ∙ ap level is

-- that of a given task is the last
progress_given : (s : State) (task : ℕ) → task < given_count s → progress s task ≡ 5
progress_given s task lt = let past : nat_lt task (given_count s) ≡ true = grind (arith, nat_tests) in ap (λ (b : Bool). if b then 5 else level (phase_at s task)) past

module _ (s : State) (e : Event) (allowed : is_allowed s e ≡ true) (sound : IsSound s) where
  -- the event's task is in its new phase
  here : phase_at (outcome s e) (task_of s e) ≡ phase_of s e
  here = ⊎_elim
      (λ (x : (task_of s e ≡ task_of s e) × (phase_at (outcome s e) (task_of s e) ≡ phase_of s e)). x.1)
      (λ (x : (task_of s e ≢ task_of s e) × (phase_at (outcome s e) (task_of s e) ≡ phase_at s (task_of s e))). absurd (x.0 refl))
      (moved_cases (task_of s e) (task_of s e) (phase_at s (task_of s e)) (phase_at (outcome s e) (task_of s e)) (phase_of s e) (moved s e allowed sound.phases_count (task_of s e)))

  -- an event that gives none leaves the progress of its task at the old and the new phase
  stands : (old : Option TaskPhase) → given_more e ≡ 0 → given_count s ≤ task_of s e → phase_at s (task_of s e) ≡ old → (progress s (task_of s e) ≡ level old) × (progress (outcome s e) (task_of s e) ≡ level (phase_of s e))
  stands old none_given le is = (progress_in s (task_of s e) old le is, progress_in (outcome s e) (task_of s e) (phase_of s e) (let g = given_after s e allowed in omega arith) here)

-- an event that moves its task raises its progress by one
rises : (s : State) (e : Event) (rank : ℕ) → rank_of e ≡ Some rank → is_allowed s e ≡ true → IsSound s → (progress s (task_of s e) ≡ rank) × (progress (outcome s e) (task_of s e) ≡ suc rank)
rises s Fill rank is h sound =
    let a = stands s Fill h sound None refl sound.given_filled (unfilled s sound.phases_count) in let r : 0 ≡ rank = cc in (a.0 ∙ r, a.1 ∙ ap suc r)
rises s (Claim seat task) rank is h sound =
    let ready = ready_is (phase_at s task) h in
    let a = stands s (Claim seat task) h sound (Some Ready) refl (within s task Ready ready).0 ready in let r : 1 ≡ rank = cc in (a.0 ∙ r, a.1 ∙ ap suc r)
rises s (Deposit seat task mark) rank is h sound =
    let held = held_is seat (phase_at s task) h in
    let a = stands s (Deposit seat task mark) h sound (Some (Held seat)) refl (within s task (Held seat) held).0 held in let r : 2 ≡ rank = cc in (a.0 ∙ r, a.1 ∙ ap suc r)
rises s (Win seat) rank is h sound = absurd (cc)
rises s (Take seat) rank is h sound =
    let done = done_is (phase_at s (given_count s)) (both (is_holder seat s.turn) (is_done (phase_at s (given_count s))) h).1 in
    let a = stands s (Take seat) h sound (Some (Done (is_marked (phase_at s (given_count s))))) refl (omega arith) done in let r : 3 ≡ rank = cc in (a.0 ∙ r, a.1 ∙ ap suc r)
rises s (Give seat) rank is h sound =
    let taken = taken_piece_is (phase_at s (given_count s)) (both (is_holder seat s.turn && has_taken s.turn) (is_taken_piece (phase_at s (given_count s))) h).1 in
    let r : 4 ≡ rank = cc in (
      progress_in s (given_count s) (Some (Taken false)) (omega arith) taken ∙ r,
      progress_given (outcome s (Give seat)) (given_count s) (omega arith) ∙ ap suc r,
    )
rises s (Release seat) rank is h sound = absurd (cc)

-- an event of one task leaves which others are given
given_test : (s : State) (e : Event) (task : ℕ) → is_allowed s e ≡ true → task ≢ task_of s e → nat_lt task (given_count (outcome s e)) ≡ nat_lt task (given_count s)
given_test s Fill task h other = refl
given_test s (Claim seat k) task h other = refl
given_test s (Deposit seat k mark) task h other = refl
given_test s (Win seat) task h other = ap (nat_lt task) (let g = given_after s (Win seat) h in let same : given_count (outcome s (Win seat)) ≡ given_count s = omega arith in same)
given_test s (Take seat) task h other = refl
given_test s (Give seat) task h other = grind (arith, nat_tests)
given_test s (Release seat) task h other = refl

-- and their progress
progress_other : (s : State) (e : Event) (task : ℕ) → is_allowed s e ≡ true → IsSound s → task ≢ task_of s e → progress (outcome s e) task ≡ progress s task
progress_other s e task h sound other = ⊎_elim
    (λ (x : (task ≡ task_of s e) × (phase_at (outcome s e) task ≡ phase_of s e)). absurd (other x.0))
    (λ (x : (task ≢ task_of s e) × (phase_at (outcome s e) task ≡ phase_at s task)). λ i. if given_test s e task h other i then 5 else level (x.1 i))
    (moved_cases task (task_of s e) (phase_at s task) (phase_at (outcome s e) task) (phase_of s e) (moved s e h sound.phases_count task))

-- no event takes its own task back
own_forward : (s : State) (e : Event) → is_allowed s e ≡ true → IsSound s → progress s (task_of s e) ≤ progress (outcome s e) (task_of s e)
own_forward s Fill h sound = let r = rises s Fill 0 refl h sound in omega arith
own_forward s (Claim seat task) h sound = let r = rises s (Claim seat task) 1 refl h sound in omega arith
own_forward s (Deposit seat task mark) h sound = let r = rises s (Deposit seat task mark) 2 refl h sound in omega arith
own_forward s (Win seat) h sound = let r = stands s (Win seat) h sound (phase_at s (given_count s)) refl (omega arith) refl in omega arith
own_forward s (Take seat) h sound = let r = rises s (Take seat) 3 refl h sound in omega arith
own_forward s (Give seat) h sound = let r = rises s (Give seat) 4 refl h sound in omega arith
own_forward s (Release seat) h sound = let r = stands s (Release seat) h sound (phase_at s (given_count s)) refl (omega arith) refl in omega arith

-- no event takes any task back
forward : (s : State) (e : Event) (task : ℕ) → IsSound s → progress s task ≤ progress (next s e) task
forward s e task sound = next_cases (λ z. progress s task ≤ progress z task) s e (λ is. go (task == task_of s e) refl (allowed_of s e is)) (omega arith)
  where
    go : (b : Bool) → (task == task_of s e) ≡ b → is_allowed s e ≡ true → progress s task ≤ progress (outcome s e) task
    go true own h = let same : task ≡ task_of s e = grind (arith, nat_tests) in let r = own_forward s e h sound in let a = ap (progress s) same in let b = ap (progress (outcome s e)) same in omega arith
    go false own h = let other : task ≢ task_of s e = grind (arith, nat_tests) in let r = progress_other s e task h sound other in omega arith

-- what holds of each element follows from what does
weaker : {A : Type 0} (P Q : A → Type 0) → ((x : A) → P x → Q x) → (xs : List A) → AllByRecursion P xs → AllByRecursion Q xs
weaker P Q f [] h = tt
weaker P Q f (x ∷ xs) h = (f x h.0, weaker P Q f xs h.1)

-- events of a kind whose tasks have come as far as the rank
module _ (is_kind : Event → Bool) (rank : ℕ) (ranked : (e : Event) → is_kind e ≡ true → rank_of e ≡ Some rank) where
  -- an event of the kind that applies raises its task above the rank
  leaves : (s : State) (e : Event) → is_kind e && applies s e ≡ true → IsSound s → (progress s (task_of s e) ≡ rank) × (progress (next s e) (task_of s e) ≡ suc rank)
  leaves s e is sound =
      let a = both (is_kind e) (applies s e) is in let r = rises s e rank (ranked e a.0) (allowed_of s e a.1) sound in
      (r.0, ap (λ (b : Bool). progress (if b then outcome s e else s) (task_of s e)) a.1 ∙ r.1)

  -- the tasks of the kind still to come are not above it
  early_step : (e : Event) (events : List Event) (s : State) → IsSound s → AllByRecursion (λ task. progress (next s e) task ≤ rank) (tasks_of is_kind (next s e) events) → AllByRecursion (λ task. progress s task ≤ rank) (tasks_of is_kind s (e ∷ events))
  early_step e events s sound later = go (is_kind e && applies s e) refl
    where
      rest : AllByRecursion (λ task. progress s task ≤ rank) (tasks_of is_kind (next s e) events)
      rest = weaker (λ task. progress (next s e) task ≤ rank) (λ task. progress s task ≤ rank) (λ task h. let f = forward s e task sound in omega arith) (tasks_of is_kind (next s e) events) later

      go : (b : Bool) → is_kind e && applies s e ≡ b → AllByRecursion (λ task. progress s task ≤ rank) (if b then task_of s e ∷ tasks_of is_kind (next s e) events else tasks_of is_kind (next s e) events)
      go true is = ((let l = leaves s e is sound in omega arith), rest)
      go false is = rest

  -- over all events to come
  early : (events : List Event) (s : State) → IsSound s → AllByRecursion (λ task. progress s task ≤ rank) (tasks_of is_kind s events)
  early [] s sound = tt
  early (e ∷ events) s sound = early_step e events s sound (early events (next s e) (sound_next s e sound))

  -- so the first of them comes once
  once_step : (e : Event) (events : List Event) (s : State) → IsSound s → IsDistinct nat_eq (tasks_of is_kind (next s e) events) → IsDistinct nat_eq (tasks_of is_kind s (e ∷ events))
  once_step e events s sound rest = go (is_kind e && applies s e) refl
    where
      go : (b : Bool) → is_kind e && applies s e ≡ b → IsDistinct nat_eq (if b then task_of s e ∷ tasks_of is_kind (next s e) events else tasks_of is_kind (next s e) events)
      go true is =
          IsDistinct-cons nat_eq (task_of s e) (tasks_of is_kind (next s e) events)
          (weaker (λ task. progress (next s e) task ≤ rank) (λ task. nat_eq (task_of s e) task ≡ false)
          (λ task h. let l = leaves s e is sound in let far : task_of s e ≢ task = (λ same. let a = ap (progress (next s e)) same in omega arith) in grind (arith, nat_tests))
          (tasks_of is_kind (next s e) events) (early events (next s e) (sound_next s e sound)))
          rest
      go false is = rest

  -- and each of them does
  once : (events : List Event) (s : State) → IsSound s → IsDistinct nat_eq (tasks_of is_kind s events)
  unfolding IsDistinct
  once [] s sound = tt
  once (e ∷ events) s sound = once_step e events s sound (once events (next s e) (sound_next s e sound))

-- one number more
range_more : (a n : ℕ) → range_with_len a n ++ (a + n) ∷ [] ≡ range_with_len a (n + 1)
range_more a zero = ap (λ (z : ℕ). z ∷ []) (let e : a + 0 ≡ a = omega arith in e)
range_more a (suc n) = ap (λ (z : ℕ). a ∷ (range_with_len (a + 1) n ++ z ∷ [])) (let e : a + suc n ≡ a + 1 + n = omega arith in e) ∙ ap (λ (l : List ℕ). a ∷ l) (range_more (a + 1) n) ∙ ap (range_with_len a) (let e : suc (n + 1) ≡ suc n + 1 = omega arith in e)

-- a give gives one, the first that isn't given
given_one : (e : Event) → is_give e ≡ true → given_more e ≡ 1
given_one (Give seat) h = refl
given_one _ h = absurd (cc)

give_task : (s : State) (e : Event) → is_give e ≡ true → task_of s e ≡ given_count s
give_task s (Give seat) h = refl
give_task s _ h = absurd (cc)

-- an event that isn't a give that applies leaves that number
given_stays : (s : State) (e : Event) → is_give e && applies s e ≡ false → given_count (next s e) ≡ given_count s
given_stays s e none_given = go (applies s e) refl none_given
  where
    no_give : (b : Bool) → b && true ≡ false → b ≡ false
    no_give true h = h
    no_give false h = refl

    go : (b : Bool) → applies s e ≡ b → is_give e && b ≡ false → given_count (if b then outcome s e else s) ≡ given_count s
    go true app none_given = given_after s e (allowed_of s e app) ∙ (let m = given_less e (no_give (is_give e) none_given) in let same : given_count s + given_more e ≡ given_count s = omega arith in same)
    go false app none_given = refl

-- what was given before and what one event and the later ones give are the first numbers, in order
given_step : (e : Event) (events : List Event) (s : State) → range_with_len 0 (given_count (next s e)) ++ gives (next s e) events ≡ range_with_len 0 (given_count (state_after (next s e) events)) → range_with_len 0 (given_count s) ++ gives s (e ∷ events) ≡ range_with_len 0 (given_count (state_after s (e ∷ events)))
given_step e events s rest = go (is_give e && applies s e) refl
  where
    go : (b : Bool) → is_give e && applies s e ≡ b → range_with_len 0 (given_count s) ++ (if b then task_of s e ∷ gives (next s e) events else gives (next s e) events) ≡ range_with_len 0 (given_count (state_after (next s e) events))
    go true is =
        let a = both (is_give e) (applies s e) is in let at = give_task s e a.0 in
        let more : given_count (next s e) ≡ given_count s + 1 = ap (λ (b : Bool). given_count (if b then outcome s e else s)) a.1 ∙ given_after s e (allowed_of s e a.1) ∙ ap (λ (n : ℕ). given_count s + n) (given_one e a.0) in
        ap (λ (t : ℕ). range_with_len 0 (given_count s) ++ t ∷ gives (next s e) events) (at ∙ (let z : given_count s ≡ 0 + given_count s = omega arith in z))
        ∙ sym (append_assoc (range_with_len 0 (given_count s)) ((0 + given_count s) ∷ []) (gives (next s e) events))
        ∙ ap (λ (l : List ℕ). l ++ gives (next s e) events) (range_more 0 (given_count s) ∙ ap (range_with_len 0) (sym more))
        ∙ rest
    go false is = ap (λ (n : ℕ). range_with_len 0 n ++ gives (next s e) events) (sym (given_stays s e is)) ∙ rest

-- over all events
given_in_order : (events : List Event) (s : State) → range_with_len 0 (given_count s) ++ gives s events ≡ range_with_len 0 (given_count (state_after s events))
given_in_order [] s = append-nil (range_with_len 0 (given_count s))
given_in_order (e ∷ events) s = given_step e events s (given_in_order events (next s e))

-- a task has come this far where it is claimed
claim_rank : (e : Event) → is_claim e ≡ true → rank_of e ≡ Some 1
claim_rank (Claim seat task) h = refl
claim_rank _ h = absurd (cc)

-- where it is handed in
deposit_rank : (e : Event) → is_deposit e ≡ true → rank_of e ≡ Some 2
deposit_rank (Deposit seat task mark) h = refl
deposit_rank _ h = absurd (cc)

-- where it is taken
take_rank : (e : Event) → is_take e ≡ true → rank_of e ≡ Some 3
take_rank (Take seat) h = refl
take_rank _ h = absurd (cc)

-- each list of events from a new core is orderly
pub orderly : (size seats : ℕ) (events : List Event) → IsOrderly (fresh size seats) events
orderly size seats events = let sound = sound_fresh size seats in
    record {
      claims_once = once is_claim 1 claim_rank events (fresh size seats) sound;
      deposits_once = once is_deposit 2 deposit_rank events (fresh size seats) sound;
      takes_once = once is_take 3 take_rank events (fresh size seats) sound;
      gives_in_order = given_in_order events (fresh size seats);
    }
