-- The phases of tasks before and after an event.
use Rattle.std.proofs.Common.{◌≡◌, ℕ, Bool, true, false, zero, suc, ◌+◌, ◌-◌, ◌<◌, ◌≤◌, List, [], ◌∷◌, ◌++◌, length, drop, sym, refl, ap, ◌∙◌, arith}
use Rattle.std.proofs.lemmas.Bool.Decides.{nat_tests}
use Rattle.std.proofs.lemmas.Option.{slice_get_within, slice_get_past}
use Rattle.std.specs.Prelude.{Option, Some, None, ◌==◌, ◌&&◌, nat_lt, if◌then◌else◌, slice_get, slice_set, is_none}
use Rattle.saber_core.specs.declared.events.TaskPhase.{TaskPhase}
use Rattle.saber_core.specs.declared.events.TaskPhase.TheVariants.{Ready, Held, Done, Taken}
use Rattle.saber_core.specs.declared.events.Event.{Event}
use Rattle.saber_core.specs.declared.events.Event.TheVariants.{Fill, Claim, Deposit, Win, Take, Give, Release}
use Rattle.saber_core.specs.declared.machine.Holder.{Holder}
use Rattle.saber_core.specs.Machine.{State, given_count, given_of, phase_at, is_ready, is_held_by, is_done, is_taken, is_taken_piece, is_marked, is_holder, is_seated, seat_of, is_allowed, applies, outcome}
use Rattle.saber_core.specs.Runs.{task_of, is_give}

-- both tests pass
pub both : (a b : Bool) → a && b ≡ true → (a ≡ true) × (b ≡ true)
both true b h = (refl, h)
both false b h = absurd (cc)

-- a phase that is ready is this one
pub ready_is : (p : Option TaskPhase) → is_ready p ≡ true → p ≡ Some Ready
ready_is None h = absurd (cc)
ready_is (Some Ready) h = refl
ready_is (Some (Held j)) h = absurd (cc)
ready_is (Some (Done m)) h = absurd (cc)
ready_is (Some (Taken m)) h = absurd (cc)

-- a phase that is held by a seat is this one
pub held_is : (seat : ℕ) (p : Option TaskPhase) → is_held_by seat p ≡ true → p ≡ Some (Held seat)
held_is seat None h = absurd (cc)
held_is seat (Some Ready) h = absurd (cc)
held_is seat (Some (Held j)) h = ap (λ (n : ℕ). Some (Held n)) (let e : j ≡ seat = grind (arith, nat_tests) in e)
held_is seat (Some (Done m)) h = absurd (cc)
held_is seat (Some (Taken m)) h = absurd (cc)

-- a phase that is done is this one
pub done_is : (p : Option TaskPhase) → is_done p ≡ true → p ≡ Some (Done (is_marked p))
done_is None h = absurd (cc)
done_is (Some Ready) h = absurd (cc)
done_is (Some (Held j)) h = absurd (cc)
done_is (Some (Done m)) h = refl
done_is (Some (Taken m)) h = absurd (cc)

-- a phase that is taken with a piece is this one
pub taken_piece_is : (p : Option TaskPhase) → is_taken_piece p ≡ true → p ≡ Some (Taken false)
taken_piece_is None h = absurd (cc)
taken_piece_is (Some Ready) h = absurd (cc)
taken_piece_is (Some (Held j)) h = absurd (cc)
taken_piece_is (Some (Done m)) h = absurd (cc)
taken_piece_is (Some (Taken false)) h = refl
taken_piece_is (Some (Taken true)) h = absurd (cc)

-- a list with one more at its end
get_more : {X : Type 0} (xs : List X) (y : X) (i : ℕ) → slice_get (xs ++ y ∷ []) i ≡ (if i == length xs then Some y else slice_get xs i)
get_more [] y zero = refl
get_more [] y (suc i) = grind (arith, nat_tests)
get_more (x ∷ xs) y zero = grind (arith, nat_tests)
get_more (x ∷ xs) y (suc i) = get_more xs y i ∙ ap (λ (b : Bool). if b then Some y else slice_get xs i) (let e : (i == length xs) ≡ (suc i == suc (length xs)) = grind (arith, nat_tests) in e)

-- a list with one element written
get_written : {X : Type 0} (xs : List X) (k : ℕ) (y : X) (i : ℕ) → k < length xs → slice_get (slice_set xs k y) i ≡ (if i == k then Some y else slice_get xs i)
get_written [] k y i h = absurd (omega arith)
get_written (x ∷ xs) zero y zero h = refl
get_written (x ∷ xs) zero y (suc i) h = grind (arith, nat_tests)
get_written (x ∷ xs) (suc k) y zero h = grind (arith, nat_tests)
get_written (x ∷ xs) (suc k) y (suc i) h = get_written xs k y i (omega arith) ∙ ap (λ (b : Bool). if b then Some y else slice_get xs i) (let e : (i == k) ≡ (suc i == suc k) = grind (arith, nat_tests) in e)

-- a list without its first element
get_rest : {X : Type 0} (xs : List X) (i : ℕ) → slice_get (drop 1 xs) i ≡ slice_get xs (suc i)
get_rest [] i = refl
get_rest (x ∷ xs) i = refl

-- a task with a phase is not given, and there is a place for its phase
pub within : (s : State) (task : ℕ) (p : TaskPhase) → phase_at s task ≡ Some p → (given_count s ≤ task) × (task - given_count s < length s.phases)
within s task p h = go (nat_lt task (given_count s)) refl h
  where
    go : (b : Bool) → nat_lt task (given_count s) ≡ b → (if b then None else slice_get s.phases (task - given_count s)) ≡ Some p → (given_count s ≤ task) × (task - given_count s < length s.phases)
    go true is e = absurd (cc)
    go false is e = ((let le : given_count s ≤ task = grind (arith, nat_tests) in le), slice_get_within s.phases (task - given_count s) p e)

-- what a list of phases, the first of them of the task g, says of a task
abbrev pub look : ℕ → List TaskPhase → ℕ → Option TaskPhase
look g phases task = if nat_lt task g then None else slice_get phases (task - g)

-- where no phase changes, that of any task is as before
look_same : (g : ℕ) (phases : List TaskPhase) (k task : ℕ) → look g phases task ≡ (if task == k then look g phases k else look g phases task)
look_same g phases k task = go (task == k) refl
  where
    go : (b : Bool) → (task == k) ≡ b → look g phases task ≡ (if b then look g phases k else look g phases task)
    go true is = ap (look g phases) (let e : task ≡ k = grind (arith, nat_tests) in e)
    go false is = refl

-- one phase more is that of the next task
look_more : (g : ℕ) (phases : List TaskPhase) (p : TaskPhase) (k task : ℕ) → g + length phases ≡ k → look g (phases ++ p ∷ []) task ≡ (if task == k then Some p else look g phases task)
look_more g phases p k task count = go (nat_lt task g) refl
  where
    go : (b : Bool) → nat_lt task g ≡ b → (if b then None else slice_get (phases ++ p ∷ []) (task - g)) ≡ (if task == k then Some p else (if b then None else slice_get phases (task - g)))
    go true is = ap (λ (c : Bool). if c then Some p else None) (let e : false ≡ (task == k) = grind (arith, nat_tests) in e)
    go false is = get_more phases p (task - g) ∙ ap (λ (c : Bool). if c then Some p else slice_get phases (task - g)) (let e : (task - g == length phases) ≡ (task == k) = grind (arith, nat_tests) in e)

-- a written phase is that of the task at its place
look_written : (g : ℕ) (phases : List TaskPhase) (k place : ℕ) (p : TaskPhase) (task : ℕ) → k ≡ g + place → place < length phases → look g (slice_set phases place p) task ≡ (if task == k then Some p else look g phases task)
look_written g phases k place p task is_at lt = go (nat_lt task g) refl
  where
    go : (b : Bool) → nat_lt task g ≡ b → (if b then None else slice_get (slice_set phases place p) (task - g)) ≡ (if task == k then Some p else (if b then None else slice_get phases (task - g)))
    go true is = ap (λ (c : Bool). if c then Some p else None) (let e : false ≡ (task == k) = grind (arith, nat_tests) in e)
    go false is = get_written phases place p (task - g) lt ∙ ap (λ (c : Bool). if c then Some p else slice_get phases (task - g)) (let e : (task - g == place) ≡ (task == k) = grind (arith, nat_tests) in e)

-- without the first phase, its task has none
look_rest : (g : ℕ) (phases : List TaskPhase) (task : ℕ) → look (g + 1) (drop 1 phases) task ≡ (if task == g then None else look g phases task)
look_rest g phases task = go (nat_lt task (g + 1)) refl
  where
    go : (b : Bool) → nat_lt task (g + 1) ≡ b → (if b then None else slice_get (drop 1 phases) (task - (g + 1))) ≡ (if task == g then None else look g phases task)
    go true is = at (task == g) refl
      where
        at : (c : Bool) → (task == g) ≡ c → None ≡ (if c then None else look g phases task)
        at true e = refl
        at false e = ap (λ (d : Bool). if d then None else slice_get phases (task - g)) (let lt : true ≡ nat_lt task g = grind (arith, nat_tests) in lt)
    go false is =
        let far : (task == g) ≡ false = grind (arith, nat_tests) in let past : nat_lt task g ≡ false = grind (arith, nat_tests) in
        let i : suc (task - (g + 1)) ≡ task - g = grind (arith, nat_tests) in
        get_rest phases (task - (g + 1)) ∙ ap (slice_get phases) i ∙ (λ j. if sym far j then None else (if sym past j then None else slice_get phases (task - g)))

-- the phase that an event leaves its task in
abbrev pub phase_of : State → Event → Option TaskPhase
phase_of s Fill = Some Ready
phase_of s (Claim seat task) = Some (Held seat)
phase_of s (Deposit seat task mark) = Some (Done mark)
phase_of s (Win seat) = phase_at s (given_count s)
phase_of s (Take seat) = Some (Taken (is_marked (phase_at s (given_count s))))
phase_of s (Give seat) = None
phase_of s (Release seat) = phase_at s (given_count s)

-- how many tasks an event gives
abbrev pub given_more : Event → ℕ
given_more (Give seat) = 1
given_more _ = 0

-- only a give raises the number of given tasks
pub given_after : (s : State) (e : Event) → is_allowed s e ≡ true → given_count (outcome s e) ≡ given_count s + given_more e
given_after s Fill h = omega arith
given_after s (Claim seat task) h = omega arith
given_after s (Deposit seat task mark) h = omega arith
given_after s (Win seat) h = go s.turn h
  where
    go : (turn : Option Holder) → is_none turn ≡ true → s.assembled ≡ given_of s.assembled turn + 0
    go None h = omega arith
    go (Some holder) h = absurd (cc)
given_after s (Take seat) h = omega arith
given_after s (Give seat) h = refl
given_after s (Release seat) h = omega arith

-- an event changes the phase of its own task alone
pub moved : (s : State) (e : Event) → is_allowed s e ≡ true → given_count s + length s.phases ≡ s.filled → (task : ℕ) → phase_at (outcome s e) task ≡ (if task == task_of s e then phase_of s e else phase_at s task)
moved s Fill h count task = look_more (given_count s) s.phases Ready s.filled task count
moved s (Claim seat k) h count task =
    let w = within s k Ready (ready_is (phase_at s k) h) in look_written (given_count s) s.phases k (k - given_count s) (Held seat) task (let le = w.0 in omega arith) w.1
moved s (Deposit seat k mark) h count task =
    let w = within s k (Held seat) (held_is seat (phase_at s k) h) in look_written (given_count s) s.phases k (k - given_count s) (Done mark) task (let le = w.0 in omega arith) w.1
moved s (Win seat) h count task =
    let same : given_count (outcome s (Win seat)) ≡ given_count s = (let e = given_after s (Win seat) h in omega arith) in
    ap (λ (g : ℕ). look g s.phases task) same ∙ look_same (given_count s) s.phases (given_count s) task
moved s (Take seat) h count task =
    let w = within s (given_count s) (Done (is_marked (phase_at s (given_count s)))) (done_is (phase_at s (given_count s)) (both (is_holder seat s.turn) (is_done (phase_at s (given_count s))) h).1) in
    look_written (given_count s) s.phases (given_count s) 0 (Taken (is_marked (phase_at s (given_count s)))) task (omega arith) (let lt = w.1 in omega arith)
moved s (Give seat) h count task = look_rest (given_count s) s.phases task
moved s (Release seat) h count task = look_same (given_count s) s.phases (given_count s) task

-- a phase that is taken is this one, with some mark
pub taken_is : (p : Option TaskPhase) → is_taken p ≡ true → (mark : Bool) × (p ≡ Some (Taken mark))
taken_is None h = absurd (cc)
taken_is (Some Ready) h = absurd (cc)
taken_is (Some (Held j)) h = absurd (cc)
taken_is (Some (Done m)) h = absurd (cc)
taken_is (Some (Taken m)) h = (m, refl)

-- the next task to be filled has no phase
pub unfilled : (s : State) → given_count s + length s.phases ≡ s.filled → phase_at s s.filled ≡ None
unfilled s count = go (nat_lt s.filled (given_count s)) refl
  where
    go : (b : Bool) → nat_lt s.filled (given_count s) ≡ b → (if b then None else slice_get s.phases (s.filled - given_count s)) ≡ None
    go true is = refl
    go false is = slice_get_past s.phases (s.filled - given_count s) (omega arith)

-- an event that is no give gives none
pub given_less : (e : Event) → is_give e ≡ false → given_more e ≡ 0
given_less (Give seat) h = absurd (cc)
given_less _ h = refl

-- an event that applies is allowed
pub allowed_of : (s : State) (e : Event) → applies s e ≡ true → is_allowed s e ≡ true
allowed_of s e h = (both (is_seated s.seats (seat_of e)) (is_allowed s e) h).1
