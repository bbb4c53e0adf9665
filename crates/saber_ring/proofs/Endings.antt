-- What the last seat knows of the ring.
use Rattle.std.proofs.Common.{◌≡◌, ◌≢◌, ℕ, Bool, true, false, zero, suc, ◌+◌, ◌-◌, ◌*◌, ◌%◌, ◌<◌, ◌≤◌, List, [], ◌∷◌, length, sym, refl, ap, ◌∙◌, subst, arith}
use mathlib.Core.Logic.{dite}
use mathlib.Core.Option.{some, some-injective, some-ne-none}
use native.Mathlib.Decide.{ℕ_discrete, dec_le}
use lib.ListN.{get_elem?}
use Rattle.std.specs.Prelude.{Option, Some, None, slice_index}
use Rattle.atomic_table.specs.Table.{State, Seen, Final}
use Rattle.saber_ring.specs.declared.view.SlotValue.{SlotValue}
use Rattle.saber_ring.specs.declared.view.SlotValue.TheVariants.{Empty, Rows, Piece, Stage}
use Rattle.std.proofs.Math.Nat.{mod-eq_of_lt}
use Rattle.saber_ring.specs.Seats.{is_begun, is_filling}
use Rattle.saber_ring.specs.declared.view.FillState.{FillState}
use Rattle.saber_ring.specs.declared.view.FillState.TheVariants.{Waiting, Begun, Stored}
use Rattle.saber_ring.proofs.BlockFrames.{no_reader}
use Rattle.saber_ring.specs.declared.view.TurnState.{TurnState}
use Rattle.saber_ring.specs.declared.view.TurnState.TheVariants.{Open, TookPiece, TookMark, WonStopped, Leaving}
use Rattle.saber_ring.specs.declared.view.Entry.TheVariants.{Claim, Deposit, Take, Give}
use Rattle.saber_ring.specs.declared.view.View.{View}
use Rattle.saber_ring.specs.declared.view.Lead.{Lead}
use Rattle.saber_ring.specs.Shows.{RingPhase, idle, ready, held, done, taken, past, RingTurn, free, won_by, turn_word, is_halted, TakenBy, RingState, Fits, TurnFits, extra, RingBlock, blank, coming, kept, read_by, BlockFits, BlockHome, told_with, oldest, HasJob, HasTurn, HasLead, AtHome, EmptyBut, IsLive, live, total, StageHome, ShowsAs, Shows, times, same, claims_of, deposits_of, takes_of, gives_of}
use Rattle.saber_ring.proofs.Puts.{total_at, total_set}
use Rattle.saber_ring.proofs.PhaseFacts.{false_true, waiting_begun, window_has}
use Rattle.saber_ring.proofs.Alone.{Alone, spent, all_alive, own_all}
use Rattle.std.proofs.lemmas.Bool.Decides.{nat_tests}
use Rattle.std.specs.Prelude.{nat_lt, if◌then◌else◌}
use Rattle.saber_ring.specs.Plays.{Shown, Leaves}
use Rattle.saber_ring.specs.Closing.{IsLast, NoStage, NoStages, EachOnce, Finishes}
use Rattle.saber_ring.proofs.Counts.{one}
use Rattle.saber_ring.specs.declared.view.Entry.{Entry}

-- two words that the same entries leave are one
pub one_word : (own : List Entry) (n m : ℕ) → Shown own n → Shown own m → n ≡ m
one_word own n m a b =
    let same : a.0 ≡ b.0 = dite (dec_le a.0 b.0) (λ le. dite (dec_le b.0 a.0) (λ ge. omega arith) (λ gt. let p = a.3 a.0 in let q = b.3 a.0 in absurd (grind (arith, nat_tests)))) (λ gt. let p = a.3 b.0 in let q = b.3 b.0 in absurd (grind (arith, nat_tests))) in
    let flag : a.1 ≡ b.1 = flags a.1 b.1 (sym a.4 ∙ ap (λ (z : ℕ). times (Take z) own) same ∙ b.4) in
    a.2 ∙ (λ i. turn_word (same i) (free (flag i))) ∙ sym b.2
  where
    flags : (x y : Bool) → ◌≡◌ {A = ℕ} (if x then 1 else 0) (if y then 1 else 0) → x ≡ y
    flags false false e = refl
    flags false true e = absurd (omega arith)
    flags true false e = absurd (omega arith)
    flags true true e = refl

pub calm_waits : {T : Type 0} (x : FillState T) → is_begun x ≡ false → x ≡ Waiting
calm_waits Waiting e = refl
calm_waits Begun e = absurd (false_true (sym e))
calm_waits (Stored told) e = absurd (false_true (sym e))

module _ {T R P S : Type 0} (is_told : T → ℕ → Type 0) (upto : T → ℕ → T) (needs : T → ℕ → ℕ) (is_rows : T → ℕ → R → Type 0) (is_piece : T → ℕ → P → Type 0) (is_stage : T → ℕ → Bool → S → Type 0) (size : ℕ) where
  abbrev St : Type 0
  St = State (SlotValue R P S) (View T)

  abbrev As : St → RingState T → Type 0
  As s b = ShowsAs is_told upto needs is_rows is_piece is_stage size s b

  -- each place of a list has an element
  pub there : {A : Type 0} (xs : List A) (i : ℕ) → i < length xs → (x : A) × (get_elem? xs i ≡ some x)
  there [] i l = absurd (omega arith)
  there (x ∷ xs) zero l = (x, refl)
  there (x ∷ xs) (suc i) l = there xs i (omega arith)

  pub no_turns : (h : View T → ℕ) (xs : List (View T)) (i j : ℕ) (v u : View T) → get_elem? xs i ≡ some v → h v ≡ 1 → total h xs ≡ 1 → get_elem? xs j ≡ some u → j ≢ i → h u ≡ 0
  no_turns h xs i j v u at one all other ne = let p = total_set h xs i v v at in let w = two_of h xs i j v u at other ne in omega arith
    where
      two_of : (h : View T → ℕ) (xs : List (View T)) (i j : ℕ) (v u : View T) → get_elem? xs i ≡ some v → get_elem? xs j ≡ some u → j ≢ i → h v + h u ≤ total h xs
      two_of h [] i j v u a c ne = absurd (some-ne-none v (sym a))
      two_of h (x ∷ xs) zero zero v u a c ne = absurd (ne refl)
      two_of h (x ∷ xs) zero (suc j) v u a c ne = let p : h x ≡ h v = ap h (some-injective x v a) in let q = total_at h xs j u c in omega arith
      two_of h (x ∷ xs) (suc i) zero v u a c ne = let p : h x ≡ h u = ap h (some-injective x u c) in let q = total_at h xs i v a in omega arith
      two_of h (x ∷ xs) (suc i) (suc j) v u a c ne = let q = two_of h xs i j v u a c (λ e. ne (ap suc e)) in omega arith

  -- nobody has the turn where the last seat has not
  pub turn_free : (s : St) (b : RingState T) (id : ℕ) (v : View T) (l : Lead T) → As s b → Alone is_told upto needs is_rows is_piece is_stage size s b id v l → v.turn ≡ None → (x : Bool) × (b.turn ≡ free x)
  turn_free s b id v l sh a none_held = go b.turn refl
    where
      nobody : (j : ℕ) (p : TurnState) → b.turn ≡ won_by j p → j < length s.views → ⊥
      nobody j p e lt = let o = there s.views j lt in let k = sh.shape in dite (ℕ_discrete j id)
          (λ same. (subst (HasTurn upto b id) none_held (k.each_seat id v a.0).turn) p (e ∙ ap (λ (z : ℕ). won_by z p) same))
          (λ ne. let kn = k.each_seat j o.0 o.1 in let no = no_turns (λ (u : View T). live u.base) s.views id j v o.0 a.0 a.3 (all_alive is_told upto needs is_rows is_piece is_stage size s b id v l sh a) o.1 ne in
          (subst (HasTurn upto b j) (spent is_told upto needs is_rows is_piece is_stage size b j o.0 no kn.base).1 kn.turn) p e)

      holder : (j : ℕ) (p : TurnState) → TurnFits b (length s.views) (won_by j p) → j < length s.views
      holder j Open r = r
      holder j TookPiece r = r.0
      holder j TookMark r = r.0
      holder j WonStopped r = r.0
      holder j Leaving r = r.0

      go : (x : RingTurn) → b.turn ≡ x → (y : Bool) × (b.turn ≡ free y)
      go (free y) e = (y, e)
      go (won_by j p) e = absurd (nobody j p e (holder j p (subst (TurnFits b (length s.views)) e sh.shape.turn_fits)))

  given_is : (b : RingState T) (n t : ℕ) (ph : RingPhase) → b.given ≤ b.filled → Fits size b n t ph → gives_of ph ≡ (if nat_lt t b.given then 1 else 0)
  given_is b n t idle le f = grind (arith, nat_tests, f)
  given_is b n t ready le f = let e = f.0 in grind (arith, nat_tests)
  given_is b n t (held j) le f = let e = f.0 in grind (arith, nat_tests)
  given_is b n t (done m) le f = let e = f.0 in grind (arith, nat_tests)
  given_is b n t (taken m) le f = let e = f.0 in grind (arith, nat_tests)
  given_is b n t past le f = grind (arith, nat_tests, f)

  not_took : (b : RingState T) (n : ℕ) (ph : RingPhase) → b.turn ≡ free false → Fits size b n b.given ph → takes_of ph ≡ 0
  not_took b n idle is f = refl
  not_took b n ready is f = refl
  not_took b n (held j) is f = refl
  not_took b n (done m) is f = refl
  not_took b n (taken m) is f = absurd (false_true (subst (TakenBy m) is f.2))
  not_took b n past is f = absurd (omega (arith, f))

  -- what the last seat's entries leave, with the turn free
  pub leaves_at : (s : St) (b : RingState T) (id : ℕ) (v : View T) (l : Lead T) → As s b → Alone is_told upto needs is_rows is_piece is_stage size s b id v l → (x : Bool) → b.turn ≡ free x → Leaves v.own b.given x
  leaves_at s b id v l sh a x is =
      let k = sh.shape in let own = own_all is_told upto needs is_rows is_piece is_stage size s b id v l sh a in let r = subst (TurnFits b (length s.views)) is k.turn_fits in
      ((λ t. own (Give t) ∙ given_is b (length s.views) t (b.phase t) k.given_filled (k.each_task t)), own (Take b.given) ∙ go x is r)
    where
      go : (x : Bool) → b.turn ≡ free x → TurnFits b (length s.views) (free x) → takes_of (b.phase b.given) ≡ (if x then 1 else 0)
      go false is r = not_took b (length s.views) (b.phase b.given) is (sh.shape.each_task b.given)
      go true is r = ap takes_of (r.1 refl).1

  -- what the last seat sees in the word of the turn
  pub shown : (s : St) (b : RingState T) (id : ℕ) (v : View T) (l : Lead T) → As s b → Alone is_told upto needs is_rows is_piece is_stage size s b id v l → v.turn ≡ None → Shown v.own (slice_index s.words 0)
  shown s b id v l sh a no_turn =
      let f = turn_free s b id v l sh a no_turn in let k = sh.shape in let r = subst (TurnFits b (length s.views)) f.1 k.turn_fits in let e = leaves_at s b id v l sh a f.0 f.1 in
      (b.given, f.0, k.turn_is ∙ (λ i. turn_word (r.0 i) (f.1 i)), e.0, e.1)

  -- a stopped stage stands before a task that was filled
  pub behind_filled : (s : St) (b : RingState T) (sh : As s b) (x : Bool) → b.turn ≡ free x → b.given + extra x ≤ b.filled
  behind_filled s b sh false is = let l = sh.shape.given_filled in omega arith
  behind_filled s b sh true is = let r = (subst (TurnFits b (length s.views)) is sh.shape.turn_fits).1 refl in let f = subst (Fits size b (length s.views) b.given) r.1 (sh.shape.each_task b.given) in let l = f.1 in omega arith

  given_past : (b : RingState T) (n t : ℕ) (ph : RingPhase) → t < b.given → b.given ≤ b.filled → Fits size b n t ph → ph ≡ past
  given_past b n t idle lt le f = absurd (omega (arith, f))
  given_past b n t ready lt le f = let e = f.0 in absurd (omega arith)
  given_past b n t (held j) lt le f = let e = f.0 in absurd (omega arith)
  given_past b n t (done m) lt le f = let e = f.0 in absurd (omega arith)
  given_past b n t (taken m) lt le f = let e = f.0 in absurd (omega arith)
  given_past b n t past lt le f = refl

  pub each_once : (s : St) (b : RingState T) (id : ℕ) (v : View T) (l : Lead T) → As s b → Alone is_told upto needs is_rows is_piece is_stage size s b id v l → EachOnce b.given v.own
  each_once s b id v l sh a t lt =
      let own = own_all is_told upto needs is_rows is_piece is_stage size s b id v l sh a in let k = sh.shape in let is : b.phase t ≡ past = given_past b (length s.views) t (b.phase t) lt k.given_filled (k.each_task t) in
      (own (Claim t) ∙ ap claims_of is, own (Deposit t false) ∙ ap (deposits_of false) is, own (Take t) ∙ ap takes_of is, own (Give t) ∙ ap gives_of is, own (Deposit t true) ∙ ap (deposits_of true) is)

  pub ends : (s : St) (b : RingState T) (id : ℕ) (v : View T) (l : Lead T) → As s b → Alone is_told upto needs is_rows is_piece is_stage size s b id v l → v.turn ≡ None
      → (st : S) × (get_elem? s.homes 0 ≡ some (some (Stage st))) × ((x : Bool) × is_stage (upto l.told (b.given + extra x)) b.given x st × EachOnce b.given v.own × (b.given + extra x ≤ l.filled) × Leaves v.own b.given x × (v.seen ≤ b.given) × (v.stopped ≡ true → x ≡ true))
  ends s b id v l sh a no_turn =
      let f = turn_free s b id v l sh a no_turn in let h = subst (StageHome is_told upto needs is_rows is_piece is_stage size s b) f.1 sh.home.stage in
      let kn = sh.shape.each_seat id v a.0 in let lead = subst (HasLead upto b id) a.1 kn.lead in let mine = kn.seen in let r = subst (TurnFits b (length s.views)) f.1 sh.shape.turn_fits in
      (h.0, h.1, (f.0, subst (λ (z : T). is_stage (upto z (b.given + extra f.0)) b.given f.0 h.0) (sym lead.1) h.2, each_once s b id v l sh a, (let w = behind_filled s b sh f.0 f.1 in let q = lead.2 in omega arith), leaves_at s b id v l sh a f.0 f.1, (let z = r.0 in let y = mine.0 in omega arith), λ e. sym (ap is_halted f.1) ∙ mine.1 e))

  -- no other seat has a job
  pub no_jobs : (s : St) (b : RingState T) (id : ℕ) (v : View T) (l : Lead T) → As s b → Alone is_told upto needs is_rows is_piece is_stage size s b id v l → v.job ≡ None → (u j : ℕ) → b.phase u ≡ held j → ⊥
  no_jobs s b id v l sh a no_job u j e =
      let k = sh.shape in let f = subst (Fits size b (length s.views) u) e (k.each_task u) in let o = there s.views j f.2 in dite (ℕ_discrete j id)
      (λ same. subst (HasJob upto b id) no_job (k.each_seat id v a.0).job u (e ∙ ap held same))
      (λ ne. let kn = k.each_seat j o.0 o.1 in let no = no_turns (λ (w : View T). live w.base) s.views id j v o.0 a.0 a.3 (all_alive is_told upto needs is_rows is_piece is_stage size s b id v l sh a) o.1 ne in
      subst (HasJob upto b j) (spent is_told upto needs is_rows is_piece is_stage size b j o.0 no kn.base).0 kn.job u e)

  -- what lies in a cell where nobody has a job, and the turn is free: no stage
  cell_value : (s : St) (b : RingState T) (t : ℕ) → As s b → (x : Bool) → b.turn ≡ free x → b.given ≤ t → t < b.given + size → ((j : ℕ) → b.phase t ≢ held j) → (y : SlotValue R P S) × (get_elem? s.homes (t % size + 1) ≡ some (some y)) × NoStage y
  cell_value s b t sh x is lo hi no_job = go (b.phase t) refl (sh.shape.each_task t) (sh.home.each_cell t lo hi)
    where
      go : (ph : RingPhase) → b.phase t ≡ ph → Fits size b (length s.views) t ph → AtHome upto is_rows is_piece is_stage b.told (get_elem? s.homes (t % size + 1)) t ph → (y : SlotValue R P S) × (get_elem? s.homes (t % size + 1) ≡ some (some y)) × NoStage y
      go idle e f h = (Empty, h, tt)
      go ready e f h = (Empty, h, tt)
      go (held j) e f h = absurd (no_job j e)
      go (done false) e f h = (Piece h.0, h.1, tt)
      go (done true) e f h = (Empty, h, tt)
      go (taken m) e f h = (Empty, ap (λ (z : ℕ). get_elem? s.homes (z % size + 1)) f.0 ∙ subst (EmptyBut is_told upto needs is_rows is_piece is_stage size s b) is (sh.home.taken_cell m (ap b.phase (sym f.0) ∙ e)), tt)
      go past e f h = absurd (omega (arith, f))

  -- what lies in a block that nobody reads or fills: no stage
  block_value : (s : St) (b : RingState T) (u : ℕ) → As s b → b.fill ≡ Waiting → oldest size b ≤ u → u < oldest size b + size → ((j : ℕ) → b.block u ≢ read_by j) → (y : SlotValue R P S) × (get_elem? s.homes (u % size + 1 + size) ≡ some (some y)) × NoStage y
  block_value s b u sh waits lo hi unread = go (b.block u) refl (sh.blocks.each_block u) (sh.blocks.each_block_home u lo hi)
    where
      go : (z : RingBlock) → b.block u ≡ z → BlockFits upto needs b.filled b.told b.fill b.phase u z → BlockHome upto is_rows (told_with b.fill b.told) (get_elem? s.homes (u % size + 1 + size)) u z → (y : SlotValue R P S) × (get_elem? s.homes (u % size + 1 + size) ≡ some (some y)) × NoStage y
      go blank e f h = (Empty, h, tt)
      go coming e f h = absurd (waiting_begun (sym waits ∙ f.1))
      go kept e f h = (Rows h.0, h.1, tt)
      go (read_by j) e f h = absurd (unread j e)

  -- no cell and no block has a stage where the last seat has neither job nor turn
  pub no_stages : (s : St) (b : RingState T) (id : ℕ) (v : View T) (l : Lead T) → As s b → Alone is_told upto needs is_rows is_piece is_stage size s b id v l → v.job ≡ None → v.turn ≡ None → is_begun l.fill ≡ false → (i : ℕ) → 0 < i → i < 2 * size + 1
      → (y : SlotValue R P S) × (get_elem? s.homes i ≡ some (some y)) × NoStage y
  no_stages s b id v l sh a no_job no_turn calm i pos lt =
      let k = sh.shape in let f = turn_free s b id v l sh a no_turn in let lead = subst (HasLead upto b id) a.1 (k.each_seat id v a.0).lead in
      dite (dec_le i size)
      (λ low. let w = window_has (i - 1) size b.given k.some_cell in let t : ℕ = w.0 in let same : (i - 1) % size ≡ i - 1 = mod-eq_of_lt (omega arith) in let at = w.3 in let cell : t % size + 1 ≡ i = omega arith in
      subst (λ (z : ℕ). (y : SlotValue R P S) × (get_elem? s.homes z ≡ some (some y)) × NoStage y) cell
      (cell_value s b t sh f.0 f.1 w.1 w.2 (λ j. no_jobs s b id v l sh a no_job t j)))
      (λ high. let n : ℕ = i - 1 - size in let w = window_has n size (oldest size b) k.some_cell in let u : ℕ = w.0 in let same : n % size ≡ n = mod-eq_of_lt (omega arith) in let at = w.3 in let place : u % size + 1 + size ≡ i = omega arith in
      subst (λ (z : ℕ). (y : SlotValue R P S) × (get_elem? s.homes z ≡ some (some y)) × NoStage y) place
      (block_value s b u sh (sym lead.4 ∙ calm_waits l.fill calm) w.1 w.2 (λ j. no_reader is_told upto needs is_rows is_piece is_stage size s b sh.blocks j (λ t. no_jobs s b id v l sh a no_job t j) u)))

  -- the stage lies in slot 0 of a ring that is closed with its last seat
  pub closes : (id : ℕ) (v : View T) (l : Lead T) (words : List ℕ) (values : List (SlotValue R P S)) → v.lead ≡ Some l → l.out ≡ 0 → IsLive v → v.job ≡ None → v.turn ≡ None → is_filling v.lead ≡ false → Final (Seen (Shows is_told upto needs is_rows is_piece is_stage size) id v) words values
      → NoStages values (2 * size + 1) × (st : S) × (get_elem? values 0 ≡ some (Stage st)) × ((k : ℕ) × (x : Bool) × is_stage (upto l.told (k + extra x)) k x st × EachOnce k v.own × (k + extra x ≤ l.filled) × Leaves v.own k x × (v.seen ≤ k) × (v.stopped ≡ true → x ≡ true))
  closes id v l words values lead out alive no_job no_turn calm f =
      let s = f.0 in let r = f.1.0 in let e = ends s r.0 id v l r.1 (f.1.1, lead, out, alive) no_turn in (
        λ i x pos lt at. let c = no_stages s r.0 id v l r.1 (f.1.1, lead, out, alive) no_job no_turn (sym (ap is_filling lead) ∙ calm) i pos lt in subst NoStage (some-injective c.0 x (sym (f.4 i c.0 c.1) ∙ at)) c.2,
        e.0,
        f.4 0 (Stage e.0) e.1,
        (r.0.given, e.2.0, e.2.1, e.2.2, e.2.3, e.2.4, e.2.5, e.2.6),
      )

pub last_lead : {T : Type 0} (o : Option (Lead T)) → IsLast o → (l : Lead T) × (o ≡ Some l) × (l.out ≡ 0)
last_lead None h = absurd h
last_lead (Some l) h = (l, refl, h)

module _ {R P S : Type 0} where
  pub same_stage : (x : SlotValue R P S) (st st' : S) → some x ≡ some (Stage st) → x ≡ Stage st' → st ≡ st'
  same_stage x st st' a b = let e : x ≡ Stage st = some-injective x (Stage st) a in cc

module _ {T S : Type 0} (upto : T → ℕ → T) (is_stage : T → ℕ → Bool → S → Type 0) (v : View T) where
  pub finish_told : (o : Option (Lead T)) (l : Lead T) (st stage : S) → o ≡ Some l → ((k : ℕ) × (x : Bool) × is_stage (upto l.told (k + extra x)) k x st × EachOnce k v.own × (k + extra x ≤ l.filled) × Leaves v.own k x × (v.seen ≤ k) × (v.stopped ≡ true → x ≡ true)) → st ≡ stage → Finishes upto is_stage v stage o
  finish_told o l st stage is f same = subst (Finishes upto is_stage v stage) (sym is) (f.0, f.1, subst (is_stage (upto l.told (f.0 + extra f.1)) f.0 f.1) same f.2, f.3, f.4, f.5, f.6, f.7)
