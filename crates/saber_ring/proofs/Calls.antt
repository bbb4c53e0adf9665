-- What the calls ask and tell, on plain values.
use Rattle.std.proofs.Common.{◌≢◌, ⊎_elim, ◌≡◌, ℕ, Bool, true, false, ◌+◌, ◌-◌, ◌*◌, ◌%◌, ◌<◌, ◌≤◌, ◌∷◌, [], sym, refl, ap, ◌∙◌, subst, arith}
use Rattle.std.specs.Prelude.{Option, None, Some, IsSome, ◌||◌, nat_lt, slice_index, length, List}
use Rattle.saber_ring.proofs.PhaseFacts.{some_same}
use Rattle.saber_ring.specs.declared.view.View.{View}
use Rattle.saber_ring.specs.declared.view.Lead.{Lead}
use Rattle.saber_ring.specs.declared.view.HeldTask.{HeldTask}
use Rattle.atomic_table.specs.Table.{Me, rest}
use Rattle.saber_ring.specs.declared.view.SlotValue.{SlotValue}
use Rattle.saber_ring.specs.declared.view.SlotValue.TheVariants.{Empty, Rows, Piece}
use mathlib.Core.Option.{some}
use Rattle.saber_ring.specs.Shows.{first_of_task, AtHome, done, number_of, turn_word, free, times, live}
use Rattle.saber_ring.specs.declared.view.Entry.TheVariants.{Claim, Deposit}
use mathlib.Core.Logic.{dite}
use native.Mathlib.Decide.{ℕ_discrete}
use Rattle.saber_ring.specs.Seats.{cells_of, out_of, task_slots, is_lent}
use Rattle.saber_ring.specs.Plays.{FindsDone, FindsDeposit, looked, leaving, led, looked_turn, begun, stored, more_filled, word_before, IsSpare, without_job, is_stopped, went_on, without_turn}
use Rattle.saber_ring.proofs.Carries.{half, first_now, same_first, there_and_back, none_out}
use Rattle.saber_core.specs.Works.{IsPieceOrMark}
use Rattle.saber_ring.specs.Calls.{after_fill, FillsNext, Covers, NeedsBlock, HasJobOf, HasRowsOut, MayDeposit, HoldsTurn, Releases, NoneClaimed, NoneDeposited}
use Rattle.saber_ring.specs.Releasing.{SetsDown}
use Rattle.saber_ring.specs.Filling.{MayFill}
use Rattle.saber_ring.specs.declared.frees.Frees.{Frees}
use Rattle.saber_ring.specs.declared.view.FillState.TheVariants.{Waiting}
use Rattle.std.proofs.lemmas.Bool.Decides.{nat_tests}
use Rattle.saber_ring.specs.declared.view.HeldTurn.{HeldTurn}
use Rattle.saber_ring.specs.declared.view.TurnState.{TurnState}
use Rattle.saber_ring.specs.declared.view.TurnState.TheVariants.{Open, TookPiece, TookMark, WonStopped, Leaving}

module _ {T R : Type 0} (is_told : T → ℕ → Type 0) (filled : T → R → T) (is_rows : T → ℕ → R → Type 0) (t : ℕ) (rows : R) where
  pub next_lead : (o : Option (Lead T)) → FillsNext is_told filled is_rows t rows o → (l : Lead T) × (o ≡ Some l) × (l.filled ≡ t) × is_rows (filled l.told rows) l.filled rows × is_told (filled l.told rows) (l.filled + 1)
  next_lead None h = absurd h
  next_lead (Some l) h = (l, refl, h.0, subst (λ (z : ℕ). is_rows (filled l.told rows) z rows) (sym h.0) h.1, subst (λ (z : ℕ). is_told (filled l.told rows) (z + 1)) (sym h.0) h.2)

module _ {T P : Type 0} (is_piece : T → ℕ → P → Type 0) (t : ℕ) where
  pub its_job : (piece : Option P) (o : Option (HeldTask T)) → MayDeposit is_piece t piece o → (x : HeldTask T) × (o ≡ Some x) × (x.task ≡ t) × IsPieceOrMark is_piece x.told t piece
  its_job piece None h = absurd h
  its_job piece (Some x) h = (x, refl, h.0, h.1)

  pub its_piece : (piece : Option P) (p : P) (o : Option (HeldTask T)) → piece ≡ Some p → MayDeposit is_piece t piece o → (x : HeldTask T) × (o ≡ Some x) × (x.task ≡ t) × is_piece x.told t p
  its_piece piece p o is h = its_job (Some p) o (subst (λ (z : Option P). MayDeposit is_piece t z o) is h)

module _ {T S : Type 0} (is_stage : T → ℕ → Bool → S → Type 0) (k : ℕ) (state : TurnState) (stage : S) where
  pub set_turn : (o : Option (HeldTurn T)) → SetsDown is_stage k state stage o → (h : HeldTurn T) × (o ≡ Some h) × (turn_word k (free (is_stopped state)) ≡ turn_word h.behind (free (is_stopped h.state))) × (h.state ≡ state) × is_stage h.told h.behind (is_stopped h.state) stage × (h.behind ≡ k)
  set_turn None d = absurd d
  set_turn (Some h) d = (h, refl, (λ i. turn_word (sym d.0 i) (free (is_stopped (sym d.1 i)))), d.1, subst (λ (z : ℕ × TurnState). is_stage h.told z.0 (is_stopped z.1) stage) (λ i. (sym d.0 i, sym d.1 i)) d.2, d.0)

pub its_turn : {T : Type 0} (k : ℕ) (state : TurnState) (o : Option (HeldTurn T)) → HoldsTurn k state o → (h : HeldTurn T) × (o ≡ Some h) × (h.behind ≡ k) × (h.state ≡ state)
its_turn k state None d = absurd d
its_turn k state (Some h) d = (h, refl, d.0, d.1)

-- a piece that isn't there for the last seat was not claimed
pub none_claimed : {T : Type 0} (k : ℕ) (state : TurnState) (v : View T) (word : ℕ) → HoldsTurn k state v.turn → FindsDone v word → live v.base ≡ 1 → word ≢ 8 * k + 4 → word ≢ 8 * k + 6 → NoneClaimed k state v
none_claimed k state v word has finds alive no_piece no_mark l lead out no_job opened =
    let h = its_turn k state v.turn has in let same = h.2 in dite (ℕ_discrete (times (Claim k) v.own) 0) (λ e. e)
    (λ ne. absurd (⊎_elim (λ e. no_piece (omega arith)) (λ e. no_mark (omega arith)) (finds l h.0 lead out no_job alive h.1 (h.3 ∙ opened) (λ z. ne (ap (λ (y : ℕ). times (Claim y) v.own) (sym h.2) ∙ z)))))

pub none_deposited : {T : Type 0} (k : ℕ) (state : TurnState) (v : View T) (word : ℕ) → HoldsTurn k state v.turn → FindsDeposit v word → live v.base ≡ 1 → word ≢ 8 * k + 4 → word ≢ 8 * k + 6 → NoneDeposited k state v
none_deposited k state v word has finds alive no_piece no_mark l m lead out opened =
    let h = its_turn k state v.turn has in dite (ℕ_discrete (times (Deposit k m) v.own) 0) (λ e. e)
    (λ ne. absurd (refused m (finds l h.0 m lead out alive h.1 (h.3 ∙ opened) (λ z. ne (ap (λ (y : ℕ). times (Deposit y m) v.own) (sym h.2) ∙ z)) ∙ ap (λ (y : ℕ). 8 * y + number_of (done m)) h.2)))
  where
    refused : (m : Bool) → word ≡ 8 * k + number_of (done m) → ⊥
    refused false e = no_piece e
    refused true e = no_mark e

module _ {T R P S : Type 0} where
  pub piece_home : (upto : T → ℕ → T) (is_rows : T → ℕ → R → Type 0) (is_piece : T → ℕ → P → Type 0) (is_stage : T → ℕ → Bool → S → Type 0) (x : HeldTask T) (p : P) (t : ℕ) → x.task ≡ t → is_piece x.told t p
      → (told : T) → upto told (x.task + 1) ≡ x.told → AtHome upto is_rows is_piece is_stage told (some (some (Piece p))) x.task (done false)
  piece_home upto is_rows is_piece is_stage x p t is h told e = (p, refl, subst (λ (z : T × ℕ). is_piece z.0 z.1 p) (λ k. (sym e k, sym is k)) h)

  -- where the seat is after a deposit
  pub deposit_done : (m₀ m₂ m₃ : Me (SlotValue R P S) (View T)) (x : HeldTask T) (i n t : ℕ) (mark : Bool) (y : SlotValue R P S) → m₀.0.job ≡ Some x → x.task ≡ t → m₂.0 ≡ m₀.0 → m₂.1 ≡ (i, y) ∷ []
      → ((x' : HeldTask T) → m₂.0.job ≡ Some x' → m₃ ≡ (without_job m₂.0 i n x'.task mark, rest m₂.1)) → m₃ ≡ (without_job m₀.0 i n t mark, [])
  deposit_done m₀ m₂ m₃ x i n t mark y job is same has three =
      three x (ap (λ (v : View T). v.job) same ∙ job) ∙ (λ k. (without_job (same k) i n (is k) mark, ap rest has k))

  pub none_carried : (m₀ m₃ : Me (SlotValue R P S) (View T)) (n i w t : ℕ) (mark : Bool) → m₀.0.block ≡ None → m₀.0.turn ≡ None → m₃ ≡ (without_job m₀.0 i w t mark, []) → m₃.1 ≡ out_of n m₃.0
  none_carried m₀ m₃ n i w t mark block turn is = ap (λ (m : Me (SlotValue R P S) (View T)). m.1) is ∙ sym (none_out n m₃.0 (ap (λ (m : Me (SlotValue R P S) (View T)). m.0.job) is) (ap (λ (m : Me (SlotValue R P S) (View T)). m.0.block) is ∙ block) (ap (λ (m : Me (SlotValue R P S) (View T)). m.0.turn) is ∙ turn))

  pub gave_carried : (m m' : Me (SlotValue R P S) (View T)) (n size i w : ℕ) (h : HeldTurn T) → n ≡ 2 * size + 1 → m.1 ≡ (i, Empty) ∷ (0, Empty) ∷ task_slots size m.0 → m' ≡ (went_on m.0 i w h, rest m.1) → m'.1 ≡ out_of (cells_of n) m'.0
  gave_carried m m' n size i w h wide out is = let e = half n size wide in
      subst (λ (z : Me (SlotValue R P S) (View T)). z.1 ≡ out_of (cells_of n) z.0) (sym is) ((λ k. rest (out k)) ∙ (λ k. (0, Empty) ∷ task_slots (sym e k) m.0))

module _ {T : Type 0} (size k : ℕ) (v v' : View T) (state : TurnState) where
  -- the turn was given up at once
  pub released_straight : (h : HeldTurn T) → v.turn ≡ Some h → v' ≡ without_turn v (turn_word k (free (is_stopped state))) h → state ≢ TookPiece → Releases size k v v' state
  released_straight h is now ne = go state ne (h, is, now)
    where
      go : (g : TurnState) → g ≢ TookPiece → (h : HeldTurn T) × (v.turn ≡ Some h) × (v' ≡ without_turn v (turn_word k (free (is_stopped g))) h) → Releases size k v v' g
      go Open ne r = r
      go TookPiece ne r = absurd (ne refl)
      go TookMark ne r = r
      go WonStopped ne r = r
      go Leaving ne r = r

  -- the turn was given up after the slot of the taken cell
  pub released_whole : (u : View T) (h h' : HeldTurn T) → v.turn ≡ Some h → u ≡ leaving v (k % size + 1) (8 * k + 5) h → u.turn ≡ Some h' → v' ≡ without_turn u (turn_word k (free true)) h' → h.state ≡ TookPiece → state ≡ TookPiece → Releases size k v v' state
  released_whole u h h' is left its now whole is_whole =
      let l : HeldTurn T = record h { state = Leaving } in let same : l ≡ h' = some_same l h' (sym (ap (λ (z : View T). z.turn) left) ∙ its) in
      let w : View T = looked v (k % size + 1) (8 * k + 5) in
      subst (Releases size k v v') (sym is_whole) (
        h,
        is,
        now ∙ (λ j. without_turn (left j) (turn_word k (free true)) (sym same j)) ∙ (λ j. record (looked w 0 (turn_word k (free true))) { turn = None; seen = h.behind; stopped = v.stopped || sym (ap is_stopped whole) j }),
      )

  pub released_seen : Releases size k v v' state → HoldsTurn k state v.turn → (v'.seen ≡ k) × (v'.stopped ≡ v.stopped || is_stopped state)
  released_seen r has = go state r has
    where
      told : (g : TurnState) (w : View T) (h : HeldTurn T) (n : ℕ) → v.turn ≡ Some h → w.stopped ≡ v.stopped → v' ≡ without_turn w n h → HoldsTurn k g v.turn → (v'.seen ≡ k) × (v'.stopped ≡ v.stopped || is_stopped g)
      told g w h n is same now has = let d = subst (HoldsTurn k g) is has in (ap (λ (z : View T). z.seen) now ∙ d.0, ap (λ (z : View T). z.stopped) now ∙ (λ i. same i || is_stopped (d.1 i)))

      go : (g : TurnState) → Releases size k v v' g → HoldsTurn k g v.turn → (v'.seen ≡ k) × (v'.stopped ≡ v.stopped || is_stopped g)
      go Open r has = told Open v r.0 _ r.1 refl r.2 has
      go TookPiece r has = told TookPiece (looked v (k % size + 1) (8 * k + 5)) r.0 _ r.1 refl r.2 has
      go TookMark r has = told TookMark v r.0 _ r.1 refl r.2 has
      go WonStopped r has = told WonStopped v r.0 _ r.1 refl r.2 has
      go Leaving r has = told Leaving v r.0 _ r.1 refl r.2 has

pub some_of : {A : Type 0} (o : Option A) → IsSome o → (x : A) × (o ≡ Some x)
some_of None h = cc
some_of (Some x) h = (x, refl)

module _ {T : Type 0} (upto : T → ℕ → T) (first : T → ℕ → ℕ) (t u : ℕ) where
  -- the job that needs the block
  pub needing_job : (o : Option (HeldTask T)) → NeedsBlock upto first t u o → (x : HeldTask T) × (o ≡ Some x) × (first_of_task upto first x.told x.task ≤ u) × (u ≤ x.task)
  needing_job None h = absurd h
  needing_job (Some x) h = (x, refl, subst (λ (z : ℕ). first_of_task upto first x.told z ≤ u) (sym h.0) h.1, (let e = h.0 in let l = h.2 in omega arith))

-- a seat without a job has no block out
pub none_lent : {T : Type 0} (block : Option ℕ) (job : Option (HeldTask T)) → is_lent block job ≡ true → job ≡ None → block ≡ None
none_lent None job e is = refl
none_lent (Some u) None e is = absurd cc
none_lent (Some u) (Some x) e is = absurd cc

pub lent_below : {T : Type 0} (u : ℕ) (x : HeldTask T) → is_lent (Some u) (Some x) ≡ true → u ≤ x.task
lent_below u x e = grind (arith, nat_tests)

pub below_lent : {T : Type 0} (u : ℕ) (x : HeldTask T) (job : Option (HeldTask T)) → job ≡ Some x → u ≤ x.task → is_lent (Some u) job ≡ true
below_lent u x job is le = let e : nat_lt u (x.task + 1) ≡ true = grind (arith, nat_tests) in ap (λ (o : Option (HeldTask _)). is_lent (Some u) o) is ∙ e

module _ {T R : Type 0} (upto : T → ℕ → T) (is_rows : T → ℕ → R → Type 0) (t u : ℕ) (rows : R) where
  -- the job of a seat that reads, and the rows that it owes
  pub owed : (job : Option (HeldTask T)) (block : Option ℕ) → HasJobOf t job → block ≡ Some u → HasRowsOut upto is_rows rows job block → is_lent block job ≡ true → (x : HeldTask T) × (job ≡ Some x) × (x.task ≡ t) × is_rows (upto x.told (u + 1)) u rows × (u ≤ x.task)
  owed None block has is out lent = absurd has
  owed (Some x) block has is out lent = (x, refl, has, subst (HasRowsOut upto is_rows rows (Some x)) is out, lent_below u x (ap (λ (o : Option ℕ). is_lent o (Some x)) (sym is) ∙ lent))

module _ {T R : Type 0} (is_told : T → ℕ → Type 0) (upto : T → ℕ → T) (first : T → ℕ → ℕ) (filled : T → R → T) (is_rows : T → ℕ → R → Type 0) (size t : ℕ) (rows : R) (seen : ℕ) where
  -- what the first seat may fill
  pub may_fill : (o : Option (Lead T)) → MayFill is_told upto first filled is_rows size t rows seen o
      → (l : Lead T) × (o ≡ Some l) × (l.filled ≡ t) × (l.fill ≡ Waiting) × is_rows (filled l.told rows) l.filled rows × is_told (filled l.told rows) (l.filled + 1) × (l.filled < first_of_task upto first l.told seen + size)
  may_fill None h = absurd h
  may_fill (Some l) h = (l, refl, h.0, h.1, subst (λ (z : ℕ). is_rows (filled l.told rows) z rows) (sym h.0) h.2, subst (λ (z : ℕ). is_told (filled l.told rows) (z + 1)) (sym h.0) h.3, subst (λ (z : ℕ). z < first_of_task upto first l.told seen + size) (sym h.0) h.4)

module _ {T : Type 0} (upto : T → ℕ → T) (first : T → ℕ → ℕ) (t : ℕ) (frees : Frees) (seen : ℕ) where
  pub covered : (o : Option (Lead T)) (l : Lead T) → o ≡ Some l → Covers upto first t frees seen o → (frees.base ≤ seen) × (t < frees.base + length frees.list.items) × ((k : ℕ) → frees.base ≤ k → k ≤ t → slice_index frees.list.items (k - frees.base) ≡ first_of_task upto first l.told k)
  covered o l is h = subst (Covers upto first t frees seen) is h

module _ {T R P S : Type 0} where
  -- where the seat is once the block is at home
  pub put_done : (filled : T → R → T) (m₀ m₁ m₂ m₃ : Me (SlotValue R P S) (View T)) (l : Lead T) (old i new : ℕ) (x : SlotValue R P S) (rows : R) → m₁ ≡ (led m₀.0 i old (begun l), (i, x) ∷ m₀.1) → m₂ ≡ (m₁.0, (i, Rows rows) ∷ rest m₁.1)
      → ((l' : Lead T) (r : R) → m₂.0.lead ≡ Some l' → m₂.1 ≡ (i, Rows r) ∷ rest m₂.1 → m₃ ≡ (led m₂.0 i new (stored l' (filled l'.told r)), rest m₂.1))
      → m₃ ≡ (led (led m₀.0 i old (begun l)) i new (stored l (filled l.told rows)), m₀.1)
  put_done filled m₀ m₁ m₂ m₃ l old i new x rows one two three =
      let e = three (begun l) rows (ap (λ (m : Me (SlotValue R P S) (View T)). m.0.lead) two ∙ ap (λ (m : Me (SlotValue R P S) (View T)). m.0.lead) one) (first_now m₁ m₂ m₁.0 i (Rows rows) (rest m₁.1) two) in
      let w : View T = led (led m₀.0 i old (begun l)) i new (stored l (filled l.told rows)) in
      let f : m₃ ≡ (w, rest m₂.1) = e ∙ (λ k. (led ((ap (λ (m : Me (SlotValue R P S) (View T)). m.0) two ∙ ap (λ (m : Me (SlotValue R P S) (View T)). m.0) one) k) i new (stored l (filled l.told rows)), rest m₂.1)) in
      there_and_back m₀ m₁ m₂ m₃ (led m₀.0 i old (begun l)) w i x (Rows rows) one two f

pub not_spare : {R P S : Type 0} (x : SlotValue R P S) (i j : ℕ) (y : SlotValue R P S) (xs ys : List (ℕ × SlotValue R P S)) → (i, x) ∷ xs ≡ (j, y) ∷ ys → IsSpare x → IsSpare y
not_spare x i j y xs ys e h = subst IsSpare (same_first i j x y xs ys e) h

module _ {T R P S : Type 0} where
  -- where the seat is after a fill
  pub fill_done : (filled : T → R → T) (size t word found n : ℕ) (m₀ m₁ m₂ m₃ m₄ : Me (SlotValue R P S) (View T)) (l l' : Lead T) (rows : R) → m₁ ≡ (looked m₀.0 (t % size + 1) found, m₀.1) → found ≡ 8 * t → m₂ ≡ (looked_turn m₁.0 word, m₁.1) → l' ≡ l
      → m₃ ≡ (led (led m₂.0 (t % size + 1 + size) (word_before size t) (begun l')) (t % size + 1 + size) (4 * t + 2) (stored l' (filled l'.told rows)), m₂.1) → m₄ ≡ (led m₃.0 (t % size + 1) n (more_filled (stored l' (filled l'.told rows)) (filled l'.told rows)), m₃.1) → n ≡ 8 * t
      → m₄ ≡ (after_fill size t word l (filled l.told rows) m₀.0, m₀.1)
  fill_done filled size t word found n m₀ m₁ m₂ m₃ m₄ l l' rows one f two s three four g =
      let e₁ : m₁ ≡ (looked m₀.0 (t % size + 1) (8 * t), m₀.1) = one ∙ (λ k. (looked m₀.0 (t % size + 1) (f k), m₀.1)) in
      let e₂ : m₂ ≡ (looked_turn (looked m₀.0 (t % size + 1) (8 * t)) word, m₀.1) = two ∙ (λ k. (looked_turn (e₁ k).0 word, (e₁ k).1)) in
      let w : View T = led (led (looked_turn (looked m₀.0 (t % size + 1) (8 * t)) word) (t % size + 1 + size) (word_before size t) (begun l)) (t % size + 1 + size) (4 * t + 2) (stored l (filled l.told rows)) in
      let e₃ : m₃ ≡ (w, m₀.1) = three ∙ (λ k. (led (led (e₂ k).0 (t % size + 1 + size) (word_before size t) (begun (s k))) (t % size + 1 + size) (4 * t + 2) (stored (s k) (filled (s k).told rows)), (e₂ k).1)) in
      four ∙ (λ k. (led (e₃ k).0 (t % size + 1) (g k) (more_filled (s k) (filled (s k).told rows)), (e₃ k).1))
