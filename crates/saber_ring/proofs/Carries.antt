-- The slots that a seat has, through a call.
use Rattle.std.proofs.Common.{◌≡◌, ℕ, ◌+◌, ◌*◌, ◌%◌, List, [], ◌∷◌, sym, ap, ◌∙◌, subst, arith}
use Rattle.std.specs.Prelude.{None, Some}
use Rattle.atomic_table.specs.Table.{Me, rest}
use Rattle.atomic_table.specs.Seated.{TableId}
use Rattle.saber_ring.specs.declared.view.SlotValue.{SlotValue}
use Rattle.saber_ring.specs.declared.view.SlotValue.TheVariants.{Empty, Rows}
use Rattle.saber_ring.specs.declared.view.View.{View}
use Rattle.saber_ring.specs.declared.view.HeldTask.{HeldTask}
use Rattle.saber_ring.specs.declared.view.HeldTurn.{HeldTurn}
use Rattle.saber_ring.specs.Seats.{cells_of, job_slots, block_slots, state_slots, turn_slots, task_slots, out_of}
use Rattle.saber_ring.specs.declared.view.TurnState.TheVariants.{TookPiece}

pub half : (n size : ℕ) → n ≡ 2 * size + 1 → cells_of n ≡ size
half n size is = omega arith

module _ {R P S : Type 0} where
  pub same_first : (i j : ℕ) (x y : SlotValue R P S) (xs ys : List (ℕ × SlotValue R P S)) → (i, x) ∷ xs ≡ (j, y) ∷ ys → x ≡ y
  same_first i j x y xs ys e = ap (λ l. first x l) e
    where
      first : SlotValue R P S → List (ℕ × SlotValue R P S) → SlotValue R P S
      first d [] = d
      first d (z ∷ zs) = z.1

  pub rows_same : (i j : ℕ) (r q : R) (xs ys : List (ℕ × SlotValue R P S)) → (i, Rows r) ∷ xs ≡ (j, Rows q) ∷ ys → r ≡ q
  rows_same i j r q xs ys e = let a : SlotValue R P S = Rows r in let b : SlotValue R P S = Rows q in let f : a ≡ b = same_first i j a b xs ys e in cc

  pub rows_moved : (F : R → Type 0) (r q : R) (x : SlotValue R P S) → x ≡ Rows r → x ≡ Rows q → F r → F q
  rows_moved F r q x a b h = let same : r ≡ q = cc in subst F same h

module _ {T R P S : Type 0} (m m' : Me (SlotValue R P S) (View T)) (z z' : TableId) (same : z' ≡ z) where
  -- a step that takes and gives nothing, and leaves the job and the turn
  pub carried_still : (w : View T) → m' ≡ (w, m.1) → w.job ≡ m.0.job → w.block ≡ m.0.block → w.turn ≡ m.0.turn → m.1 ≡ out_of (cells_of z.slots) m.0 → m'.1 ≡ out_of (cells_of z'.slots) m'.0
  carried_still w is job block turn old = ap (λ (y : Me (SlotValue R P S) (View T)). y.1) is ∙ old
      ∙ (λ i. turn_slots (cells_of (sym same i).slots) (((λ k. sym turn k) ∙ (λ k. (sym is k).0.turn)) i) (block_slots (cells_of (sym same i).slots) (((λ k. sym block k) ∙ (λ k. (sym is k).0.block)) i) (job_slots (cells_of (sym same i).slots) (((λ k. sym job k) ∙ (λ k. (sym is k).0.job)) i))))

  -- the slot that a step took is the first
  pub took_first : (w : View T) (i : ℕ) (x : SlotValue R P S) → m' ≡ (w, (i, x) ∷ m.1) → (old : SlotValue R P S) × (m'.1 ≡ (i, old) ∷ rest m'.1)
  took_first w i x is = let e = ap (λ (y : Me (SlotValue R P S) (View T)). y.1) is in (x, e ∙ (λ k. (i, x) ∷ sym (ap rest e) k))

module _ {T R P S : Type 0} where
  -- a value comes out of the slot that a step took
  pub rest_is : (m m' : Me (SlotValue R P S) (View T)) (w : View T) (i : ℕ) (x : SlotValue R P S) → m' ≡ (w, (i, x) ∷ m.1) → rest m'.1 ≡ m.1
  rest_is m m' w i x is = ap (λ (y : Me (SlotValue R P S) (View T)). rest y.1) is

  pub none_out : (n : ℕ) (v : View T) → v.job ≡ None → v.block ≡ None → v.turn ≡ None → out_of {R = R} {P = P} {S = S} n v ≡ []
  none_out n v job block turn = λ i. turn_slots n (turn i) (block_slots n (block i) (job_slots n (job i)))

  -- with a job, no block out, and no turn
  pub job_out : (n t i : ℕ) (v : View T) (x : HeldTask T) → v.job ≡ Some x → v.block ≡ None → v.turn ≡ None → x.task ≡ t → i ≡ t % n + 1 → out_of {R = R} {P = P} {S = S} n v ≡ (i, Empty) ∷ []
  job_out n t i v x job block turn is at = (λ k. turn_slots n (turn k) (block_slots n (block k) (job_slots n (job k)))) ∙ (λ k. (((ap (λ (u : ℕ). u % n + 1) is) ∙ sym at) k, Empty) ∷ [])

  -- the job's slot is out with the seat, and is empty
  pub job_claimed : (m m' : Me (SlotValue R P S) (View T)) (size t i : ℕ) (z : TableId) (x : HeldTask T) (w : View T) (n : ℕ) → z.slots ≡ 2 * size + 1 → i ≡ t % size + 1 → x.task ≡ t → w.job ≡ Some x → w.block ≡ None → w.turn ≡ None
      → m.0.job ≡ None → m.0.block ≡ None → m.0.turn ≡ None → m.1 ≡ out_of n m.0 → m' ≡ (w, (i, Empty) ∷ m.1) → m'.1 ≡ out_of (cells_of z.slots) m'.0
  job_claimed m m' size t i z x w n wide at is job block turn no_job no_block no_turn old now =
      let e = half z.slots size wide in
      ap (λ (y : Me (SlotValue R P S) (View T)). y.1) now ∙ (λ k. (i, Empty) ∷ (old ∙ none_out n m.0 no_job no_block no_turn) k)
      ∙ sym (job_out (cells_of z.slots) t i m'.0 x (ap (λ (y : Me (SlotValue R P S) (View T)). y.0.job) now ∙ job) (ap (λ (y : Me (SlotValue R P S) (View T)). y.0.block) now ∙ block) (ap (λ (y : Me (SlotValue R P S) (View T)). y.0.turn) now ∙ turn) is (at ∙ ap (λ (k : ℕ). t % k + 1) (sym e)))

  pub first_now : (m m' : Me (SlotValue R P S) (View T)) (v : View T) (i : ℕ) (y : SlotValue R P S) (cs : List (ℕ × SlotValue R P S)) → m' ≡ (v, (i, y) ∷ cs) → m'.1 ≡ (i, y) ∷ rest m'.1
  first_now m m' v i y cs is = let e = ap (λ (z : Me (SlotValue R P S) (View T)). z.1) is in e ∙ (λ k. (i, y) ∷ sym (ap rest e) k)

  -- a slot is taken, its value changes, and it goes back
  pub there_and_back : (m₀ m₁ m₂ m₃ : Me (SlotValue R P S) (View T)) (w₁ w₃ : View T) (i : ℕ) (x y : SlotValue R P S) → m₁ ≡ (w₁, (i, x) ∷ m₀.1) → m₂ ≡ (m₁.0, (i, y) ∷ rest m₁.1) → m₃ ≡ (w₃, rest m₂.1) → m₃ ≡ (w₃, m₀.1)
  there_and_back m₀ m₁ m₂ m₃ w₁ w₃ i x y one two three = three ∙ (λ k. (w₃, (ap (λ (z : Me (SlotValue R P S) (View T)). rest z.1) two ∙ rest_is m₀ m₁ w₁ i x one) k))

  pub job_first : (m : Me (SlotValue R P S) (View T)) (n size t i : ℕ) (x : HeldTask T) → n ≡ 2 * size + 1 → m.1 ≡ out_of (cells_of n) m.0 → m.0.job ≡ Some x → m.0.block ≡ None → m.0.turn ≡ None → x.task ≡ t → i ≡ t % size + 1 → m.1 ≡ (i, Empty) ∷ []
  job_first m n size t i x wide old job block turn is at = let e = half n size wide in old ∙ job_out (cells_of n) t i m.0 x job block turn is (at ∙ ap (λ (k : ℕ). t % k + 1) (sym e))

  pub turn_out : (m : Me (SlotValue R P S) (View T)) (n size : ℕ) (h : HeldTurn T) → n ≡ 2 * size + 1 → m.1 ≡ out_of (cells_of n) m.0 → m.0.turn ≡ Some h → m.1 ≡ state_slots (h.behind % size + 1) h.state (task_slots size m.0)
  turn_out m n size h wide old turn = let e = half n size wide in old ∙ (λ k. turn_slots (e k) (turn k) (task_slots (e k) m.0))

  pub whole_out : (m : Me (SlotValue R P S) (View T)) (n size i : ℕ) (h : HeldTurn T) → n ≡ 2 * size + 1 → m.1 ≡ out_of (cells_of n) m.0 → m.0.turn ≡ Some h → h.state ≡ TookPiece → i ≡ h.behind % size + 1 → m.1 ≡ (i, Empty) ∷ (0, Empty) ∷ task_slots size m.0
  whole_out m n size i h wide old turn state at = turn_out m n size h wide old turn ∙ (λ k. state_slots (sym at k) (state k) (task_slots size m.0))

  -- a block comes out for reading, and its rows out of its slot
  pub block_carried : (m₀ m₁ m₂ m₃ : Me (SlotValue R P S) (View T)) (size u i : ℕ) (z z' : TableId) (w : View T) (r : SlotValue R P S) → z.slots ≡ 2 * size + 1 → z' ≡ z → i ≡ u % size + 1 + size → w.job ≡ m₀.0.job → w.block ≡ Some u → w.turn ≡ m₀.0.turn
      → m₀.0.block ≡ None → m₀.0.turn ≡ None → m₀.1 ≡ out_of (cells_of z.slots) m₀.0 → m₁ ≡ (w, (i, r) ∷ m₀.1) → m₂ ≡ (m₁.0, (i, Empty) ∷ rest m₁.1) → m₃ ≡ m₂ → m₃.1 ≡ out_of (cells_of z'.slots) m₃.0
  block_carried m₀ m₁ m₂ m₃ size u i z z' w r wide same at job block turn no_block no_turn old one two three =
      let n : ℕ = cells_of z.slots in let e : n ≡ size = half z.slots size wide in let now : m₃ ≡ (w, (i, Empty) ∷ m₀.1) = three ∙ two ∙ (λ k. ((one k).0, (i, Empty) ∷ rest_is m₀ m₁ w i r one k)) in
      ap (λ (y : Me (SlotValue R P S) (View T)). y.1) now
      ∙ (λ k. (at k, Empty) ∷ (old ∙ (λ i. turn_slots n (no_turn i) (block_slots n (no_block i) (job_slots n m₀.0.job)))) k)
      ∙ (λ k. (u % sym e k + 1 + sym e k, Empty) ∷ job_slots n (sym job k))
      ∙ (λ k. turn_slots n (sym (turn ∙ no_turn) k) (block_slots n (sym block k) (job_slots n w.job)))
      ∙ (λ k. out_of (cells_of (sym same k).slots) (sym now k).0)
