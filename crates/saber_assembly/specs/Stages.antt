-- Steps of the result stage, and what it keeps of each run.
use Rattle.std.specs.Prelude.{◌≡◌, ◌≢◌, ◌+◌, ◌⊎◌, ℕ, List, [], Option, IfSome}
use Rattle.saber_plan.specs.Outputs.{raised_count, appended_text, AppendsPrefix}
use Rattle.saber_plan.specs.Inputs.{Input, first_arrivals}
use Rattle.saber_plan.specs.Trees.{Tree}
use Rattle.saber_plan.specs.Answers.{text}
use Rattle.saber_plan.specs.Tasks.{Kept, task_start, kept_behind, added_text}
use Rattle.saber_fragment.specs.Stores.{CanTakeIn, OfArrivals, TakesIn}
use Rattle.saber_plan.specs.Stages.{StageView, Start, Tasks, Keeps}
use Rattle.saber_assembly.specs.declared.stage.Stage.{Stage}

-- a stage, seen so, by what its operator holds in a store, and by what its sink has written, its faults and its writes
abbrev pub stage_view : {S K : Type 0} → (S → Kept) → (K → Option (List ℕ)) → (K → ℕ) → (K → ℕ) → Stage S K → StageView
stage_view contents written faults writes s = record {
  written = written s.sink;
  faults = faults s.sink;
  writes = writes s.sink;
  kept = contents s.store;
  k = s.k;
  state = s.state;
}

-- the piece of task k, by what it is of
abbrev pub IsPieceAt : ℕ → Input → ℕ → (Input → ℕ → ℕ → Type 0) → Type 0
IsPieceAt n r k of = of r (task_start n r k) (task_start n r (k + 1))

-- the stage's sink holds nothing back, or its other end had no room for more
abbrev pub HasPoured : {S K : Type 0} → (K → List ℕ) → (K → Type 0) → Stage S K → Type 0
HasPoured backlog had_no_room s = (backlog s.sink ≡ []) ⊎ had_no_room s.sink

-- ---- a step of the stage, from s to t, by what its operator tells of stores and pieces

module _ {O S P : Type 0} (plan : O → Tree) (contents : S → Kept) (taken : O → S → Input → Type 0) (is_of : O → P → Input → ℕ → ℕ → Type 0) (op : O) where
  module _ {K : Type 0} where
    -- the piece follows what the store has taken in
    abbrev pub CanAbsorb : Stage S K → P → Type 0
    CanAbsorb s p = CanTakeIn (plan op) (contents s.store) (taken op s.store) (is_of op p)

    -- so it is with the piece's arrivals
    abbrev Arrive : Stage S K → P → (Input → ℕ → ℕ → Type 0) → Type 0
    Arrive s p P = OfArrivals (plan op) (contents s.store) (taken op s.store) (is_of op p) P

    -- what the piece adds to the text went out
    abbrev pub AddsText : (K → Option (List ℕ)) → Stage S K → Stage S K → P → Type 0
    AddsText written s t p = Arrive s p (λ r x y. written t.sink ≡ appended_text (written s.sink) (added_text (plan op) r x y))

    -- a prefix of it did
    abbrev pub AddsFront : (K → Option (List ℕ)) → Stage S K → Stage S K → P → Type 0
    AddsFront written s t p = Arrive s p (λ r x y. AppendsPrefix (written s.sink) (written t.sink) (added_text (plan op) r x y))

    -- where the piece adds some text, there was one write more
    abbrev pub WritesOnce : (K → ℕ) → Stage S K → Stage S K → P → Type 0
    WritesOnce writes s t p = Arrive s p (λ r x y. added_text (plan op) r x y ≢ [] → writes t.sink ≡ raised_count (writes s.sink))

    -- where it adds none, there was none
    abbrev pub WritesNone : (K → ℕ) → Stage S K → Stage S K → P → Type 0
    WritesNone writes s t p = Arrive s p (λ r x y. added_text (plan op) r x y ≡ [] → writes t.sink ≡ writes s.sink)

    -- what is to be kept behind the piece is kept
    abbrev pub LeavesKept : Stage S K → Stage S K → P → Type 0
    LeavesKept s t p = Arrive s p (λ r x y. contents t.store ≡ kept_behind (plan op) (first_arrivals r y))

    -- all up to the end of the piece is taken in then
    abbrev pub TakesPiece : Stage S K → Stage S K → P → Type 0
    TakesPiece s t p = TakesIn (plan op) (contents s.store) (taken op s.store) (is_of op p) (taken op t.store)

module _ {O S K : Type 0} (plan : O → Tree) (contents : S → Kept) (taken : O → S → Input → Type 0) (written : K → Option (List ℕ)) (faults writes : K → ℕ) (op : O) where
  -- what a stage keeps of a run
  abbrev pub KeepsRun : ℕ → Input → Start → Stage S K → Type 0
  KeepsRun n r start s = Keeps (plan op) n r start (taken op s.store) (stage_view contents written faults writes s)

  -- of each run over the sink it keeps what stands before the first task
  abbrev pub BeginsRuns : K → Stage S K → Type 0
  BeginsRuns sink s = (n : ℕ) (r : Input) → Tasks (plan op) n r → KeepsRun n r (record { written = written sink; faults = faults sink; writes = writes sink }) s

  -- given the piece of the next task, it keeps what it should of each run of which it did
  abbrev pub KeepsRuns : {P : Type 0} → (O → P → Input → ℕ → ℕ → Type 0) → Stage S K → Option P → Stage S K → Type 0
  KeepsRuns is_of s piece t =
      (n : ℕ) (r : Input) (start : Start) → Tasks (plan op) n r → KeepsRun n r start s
      → IfSome piece (λ p. IsPieceAt n r s.k (is_of op p)) → KeepsRun n r start t
