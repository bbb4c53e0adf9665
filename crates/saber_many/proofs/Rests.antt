-- The ring of several queries whose turn is free.
use Rattle.std.proofs.Common.{◌≡◌, ◌≢◌, ◌⊎◌, ◌≤◌, ◌<◌, ℕ, ◌+◌, ◌%◌, inl, inr, ⊎_elim, zero, suc, Bool, true, false, List, [], ◌∷◌, get_or, refl, sym, ◌∙◌, ap, subst, arith}
use mathlib.Core.Option.{some, some-injective, some-ne-none}
use lib.ListN.{get_elem?}
use Rattle.std.specs.Prelude.{Option, Some, Vec, map}
use Rattle.std.specs.List.{AllByRecursion, AllZip}
use Rattle.std.specs.declared.alloc.Global.{Global}
use Rattle.std.specs.declared.collections.VecDeque.{VecDeque}
use Rattle.saber_core.specs.Works.{IsPieceOrMark}
use Rattle.saber_plan.specs.Inputs.{Input}
use Rattle.saber_plan.specs.Trees.{Tree}
use Rattle.saber_plan.specs.Tasks.{Kept}
use Rattle.saber_plan.specs.Needs.{free}
use Rattle.saber_plan.specs.declared.stages.StageState.TheVariants.{Running}
use Rattle.saber_fragment.specs.declared.blocks.Block.{Block}
use Rattle.saber_ring.specs.Shows.{RingState, turn_word, extra, first_of_task, start}
use Rattle.saber_ring.specs.Shows as ring
use Rattle.saber_ring.specs.Laws.{IsWhole, NeedsAreWhole}
use Rattle.saber_ring.specs.Opening.{IsOpen, first_values}
use Rattle.saber_ring.proofs.Openings.{opens}
use Rattle.saber_ring.proofs.Readers.{needs_are_whole}
use Rattle.saber_assembly.specs.declared.stage.Stage.{Stage}
use Rattle.saber_assembly.specs.declared.work.RunData.{RunData}
use Rattle.saber_assembly.specs.Stages.{stage_view}
use Rattle.saber_assembly.specs.Works.{input_of, first_tasks, first_needed, IsTold, IsBlockOf, IsPieceOf, IsStageOf}
use Rattle.saber_assembly.specs.WorkLaws.{first_rows, needed_rises, tasks_whole}
use Rattle.saber_workers.specs.Free.{IsToDo, IsHandedIn, IsTaken, HasOut}
use Rattle.saber_workers.proofs.FreeTurns.{AtRest, IsUnderWay, runs_out, stops_out, all_under_way}
use Rattle.saber_workers.proofs.FreeTurns as turns
use Rattle.saber_workers.proofs.LookBacks.{block_stays}
use Rattle.saber_many.specs.declared.member.Member.{Member}
use Rattle.saber_many.specs.Sharing.{ArePieces, RowsAt, StoppedAt, GoesBy, MemberAt, StopsBy}
use Rattle.saber_many.specs.SharingLaws.{all_rise, all_whole}
use Rattle.saber_many.specs.Labors.{all_upto, each_first}
use Rattle.saber_many.specs.Queries.{IsAlone, by_alone, own_needed, first_fronts}
use Rattle.saber_many.specs.Free.{AreToldOf, AreRowsOf, ArePiecesOf, AreStagesOf, SharedTable, KeepsSharedRule, AreOwnWhole, IsOwnPiece, IsOut, EachIsOut}

-- ---- at a place of a list

at_zip : {A B : Type 0} (R : A → B → Type 0) (xs : List A) (ys : List B) (j : ℕ) (x : A) → AllZip R xs ys → get_elem? xs j ≡ some x → (y : B) × (get_elem? ys j ≡ some y) × R x y
at_zip R [] [] j x h e = absurd (some-ne-none x (sym e))
at_zip R [] (y ∷ ys) j x h e = absurd h
at_zip R (z ∷ xs) [] j x h e = absurd h
at_zip R (z ∷ xs) (y ∷ ys) zero x h e = (y, refl, subst (λ w. R w y) (some-injective z x e) h.0)
at_zip R (z ∷ xs) (y ∷ ys) (suc j) x h e = at_zip R xs ys j x h.1 e

at_all : {A : Type 0} (R : A → Type 0) (xs : List A) (j : ℕ) (x : A) → AllByRecursion R xs → get_elem? xs j ≡ some x → R x
at_all R [] j x h e = absurd (some-ne-none x (sym e))
at_all R (z ∷ xs) zero x h e = subst R (some-injective z x e) h.0
at_all R (z ∷ xs) (suc j) x h e = at_all R xs j x h.1 e

at_upto : {T : Type 0} (upto : T → ℕ → T) (xs : List T) (k j : ℕ) (x : T) → get_elem? xs j ≡ some x → get_elem? (all_upto upto xs k) j ≡ some (upto x k)
at_upto upto [] k j x e = absurd (some-ne-none x (sym e))
at_upto upto (z ∷ xs) k zero x e = ap (λ w. some (upto w k)) (some-injective z x e)
at_upto upto (z ∷ xs) k (suc j) x e = at_upto upto xs k j x e

at_piece : {T P : Type 0} (is_piece : T → ℕ → P → Type 0) (told : List T) (pieces : List (Option P)) (j t : ℕ) (x : T) (p : P) → ArePieces is_piece told t pieces → get_elem? told j ≡ some x
    → get_elem? pieces j ≡ some (Some p) → is_piece x t p
at_piece is_piece told [] j t x p h e f = absurd (some-ne-none (Some p) (sym f))
at_piece is_piece [] (o ∷ os) j t x p h e f = absurd (some-ne-none x (sym e))
at_piece is_piece (y ∷ ys) (o ∷ os) zero t x p h e f =
    subst (λ z. is_piece z t p) (some-injective y x e) (subst (IsPieceOrMark is_piece y t) (some-injective o (Some p) f) h.0)
at_piece is_piece (y ∷ ys) (o ∷ os) (suc j) t x p h e f = at_piece is_piece ys os j t x p h.1 e f

not_true : true ≡ false → ⊥
not_true e = cc

none_more : (k : ℕ) → k + 0 ≡ k
none_more k = omega arith

no_more : (j k : ℕ) → j + 1 ≤ k → j + 1 ≤ k + 0
no_more j k le = omega (arith, le)

module _ {O P S K : Type 0} (plan : O → Tree) (is_of : O → P → Input → ℕ → ℕ → Type 0) (contents : S → Kept) (taken : O → S → Input → Type 0)
    (written : K → Option (List ℕ)) (faults writes : K → ℕ) where
  abbrev StageAt : RunData O → ℕ → Bool → Stage S K → Type 0
  StageAt = IsStageOf plan (stage_view contents written faults writes) taken

  abbrev ToldOf : List (RunData O) → ℕ → Type 0
  ToldOf = AreToldOf plan is_of contents taken written faults writes

  abbrev RowsOf : List (RunData O) → ℕ → Vec Block Global → Type 0
  RowsOf = AreRowsOf plan is_of contents taken written faults writes

  abbrev PiecesOf : List (RunData O) → ℕ → VecDeque (Option P) Global → Type 0
  PiecesOf = ArePiecesOf plan is_of contents taken written faults writes

  abbrev StagesOf : List (RunData O) → ℕ → Bool → Vec (Member (Stage S K)) Global → Type 0
  StagesOf = AreStagesOf plan is_of contents taken written faults writes

  -- ---- the stage of one query

  -- one that stopped, at one of the first m tasks
  stopped_out : (t : RunData O) (m : ℕ) (st : Stage S K) → StoppedAt first_tasks StageAt (first_tasks t m) m st
      → (st.state ≢ Running) × (st.k + 1 ≤ m) × HasOut plan contents written faults writes t st.k st
  stopped_out t m st is =
      let front : is.front ≡ first_tasks t (is.behind + 1) =
      ⊎_elim
      (λ (e : (is.behind + 1 ≡ m) × (is.front ≡ first_tasks t m)). e.1 ∙ ap (first_tasks t) (sym e.0))
      (λ (e : (is.behind + 1 ≤ m) × (is.front ≡ first_tasks (first_tasks t m) (is.behind + 1))). e.1 ∙ first_fronts t m (is.behind + 1) e.0)
      is.front_is in
      let low : is.behind + 1 ≤ m =
      ⊎_elim
      (λ (e : (is.behind + 1 ≡ m) × (is.front ≡ first_tasks t m)). let at = e.0 in omega (arith, at))
      (λ (e : (is.behind + 1 ≤ m) × (is.front ≡ first_tasks (first_tasks t m) (is.behind + 1))). e.0)
      is.front_is in
      let at : StageAt (first_tasks t (is.behind + 1)) is.behind true st = subst (λ z. StageAt z is.behind true st) front is.stage_is in (
        at.stops refl,
        subst (λ k. k + 1 ≤ m) (sym at.behind) low,
        subst (λ k. HasOut plan contents written faults writes t k st) (sym at.behind) (stops_out plan contents taken written faults writes t is.behind st at),
      )

  -- what is said of it
  abbrev Stands : RunData O → ℕ → Bool → Bool → Stage S K → Type 0
  Stands t k halted goes st =
      (goes ≡ true → (st.state ≡ Running) × (st.k ≡ k)) × (goes ≡ false → (st.state ≢ Running) × (st.k + 1 ≤ k + extra halted))
      × HasOut plan contents written faults writes t st.k st

  by_goes : (t : RunData O) (k : ℕ) (goes : Bool) (st : Stage S K) → GoesBy first_tasks StageAt goes (first_tasks t k) k st → Stands t k false goes st
  by_goes t k true st is =
      (λ e. (is.runs refl, is.behind), λ e. absurd (not_true e), subst (λ j. HasOut plan contents written faults writes t j st) (sym is.behind) (runs_out plan contents taken written faults writes t k st is))
  by_goes t k false st is = let x = stopped_out t k st is in (λ e. absurd (not_true (sym e)), λ e. (x.0, no_more st.k k x.1), x.2)

  by_stop : (t : RunData O) (k : ℕ) (st : Stage S K) → StoppedAt first_tasks StageAt (first_tasks t (k + 1)) (k + 1) st → Stands t k true false st
  by_stop t k st is = let x = stopped_out t (k + 1) st is in (λ e. absurd (not_true (sym e)), λ e. (x.0, x.1), x.2)

  -- the member of a query, among those at home
  abbrev Has : Bool → ℕ → ℕ → RunData O → List (Member (Stage S K)) → Type 0
  Has halted k j t members = (m : Member (Stage S K)) × (get_elem? members j ≡ some m) × Stands t k halted m.goes m.stage × (halted ≡ true → m.goes ≡ false)

  member_of : (told : List (RunData O)) (k : ℕ) (halted : Bool) (stages : Vec (Member (Stage S K)) Global) → StagesOf (all_upto first_tasks told (k + extra halted)) k halted stages
      → (j : ℕ) (t : RunData O) → get_elem? told j ≡ some t → Has halted k j t stages.items
  member_of told k false stages are j t at =
      let z = at_zip (MemberAt first_tasks StageAt k) (all_upto first_tasks told (k + extra false)) stages.items j (first_tasks t (k + extra false)) are (at_upto first_tasks told (k + extra false) j t at) in
      let is : MemberAt first_tasks StageAt k (first_tasks t k) z.0 = subst (λ d. MemberAt first_tasks StageAt k (first_tasks t d) z.0) (none_more k) z.2 in
      (z.0, z.1, by_goes t k z.0.goes z.0.stage is, λ e. absurd (not_true (sym e)))
  member_of told k true stages are j t at =
      let z = at_zip (StopsBy first_tasks StageAt (k + 1)) (all_upto first_tasks told (k + extra true)) stages.items j (first_tasks t (k + extra true)) are (at_upto first_tasks told (k + extra true) j t at) in
      (z.0, z.1, subst (λ g. Stands t k true g z.0.stage) (sym z.2.0) (by_stop t k z.0.stage z.2.1), λ e. z.2.0)

  -- ---- the ring

  -- the first task that each needs is its own
  own_each : (told : List (RunData O)) (d t : ℕ) → ToldOf told d → each_first (first_needed plan) (all_upto first_tasks told t) t ≡ t
  own_each [] d t h = refl
  own_each (x ∷ xs) d t h = own_needed plan x t h.0.1

  rises : (told : List (RunData O)) (d j k : ℕ) → ToldOf told d → j ≤ k → k ≤ d
      → each_first (first_needed plan) (all_upto first_tasks told j) j ≤ each_first (first_needed plan) (all_upto first_tasks told k) k
  rises told d j k was low high = all_rise (IsTold plan) (IsAlone plan) first_tasks (first_needed plan) (needed_rises plan) told d j k was low high

  -- what the ring says of the blocks in need
  rows_whole : NeedsAreWhole ToldOf (all_upto first_tasks) (each_first (first_needed plan)) RowsOf PiecesOf StagesOf
  rows_whole m = needs_are_whole ToldOf (all_upto first_tasks) (each_first (first_needed plan)) RowsOf PiecesOf StagesOf m rises

  module _ (size : ℕ) (s : SharedTable plan is_of contents taken written faults writes) (b : RingState (List (RunData O))) (sh : KeepsSharedRule plan is_of contents taken written faults writes size s b) where
    abbrev Rest : Type 0
    Rest = AtRest ToldOf (all_upto first_tasks) (each_first (first_needed plan)) RowsOf PiecesOf StagesOf size s b

    first_is : (t : ℕ) → first_of_task (all_upto first_tasks) (each_first (first_needed plan)) b.told t ≡ t
    first_is t = own_each b.told b.filled t sh.shape.told

    module _ (j : ℕ) (t : RunData O) (at : get_elem? b.told j ≡ some t) where
      alone : IsAlone plan t
      alone = (at_all _ b.told j t sh.shape.told at).1

      own_free : (k : ℕ) → free (plan t.operator) t.size (input_of t) k ≡ k
      own_free k = by_alone (plan t.operator).shape k _ alone

      -- the blocks of all, in the words of the query
      block_whole : (u : ℕ) → IsWhole ToldOf (all_upto first_tasks) (each_first (first_needed plan)) RowsOf PiecesOf StagesOf size s b u
          → AreOwnWhole plan is_of contents taken written faults writes size s b j t u
      block_whole u (inl home) =
          let z = at_zip (RowsAt (IsBlockOf plan) (IsAlone plan) u) (all_upto first_tasks b.told (u + 1)) home.1.0.items j (first_tasks t (u + 1)) home.1.2.1 (at_upto first_tasks b.told (u + 1) j t at) in
          inl (record {
            word = home.0;
            rows = home.1.0;
            in_place = home.1.1;
            own = record { block = z.0; in_place = z.1; rows = block_stays plan t u z.0 z.2.0 };
          })
      block_whole u (inr one) = inr one

      blocks : (u : ℕ) → free (plan t.operator) t.size (input_of t) b.assembled ≤ u → u < b.filled → AreOwnWhole plan is_of contents taken written faults writes size s b j t u
      blocks u low high = block_whole u ((rows_whole size s b sh).1 u (subst (λ z. z ≤ u) (own_free b.assembled ∙ sym (first_is b.assembled)) low, high))

      tasks : (v u : ℕ) → b.assembled ≤ v → v < b.filled → free (plan t.operator) t.size (input_of t) v ≤ u → u ≤ v → AreOwnWhole plan is_of contents taken written faults writes size s b j t u
      tasks v u from under low high = block_whole u ((rows_whole size s b sh).2 v u from under (subst (λ z. z ≤ u) (own_free v ∙ sym (first_is v)) low) high)

      -- a task that isn't assembled
      cell : (halted : Bool) (v : ℕ) → IsUnderWay ToldOf (all_upto first_tasks) (each_first (first_needed plan)) RowsOf PiecesOf StagesOf size s b halted v
          → IsToDo size s.words s.homes v ⊎ (IsHandedIn size s.words s.homes v (IsOwnPiece plan is_of contents taken written faults writes size s b j t v) ⊎ ((v ≡ b.assembled) × (halted ≡ true) × IsTaken size s.words s.homes v))
      cell halted v (inl to_do) = inl to_do
      cell halted v (inr (inl (inl has))) =
          inr (inl (inl (record {
            word = has.word;
            piece = has.piece;
            in_place = has.in_place;
            own = λ p is. at_piece (IsPieceOf plan is_of) (all_upto first_tasks b.told (v + 1)) has.piece.items j v (first_tasks t (v + 1)) p has.own (at_upto first_tasks b.told (v + 1) j t at) is;
          })))
      cell halted v (inr (inl (inr mark))) = inr (inl (inr mark))
      cell halted v (inr (inr was)) = inr (inr was)

      is_out : (rest : Rest) → IsOut plan is_of contents taken written faults writes size s b j t b.assembled rest.halted rest.stage
      is_out rest =
          let m = member_of b.told b.assembled rest.halted rest.stage rest.stage_is j t at in
          record {
            member = m.0;
            in_place = m.1;
            goes = m.2.0;
            stops = m.2.1;
            halts = m.3;
            out = m.2.2;
            of_input = λ i low. first_rows plan t b.filled i (at_all _ b.told j t sh.shape.told at).0 low;
            blocks = blocks;
            tasks = tasks;
            cells = λ v low high. cell rest.halted v (all_under_way ToldOf (all_upto first_tasks) (each_first (first_needed plan)) RowsOf PiecesOf StagesOf size s b sh rest v low high);
          }

    pub at_rest : get_or s.words 0 0 % 2 ≡ 0 → EachIsOut plan is_of contents taken written faults writes size s b b.assembled
    at_rest even =
        let rest : Rest = turns.at_rest ToldOf (all_upto first_tasks) (each_first (first_needed plan)) RowsOf PiecesOf StagesOf size s b sh even in
        record {
          shown = rest.shown;
          stages = rest.stage;
          at_home = rest.at_home;
          halted = rest.halted;
          runs = λ e. rest.word ∙ ap (λ y. turn_word b.assembled (ring.free y)) e;
          stops = λ e. rest.word ∙ ap (λ y. turn_word b.assembled (ring.free y)) e;
          each = λ j t at. is_out j t at rest;
        }

  -- the law speaks of some ring: a new one keeps the rule, and its turn is free
  pub new_one : (size : ℕ) (told : List (RunData O)) (words : List ℕ) (stages : Vec (Member (Stage S K)) Global) → 0 < size → size ≤ 1024 → ToldOf told 0 → StagesOf told 0 false stages → IsOpen size words
      → (b : RingState (List (RunData O))) × KeepsSharedRule plan is_of contents taken written faults writes size (record { words = words; homes = map some (first_values size stages); views = start told ∷ [] }) b × (get_or words 0 0 % 2 ≡ 0)
  new_one size told words stages some_cell few known runs is_open =
      let new = opens ToldOf (all_upto first_tasks) (each_first (first_needed plan)) RowsOf PiecesOf StagesOf (all_whole (IsTold plan) (IsAlone plan) first_tasks (tasks_whole plan)) size told words (first_values size stages) stages some_cell few known runs is_open refl in
      (new.0, new.1, ap (λ n. n % 2) is_open.1)
