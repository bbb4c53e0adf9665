-- The ring of a query whose turn is free.
use Rattle.std.proofs.Common.{◌≡◌, ◌≢◌, ◌⊎◌, ◌≤◌, ◌<◌, ℕ, ◌+◌, ◌%◌, inl, inr, Bool, true, false, List, get_or, refl, sym, ◌∙◌, ap, subst, le_refl, arith}
use mathlib.Core.Option.{some}
use Rattle.std.specs.Prelude.{Option, map, [], ◌∷◌}
use Rattle.saber_plan.specs.Inputs.{Input}
use Rattle.saber_plan.specs.Trees.{Tree}
use Rattle.saber_plan.specs.Tasks.{Kept}
use Rattle.saber_plan.specs.Needs.{free}
use Rattle.saber_laws.proofs.GrowLaws.{first_tell_free}
use Rattle.saber_ring.specs.Shows.{RingState, turn_word, extra, first_of_task, start}
use Rattle.saber_ring.specs.Shows as ring
use Rattle.saber_ring.specs.Laws.{IsWhole, NeedsAreWhole}
use Rattle.saber_ring.specs.Opening.{IsOpen, first_values}
use Rattle.saber_ring.proofs.Openings.{opens}
use Rattle.saber_ring.proofs.Readers.{needs_are_whole}
use Rattle.saber_assembly.specs.declared.stage.Stage.{Stage}
use Rattle.saber_plan.specs.declared.stages.StageState.TheVariants.{Running}
use Rattle.saber_assembly.specs.declared.work.RunData.{RunData}
use Rattle.saber_assembly.specs.Stages.{stage_view}
use Rattle.saber_assembly.specs.Works.{input_of, first_tasks, first_needed, IsTold, IsBlockOf, IsPieceOf, IsStageOf}
use Rattle.saber_assembly.specs.WorkLaws.{first_rows, needed_rises, tasks_whole}
use Rattle.saber_workers.specs.Free.{IsToDo, IsHandedIn, IsTaken, HasOut, QueryTable, KeepsRule, AreWhole, FirstAreOut}
use Rattle.saber_workers.proofs.FreeTurns.{AtRest, IsUnderWay, runs_out, stops_out}
use Rattle.saber_workers.proofs.FreeTurns as turns
use Rattle.saber_workers.proofs.LookBacks.{block_stays}

none_more : (k : ℕ) → k + 0 ≡ k
none_more k = omega arith

module _ {O P S K : Type 0} (plan : O → Tree) (is_of : O → P → Input → ℕ → ℕ → Type 0) (contents : S → Kept) (taken : O → S → Input → Type 0)
    (written : K → Option (List ℕ)) (faults writes : K → ℕ) (size : ℕ) (s : QueryTable plan is_of contents taken written faults writes) (b : RingState (RunData O)) (sh : KeepsRule plan is_of contents taken written faults writes size s b) where
  abbrev q : Tree
  q = plan b.told.operator

  abbrev n : ℕ
  n = b.told.size

  abbrev r : Input
  r = input_of b.told

  abbrev StageAt : RunData O → ℕ → Bool → Stage S K → Type 0
  StageAt = IsStageOf plan (stage_view contents written faults writes) taken

  -- what the ring says of the blocks in need
  rows_whole : NeedsAreWhole (IsTold plan) first_tasks (first_needed plan) (IsBlockOf plan) (IsPieceOf plan is_of) StageAt
  rows_whole m = needs_are_whole (IsTold plan) first_tasks (first_needed plan) (IsBlockOf plan) (IsPieceOf plan is_of) StageAt m (needed_rises plan)

  -- and of one of them, in the words of queries
  block_whole : (u : ℕ) → IsWhole (IsTold plan) first_tasks (first_needed plan) (IsBlockOf plan) (IsPieceOf plan is_of) StageAt size s b u
      → AreWhole plan is_of contents taken written faults writes size s b u
  block_whole u (inl home) =
      inl (record { word = home.0; rows = home.1.0; in_place = home.1.1; own = block_stays plan b.told u home.1.0 home.1.2 })
  block_whole u (inr one) = inr one

  first_is : (t : ℕ) → first_of_task first_tasks (first_needed plan) b.told t ≡ free q n r t
  first_is t = first_tell_free q n r t t (le_refl t)

  blocks : (u : ℕ) → free q n r b.assembled ≤ u → u < b.filled → AreWhole plan is_of contents taken written faults writes size s b u
  blocks u low high = block_whole u ((rows_whole size s b sh).1 u (subst (λ z. z ≤ u) (sym (first_is b.assembled)) low, high))

  tasks : (t u : ℕ) → b.assembled ≤ t → t < b.filled → free q n r t ≤ u → u ≤ t → AreWhole plan is_of contents taken written faults writes size s b u
  tasks t u from below low high = block_whole u ((rows_whole size s b sh).2 t u from below (subst (λ z. z ≤ u) (sym (first_is t)) low) high)

  abbrev Rest : Type 0
  Rest = AtRest (IsTold plan) first_tasks (first_needed plan) (IsBlockOf plan) (IsPieceOf plan is_of) StageAt size s b

  -- what the stage at home has out
  has_out : (y : Bool) (st : Stage S K) → StageAt (first_tasks b.told (b.assembled + extra y)) b.assembled y st → HasOut plan contents written faults writes b.told b.assembled st
  has_out false st has = runs_out plan contents taken written faults writes b.told b.assembled st (subst (λ d. StageAt (first_tasks b.told d) b.assembled false st) (none_more b.assembled) has)
  has_out true st has = stops_out plan contents taken written faults writes b.told b.assembled st has

  -- the word of the turn is that of a stage that runs, or of a stopped one
  word_runs : (y : Bool) (st : Stage S K) → StageAt (first_tasks b.told (b.assembled + extra y)) b.assembled y st → st.state ≡ Running → turn_word b.assembled (ring.free y) ≡ turn_word b.assembled (ring.free false)
  word_runs false st has run = refl
  word_runs true st has run = absurd (has.stops refl run)

  word_stops : (y : Bool) (st : Stage S K) → StageAt (first_tasks b.told (b.assembled + extra y)) b.assembled y st → st.state ≢ Running → turn_word b.assembled (ring.free y) ≡ turn_word b.assembled (ring.free true)
  word_stops false st has stop = absurd (stop (has.runs refl))
  word_stops true st has stop = refl

  -- a task that isn't assembled
  cell : (rest : Rest) (t : ℕ) → IsUnderWay (IsTold plan) first_tasks (first_needed plan) (IsBlockOf plan) (IsPieceOf plan is_of) StageAt size s b rest.halted t
      → IsToDo size s.words s.homes t ⊎ (IsHandedIn size s.words s.homes t (IsPieceOf plan is_of (first_tasks b.told (t + 1)) t) ⊎ ((t ≡ b.assembled) × (rest.stage.state ≢ Running) × IsTaken size s.words s.homes t))
  cell rest t (inl to_do) = inl to_do
  cell rest t (inr (inl handed_in)) = inr (inl handed_in)
  cell rest t (inr (inr was)) = inr (inr (was.0, rest.stage_is.stops was.1, was.2))

  pub at_rest : get_or s.words 0 0 % 2 ≡ 0 → FirstAreOut plan is_of contents taken written faults writes size s b b.assembled
  at_rest even =
      let rest : Rest = turns.at_rest (IsTold plan) first_tasks (first_needed plan) (IsBlockOf plan) (IsPieceOf plan is_of) StageAt size s b sh even in
      record {
        shown = rest.shown;
        stage = rest.stage;
        at_home = rest.at_home;
        out = has_out rest.halted rest.stage rest.stage_is;
        of_input = λ j low. first_rows plan b.told b.filled j sh.shape.told low;
        runs = λ run. rest.word ∙ word_runs rest.halted rest.stage rest.stage_is run;
        stops = λ stop. rest.word ∙ word_stops rest.halted rest.stage rest.stage_is stop;
        blocks = blocks;
        tasks = tasks;
        cells = λ t low high. cell rest t (turns.all_under_way (IsTold plan) first_tasks (first_needed plan) (IsBlockOf plan) (IsPieceOf plan is_of) StageAt size s b sh rest t low high);
      }

-- the law speaks of some ring: a new one keeps the rule, and its turn is free
pub new_one : {O P S K : Type 0} (plan : O → Tree) (is_of : O → P → Input → ℕ → ℕ → Type 0) (contents : S → Kept) (taken : O → S → Input → Type 0)
    (written : K → Option (List ℕ)) (faults writes : K → ℕ) (size : ℕ) (told : RunData O) (words : List ℕ) (stage : Stage S K) → 0 < size → size ≤ 1024 → IsTold plan told 0
    → IsStageOf plan (stage_view contents written faults writes) taken told 0 false stage → IsOpen size words
    → (b : RingState (RunData O)) × KeepsRule plan is_of contents taken written faults writes size (record { words = words; homes = map some (first_values size stage); views = start told ∷ [] }) b × (get_or words 0 0 % 2 ≡ 0)
new_one plan is_of contents taken written faults writes size told words stage some_cell few known runs is_open =
    let new = opens (IsTold plan) first_tasks (first_needed plan) (IsBlockOf plan) (IsPieceOf plan is_of) (IsStageOf plan (stage_view contents written faults writes) taken) (tasks_whole plan) size told words (first_values size stage) stage some_cell few known runs is_open refl in
    (new.0, new.1, ap (λ n. n % 2) is_open.1)
