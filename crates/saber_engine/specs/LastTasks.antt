-- The end of an input as the last task of several queries, of those for which it is one.
use Rattle.std.specs.Prelude.{◌≡◌, ◌≢◌, ℕ, List, Bool, true, false, Option, Some, None}
use Rattle.std.specs.List.{AllZip}
use Rattle.saber_plan.specs.declared.sizes.Sizes.{Sizes}
use Rattle.saber_plan.specs.Inputs.{Input}
use Rattle.saber_plan.specs.Tasks.{Kept}
use Rattle.saber_plan.specs.Trees.{Tree}
use Rattle.saber_fragment.specs.declared.blocks.Block.{Block}
use Rattle.saber_assembly.specs.declared.stage.Stage.{Stage}
use Rattle.saber_plan.specs.declared.stages.StageState.TheVariants.{Running}
use Rattle.saber_assembly.specs.Stages.{stage_view}
use Rattle.saber_assembly.specs.Works.{IsBlockOf, IsStageOf, first_tasks}
use Rattle.saber_workers.specs.Queries.{Suits}
use Rattle.saber_crew.specs.declared.dispatch.Over.{Over}
use Rattle.saber_crew.specs.declared.dispatch.Over.TheVariants.{AllGiven}
use Rattle.saber_dispatch.specs.declared.cutter.Cutter.{Cutter}
use Rattle.saber_dispatch.specs.Cutting.{end_counts}
use Rattle.saber_dispatch.specs.Ending.{is_end_due, EndsEach}
use Rattle.saber_many.specs.declared.member.Member.{Member}
use Rattle.saber_many.specs.Alone.{CanDo, Does}
use Rattle.saber_many.specs.Laws.{AllThree}
use Rattle.saber_many.specs.Queries.{IsAlone}

-- The block of the end, where all blocks were given and it is due; where it isn't due, none. Where not all were given, none too.
abbrev pub ComesLast : Cutter → Over → Option Block → Type 0
ComesLast c over None = over ≡ AllGiven → is_end_due c ≡ false
ComesLast c over (Some b) = (over ≡ AllGiven) × (is_end_due c ≡ true) × EndsEach c b

-- it tells whether the end of the input is a task
abbrev pub Tells : {O : Type 0} → (O → Tree) → Sizes → O → Bool → Type 0
Tells plan s op counts = counts ≡ end_counts (plan op) s

module _ {O S K : Type 0} (plan : O → Tree) (contents : S → Kept) (has_taken : O → S → Input → Type 0) (written : K → Option (List ℕ)) (faults writes : K → ℕ) where
  module _ (counts : Bool) (op : O) where
    -- where it is a task, and the stage goes on, it is the next one
    abbrev pub CanTake : Option Block → Stage S K → Type 0
    CanTake None stage = Unit {0}
    CanTake (Some b) stage = counts ≡ true → stage.state ≡ Running → CanDo first_tasks (IsBlockOf plan) (IsStageOf plan (stage_view contents written faults writes) has_taken) (IsAlone plan) Suits op stage b

    -- then it is behind the stage, or stopped it; and any other stage stays
    pub record TakesBlock (b : Block) (old new : Stage S K) : Type 0 where
      pub other : counts ≡ false → new ≡ old
      pub stopped : old.state ≢ Running → new ≡ old
      pub takes : counts ≡ true → old.state ≡ Running → (goes : Bool) × Does first_tasks (IsBlockOf plan) (IsStageOf plan (stage_view contents written faults writes) has_taken) (IsAlone plan) Suits op old b new goes

    abbrev pub Takes : Option Block → Stage S K → Stage S K → Type 0
    Takes None old new = new ≡ old
    Takes (Some b) old new = TakesBlock b old new

  -- the same of all
  module _ (s : Sizes) where
    abbrev pub CanTakeEach : Option Block → List O → List (Member (Stage S K)) → Type 0
    CanTakeEach block ops members = AllZip (λ op m. CanTake (end_counts (plan op) s) op block m.stage) ops members

    abbrev pub TakesEach : Option Block → List O → List (Member (Stage S K)) → List (Member (Stage S K)) → Type 0
    TakesEach block ops olds news = AllThree (λ op old new. Takes (end_counts (plan op) s) op block old.stage new.stage) ops olds news
