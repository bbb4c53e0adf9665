-- Several queries of one input: what each begins with, and how each ended.
use Rattle.std.specs.Prelude.{◌≡◌, ℕ, List, [], ◌∷◌, length, true, Option, None}
use Rattle.saber_plan.specs.declared.rows.Row.{Row}
use Rattle.saber_plan.specs.declared.rows.Side.TheVariants.{Left}
use Rattle.saber_plan.specs.Checked.{IsChecked, columns_on}
use Rattle.saber_plan.specs.Inputs.{Input}
use Rattle.saber_plan.specs.Tasks.{Kept}
use Rattle.saber_plan.specs.Trees.{Tree, tree_of}
use Rattle.saber_assembly.specs.declared.stage.Stage.{Stage}
use Rattle.saber_plan.specs.declared.stages.StageState.TheVariants.{Running}
use Rattle.saber_assembly.specs.declared.work.RunData.{RunData}
use Rattle.saber_assembly.specs.Stages.{BeginsRuns}
use Rattle.saber_crew.specs.declared.dispatch.Over.{Over}
use Rattle.saber_dispatch.specs.declared.ends.End.{End}
use Rattle.saber_dispatch.specs.declared.keeper.Keeper.{Keeper}
use Rattle.saber_dispatch.specs.Keeping.{CountsRows}
use Rattle.saber_many.specs.declared.member.Member.{Member}
use Rattle.saber_engine.specs.declared.ends.Ran.{Ran}
use Rattle.saber_engine.specs.declared.jobs.Job.{Job}
use Rattle.saber_engine.specs.Endings.{end_of, MayStop}
use Rattle.saber_engine.specs.Supplying.{first_told}

-- the plan of a query, and its sink
abbrev pub tree_in : {K : Type 0} → Job K → Tree
tree_in job = tree_of job.plan.now

abbrev pub sink_in : {K : Type 0} → Job K → K
sink_in job = job.sink

-- a checked plan of one stream of so many columns
pub record MayShare (columns : ℕ) (q : Tree) : Type 0 where
  pub checked : IsChecked q
  pub one : length q.streams ≡ 1
  pub columns_are : columns_on q.streams Left ≡ columns

-- a keeper to which no block came
pub record KeepsNone (q : Tree) (k : Keeper) : Type 0 where
  pub kept : k.kept ≡ None
  pub counted : CountsRows k q []

module _ {O S K : Type 0} (plan : O → Tree) (contents : S → Kept) (taken : O → S → Input → Type 0) (written : K → Option (List ℕ)) (faults writes : K → ℕ) where
  -- a member that goes on, with this sink, whose stage has no task behind it
  pub record Stands (op : O) (sink : K) (m : Member (Stage S K)) : Type 0 where
    pub goes : m.goes ≡ true
    pub sink_is : m.stage.sink ≡ sink
    pub none : m.stage.k ≡ 0
    pub runs : m.stage.state ≡ Running
    pub keeps : BeginsRuns plan contents taken written faults writes op sink m.stage

module _ {O S K : Type 0} (size : ℕ) (all : O → Option (List Row)) (written : K → Option (List ℕ)) (faults writes : K → ℕ) where
  -- the data of one before a block is filled, and those of all
  abbrev pub base_of : O → Member (Stage S K) → RunData O
  base_of op m = first_told op size (written m.stage.sink) (faults m.stage.sink) (writes m.stage.sink) (all op)

  abbrev pub bases : List O → List (Member (Stage S K)) → List (RunData O)
  bases [] ms = []
  bases (op ∷ ops) [] = []
  bases (op ∷ ops) (m ∷ ms) = base_of op m ∷ bases ops ms

-- how the run of one ended, by its member, by why no more tasks were filled, and by how the blocks ended
pub record EndsAs {S K : Type 0} (over : Over) (end : Option End) (m : Member (Stage S K)) (ran : Ran K) : Type 0 where
  pub end_is : ran.end ≡ end_of m.stage.state over end
  pub tasks : ran.tasks ≡ m.stage.k
  pub sink_is : ran.sink ≡ m.stage.sink
  pub may : MayStop ran.end ran.stopped
