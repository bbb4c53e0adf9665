-- Queries of one stream, whose tasks need no rows but their own.
use Rattle.std.proofs.Common.{◌≡◌, ◌≢◌, ◌≤◌, ℕ, ap, refl}
use Rattle.saber_plan.specs.declared.plans.Shape.{Shape}
use Rattle.saber_plan.specs.declared.plans.Shape.TheVariants.{Select, Group, Join}
use Rattle.saber_plan.specs.Trees.{Tree}
use Rattle.saber_plan.specs.Answers.{by_shape}
use Rattle.saber_laws.proofs.TaskCutLaws.{first_of_first}
use Rattle.saber_assembly.specs.declared.work.RunData.{RunData}
use Rattle.saber_assembly.specs.Works.{input_of, with_input, first_tasks, first_needed}

-- the query joins no streams
abbrev pub IsAlone : {O : Type 0} → (O → Tree) → RunData O → Type 0
IsAlone plan told = (plan told.operator).shape ≢ Join

pub by_alone : (s : Shape) (t j : ℕ) → s ≢ Join → by_shape s t t j ≡ t
by_alone Select t j alone = refl
by_alone Group t j alone = refl
by_alone Join t j alone = absurd (alone refl)

pub own_needed : {O : Type 0} (plan : O → Tree) (told : RunData O) (t : ℕ) → IsAlone plan told → first_needed plan (first_tasks told t) t ≡ t
own_needed plan told t alone = by_alone (plan told.operator).shape t _ alone

pub first_fronts : {O : Type 0} (told : RunData O) (j k : ℕ) → k ≤ j → first_tasks (first_tasks told j) k ≡ first_tasks told k
first_fronts told j k le = ap (with_input told) (first_of_first told.size (input_of told) j k le)
