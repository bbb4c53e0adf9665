-- What a run leaves of its inputs and its sink.
use Rattle.std.specs.Prelude.{◌≡◌, ◌≤◌, ◌/◌, ℕ, length, List, Option, IfSome}
use Rattle.saber_plan.specs.Outputs.{appended_text, raised_by}
use Rattle.saber_plan.specs.declared.rows.Side.{Side}
use Rattle.saber_plan.specs.declared.sizes.Sizes.{Sizes}
use Rattle.saber_plan.specs.Sizes.{FileLimits, limits_of}
use Rattle.saber_plan.specs.Inputs.{input}
use Rattle.saber_plan.specs.Trees.{Tree}
use Rattle.saber_plan.specs.declared.ends.RunEnd.{RunEnd}
use Rattle.saber_plan.specs.declared.ends.RunEnd.TheVariants.{ReadFault}
use Rattle.saber_engine.specs.Sources.{GaveAll}
use Rattle.saber_plan.specs.Files.{wholes}
use Rattle.saber_plan.specs.Runs.{GivesOver, writes_over}

-- at least every whole task of the whole lines that were taken is assembled
pub record ReadsWhole (q : Tree) (n : ℕ) (limits : FileLimits) (tasks : ℕ) (had has : List (Option (List ℕ))) : Type 0 where
  pub taken : List (List ℕ)
  pub left : GaveAll had taken has
  pub tasks_are : length (input (wholes q limits taken)).rows / n ≤ tasks

-- something goes out, and over files that tell their bytes it is this
abbrev pub GivesTold : Tree → Sizes → Option (List (List ℕ)) → Option (List ℕ) → Option (List ℕ) → RunEnd → ℕ → Type 0
GivesTold q s told had has e tasks = (out : List ℕ) × (has ≡ appended_text had out) × IfSome told (λ files. GivesOver q s files e tasks out)

-- Over files that tell their bytes there was one write for each task of those assembled that has text, and one more where it failed: the sink's count
-- of them rose so.
abbrev pub WritesTold : Tree → Sizes → Option (List (List ℕ)) → ℕ → ℕ → RunEnd → ℕ → Type 0
WritesTold q s told had has e tasks = IfSome told (λ files. has ≡ raised_by had (writes_over q s files e tasks))

-- a fault of reading leaves at least every whole task assembled
abbrev pub LeavesWhole : Tree → Sizes → List (Option (List ℕ)) → List (Option (List ℕ)) → RunEnd → ℕ → Type 0
LeavesWhole q s had has e tasks = (side : Side) → e ≡ ReadFault side → ReadsWhole q s.task (limits_of s) tasks had has
