-- What a run over a feed gives.
use Rattle.std.specs.Prelude.{◌≡◌, ◌≤◌, ◌/◌, ℕ, length, List, [], ◌∷◌, Option}
use Rattle.saber_plan.specs.Outputs.{appended_text, raised_by}
use Rattle.saber_io.specs.declared.feeds.EndMark.{EndMark}
use Rattle.saber_plan.specs.declared.rows.Side.{Side}
use Rattle.saber_plan.specs.declared.sizes.Sizes.{Sizes}
use Rattle.saber_plan.specs.Sizes.{FileLimits, limits_of}
use Rattle.saber_plan.specs.Inputs.{input}
use Rattle.saber_plan.specs.Trees.{Tree}
pub use Rattle.saber_dispatch.specs.FeedLaws.{GoesOn}
use Rattle.saber_plan.specs.declared.ends.RunEnd.{RunEnd}
use Rattle.saber_plan.specs.declared.ends.RunEnd.TheVariants.{ReadFault}
use Rattle.saber_plan.specs.Files.{wholes}
use Rattle.saber_plan.specs.Runs.{GivesOver, writes_over}

-- at least every whole task of the whole lines of these bytes is assembled
pub record TakesWhole (q : Tree) (n : ℕ) (limits : FileLimits) (tasks : ℕ) (taken : List ℕ) : Type 0 where
  pub tasks_are : length (input (wholes q limits (taken ∷ []))).rows / n ≤ tasks

-- something goes out, and over each file that goes on from what was taken, and is this where the feed ended, it is this
abbrev pub GivesFed : Tree → Sizes → List ℕ → Option EndMark → Option (List ℕ) → Option (List ℕ) → RunEnd → ℕ → Type 0
GivesFed q s taken mark had has e tasks =
    (out : List ℕ) × (has ≡ appended_text had out) × ((all : List ℕ) → GoesOn taken mark all → GivesOver q s (all ∷ []) e tasks out)

-- over each such file there was one write for each task of those assembled that has text, and one more where it failed
abbrev pub WritesFed : Tree → Sizes → List ℕ → Option EndMark → ℕ → ℕ → RunEnd → ℕ → Type 0
WritesFed q s taken mark had has e tasks = (all : List ℕ) → GoesOn taken mark all → has ≡ raised_by had (writes_over q s (all ∷ []) e tasks)

-- a feed that is cut off leaves at least every whole task assembled
abbrev pub CutLeavesWhole : Tree → Sizes → List ℕ → RunEnd → ℕ → Type 0
CutLeavesWhole q s taken e tasks = (side : Side) → e ≡ ReadFault side → TakesWhole q s.task (limits_of s) tasks taken
