-- What was taken of inputs of which a read failed.
use Rattle.std.specs.Prelude.{◌≡◌, ◌≤◌, ◌*◌, ◌/◌, ℕ, length, List, [], ◌∷◌, Some}
use Rattle.saber_io.specs.Outside.{left_before}
use Rattle.saber_plan.specs.declared.rows.Side.{Side}
use Rattle.saber_plan.specs.declared.sizes.Sizes.{Sizes}
use Rattle.saber_plan.specs.Inputs.{Input, going_on}
use Rattle.saber_plan.specs.Tasks.{upto, task_count}
use Rattle.saber_plan.specs.Trees.{Tree}
use Rattle.saber_dispatch.specs.Sources.{Lefts}
use Rattle.saber_dispatch.specs.declared.ends.End.TheVariants.{ReadFault}
use Rattle.saber_dispatch.specs.declared.cutter.Cutter.{Cutter}
use Rattle.saber_dispatch.specs.Cutting.{Cuts, end_of}
use Rattle.saber_plan.specs.Files.{whole_rows}

-- these bytes were taken of each, in order
abbrev pub GaveAll : Lefts → List (List ℕ) → Lefts → Type 0
GaveAll [] [] [] = Unit {0}
GaveAll (had ∷ hads) (taken ∷ more) (has ∷ hass) = (had ≡ left_before taken has) × GaveAll hads more hass
GaveAll _ _ _ = ⊥

-- at least every whole task of the whole lines that were taken of each input is in a block
pub record ReadsWhole (q : Tree) (s : Sizes) (had has : Lefts) (r : Input) : Type 0 where
  pub taken : List (List ℕ)
  pub left : GaveAll had taken has
  pub count : length (whole_rows q s taken) / s.task ≤ task_count s.task r
  pub tasks : (k : ℕ) → k * s.task ≤ length (whole_rows q s taken) → upto s.task r k ≡ upto s.task (going_on (whole_rows q s taken)) k

abbrev pub FaultsLeaveWholeTasks : Type 0
FaultsLeaveWholeTasks = (q : Tree) (s : Sizes) (had has : Lefts) (c : Cutter) (r : Input) (side : Side) →
    Cuts q s had has c r → end_of c ≡ Some (ReadFault side) → ReadsWhole q s had has r
