-- Blocks as tasks of the work that threads do.
use Rattle.std.specs.Prelude.{◌≡◌, ◌+◌}
use Rattle.saber_plan.specs.declared.sizes.Sizes.{Sizes}
use Rattle.saber_plan.specs.Trees.{Tree}
use Rattle.saber_fragment.specs.declared.blocks.Block.{Block}
use Rattle.saber_assembly.specs.declared.work.RunData.{RunData}
use Rattle.saber_assembly.specs.Works.{HasFirstRows, IsTold, IsBlockOf, input_of, with_block}
use Rattle.saber_dispatch.specs.Cutting.{IsNextBlock}
use Rattle.saber_dispatch.specs.Keeping.{IsPlaced}

module _ {O : Type 0} (plan : O → Tree) where
  -- it is the block of its task in the input with it, and the tasks up to it have all of that input
  pub record IsSupplied (told : RunData O) (b : Block) : Type 0 where
    pub block : IsBlockOf plan (with_block told b) b.number b
    pub told_is : IsTold plan (with_block told b) (b.number + 1)

  -- a block that is given behind those that have the input filled so far, with rows of the input's, and has its rows' places, is the next task's
  abbrev pub BlocksAreSupplied : Type 0
  BlocksAreSupplied =
      (told : RunData O) (s : Sizes) (b : Block) → told.size ≡ s.task → IsNextBlock (plan told.operator) s (input_of told) b → IsPlaced (plan told.operator) told.rows b
      → HasFirstRows (with_block told b) (b.number + 1) → IsSupplied told b
