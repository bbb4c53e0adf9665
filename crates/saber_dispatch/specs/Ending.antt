-- The input's end as a task of queries that join no streams, over blocks that were cut without it.
use Rattle.std.specs.Prelude.{◌≡◌, ◌≢◌, ℕ, ◌+◌, Bool, true, false, Option, Some, None}
use Rattle.saber_plan.specs.declared.plans.Shape.TheVariants.{Join}
use Rattle.saber_plan.specs.declared.sizes.Sizes.{Sizes}
use Rattle.saber_plan.specs.Inputs.{Input}
use Rattle.saber_plan.specs.Trees.{Tree}
use Rattle.saber_fragment.specs.declared.blocks.Block.{Block}
use Rattle.saber_dispatch.specs.Sources.{Lefts}
use Rattle.saber_dispatch.specs.declared.ends.End.{End}
use Rattle.saber_dispatch.specs.declared.cutter.Cutter.{Cutter}
use Rattle.saber_dispatch.specs.Cutting.{Cuts, IsNextBlock, and_block, end_counts, is_due}
use Rattle.saber_dispatch.specs.Keeping.{IsPlaced}

-- the same sizes, where the end is no task
abbrev pub without_end : Sizes → Sizes
without_end s = record s { flush = false }

-- the same cutter, where the end of the input is still to come if it counts
abbrev pub with_end : Tree → Sizes → Cutter → Cutter
with_end q s c = record c { flush = end_counts q s }

-- and where it was given
abbrev pub end_given : Cutter → Cutter
end_given c = record c { number = c.number + 1; flush = false }

abbrev pub due_at : ℕ → Option End → Bool
due_at count None = false
due_at count (Some e) = is_due true count e

-- all was read, and a row came: then the end is a task of those for which it counts
abbrev pub is_end_due : Cutter → Bool
is_end_due c = due_at c.number c.ended

-- with its block one task more was given
pub record GivesEnd (q : Tree) (s : Sizes) (had has : Lefts) (c : Cutter) (r : Input) (b : Block) : Type 0 where
  pub next : IsNextBlock q s r b
  pub placed : IsPlaced q r.rows b
  pub cuts : Cuts q s had has (end_given c) (and_block r b)

-- whatever was cut without the end, for each query that joins no streams and for which it counts
abbrev pub EndsEach : Cutter → Block → Type 0
EndsEach c b = (q : Tree) (s : Sizes) (had has : Lefts) (r : Input) → q.shape ≢ Join → end_counts q s ≡ true → Cuts q (without_end s) had has c r → GivesEnd q s had has c r b
