-- A plan with a stream word.
use Rattle.std.specs.Prelude.{◌≡◌, Some}
use Rattle.saber_plan.specs.declared.plans.Word.{Word}
use Rattle.saber_plan.specs.Trees.{Tree}

-- a stream word stands before the query
pub record HasWord (q : Tree) : Type 0 where
  pub word : Word
  pub is : q.word ≡ Some word
