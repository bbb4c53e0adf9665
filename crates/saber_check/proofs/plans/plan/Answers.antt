use Rattle.std.proofs.Common.{◌≡◌, ℕ, List, Option}
use Rattle.saber_plan.specs.declared.expressions.Product.{Product}
use Rattle.saber_plan.specs.declared.plans.Aggregate.{Aggregate}
use Rattle.saber_plan.specs.declared.plans.Shape.{Shape}
use Rattle.saber_plan.specs.declared.plans.Word.{Word}
use Rattle.saber_plan.specs.declared.windows.Stream.{Stream}
use Rattle.saber_plan.specs.Trees.{Tree, Tests, tree}
use Rattle.saber_plan.specs.Checked.{IsChecked}
use Rattle.saber_query.specs.Trees.{query_of}
use Rattle.saber_check.specs.Plans.{plan_tree}
use Rattle.saber_check.proofs.plans.plan.Goals as goal

-- a tree of parts that are those of a checked one
of_parts : (q : Tree) (s : Shape) (ss : List Stream) (gs : List Aggregate) (is : List (List Product)) (ks : List ℕ) (p : Option Tests) (l : List ℕ) (w : Option Word)
    → s ≡ q.shape → ss ≡ q.streams → gs ≡ q.aggregates → is ≡ q.items → ks ≡ q.keys → p ≡ q.predicate → l ≡ q.partition → w ≡ q.word
    → IsChecked q → IsChecked (tree s ss gs is ks p l w)
of_parts q s ss gs is ks p l w a b c d e f g h checked = rw (a, b, c, d, e, f, g, h) checked

pub new-requires : goal.new-requires
new-requires c = record {
  checked =
      of_parts (plan_tree (query_of c.args.query.now)) _ _ _ _ _ _ _ _ c.shape.ensures c.in_ok-streams.ensures c.in_ok-aggregates.ensures.aggregates
      c.in_ok-aggregates.ensures.items c.in_ok-keys.ensures c.in_ok-predicate.ensures c.in_ok-partition.ensures c.word.ensures c.requires.checked;
}
