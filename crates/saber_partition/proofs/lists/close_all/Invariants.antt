use Rattle.std.proofs.Common.{List}
use Rattle.saber_plan.specs.declared.rows.Row.{Row}
use Rattle.saber_plan.specs.Texts.{Behind}
use Rattle.saber_plan.specs.Trees.{tree_of}
use Rattle.saber_partition.specs.Lists.{TakenAll}
use Rattle.saber_partition.specs.Stores.{lists_of}
use Rattle.saber_partition.proofs.Coming.{Left_to_print}
use Rattle.saber_partition.proofs.Stored.{seen_list}
use Rattle.saber_partition.proofs.lists.close_all.Given as goal

abbrev pub invariant-loop-list : goal.invariant-loop-list
invariant-loop-list g l = record {
  can : (goal.iterator-loop-list g).can_next l.list-iterator;
  finite : (goal.iterator-loop-list g).is_finite l.list-iterator;
  left : (xs : List Row) → TakenAll (tree_of l.fn.plan) xs (lists_of l.fn.lists.entries)
      → Left_to_print (tree_of l.fn.plan) xs (seen_list l.list-iterator) l.fn.out.items l.out.items;
  behind : Behind l.fn.out.items l.out.items;
}
