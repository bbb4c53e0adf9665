use Rattle.std.proofs.Common.{List, map}
use Rattle.std.specs.Vec.Iter.{into_iter_items}
use Rattle.saber_plan.specs.declared.rows.Row.{Row}
use Rattle.saber_plan.specs.Texts.{Behind}
use Rattle.saber_plan.specs.Trees.{tree_of}
use Rattle.saber_partition.specs.Pieces.{RowsCome}
use Rattle.saber_partition.specs.Stores.{kept_lists, made_of, IsLong}
use Rattle.saber_partition.proofs.Coming.{Along}
use Rattle.saber_partition.proofs.lists.take_rows.Given as goal

abbrev pub invariant-loop-row : goal.invariant-loop-row
invariant-loop-row g l = record {
  can : (goal.iterator-loop-row g).can_next l.row-iterator;
  finite : (goal.iterator-loop-row g).is_finite l.row-iterator;
  along : (xs rs : List Row) → RowsCome (tree_of l.fn.plan) xs rs (map (made_of l.fn.parts) l.fn.rows.items) (kept_lists l.fn.store)
      → Along (tree_of l.fn.plan) xs rs (map (made_of l.fn.parts) (into_iter_items l.row-iterator)) (kept_lists l.store) l.fn.out.items l.out.items;
  long : IsLong l.store;
  behind : Behind l.fn.out.items l.out.items;
}
