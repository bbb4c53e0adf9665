-- A plan's fields as its tree.
use Rattle.std.specs.Prelude.{option_map}
use Rattle.saber_plan.specs.declared.plans.Plan.TheInside.{Inside}
use Rattle.saber_plan.specs.Trees.{Tree, tests_of}

abbrev pub fields_tree : Inside → Tree
fields_tree p = record {
  shape = p.shape;
  streams = p.streams.items;
  aggregates = p.aggregates.items;
  items = p.items.items;
  keys = p.keys.items;
  predicate = option_map tests_of p.predicate;
  partition = p.partition.items;
  word = p.word;
}
