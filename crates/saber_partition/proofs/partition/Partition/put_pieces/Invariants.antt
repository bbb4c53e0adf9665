use Rattle.std.proofs.Common.{map, take}
use Rattle.std.specs.List.{AllByRecursion}
use Rattle.saber_plan.specs.Trees.{tree_of}
use Rattle.saber_partial.specs.PartLaws.{OfRows}
use Rattle.saber_partition.specs.Pieces.{AreMade}
use Rattle.saber_partition.specs.Stores.{made_of, HasPart}
use Rattle.saber_partition.proofs.partition.Partition.put_pieces.Given as goal

abbrev pub invariant-loop-i : goal.invariant-loop-i
invariant-loop-i l = record {
  made : AreMade (tree_of l.fn.self) (take l.i l.fn.rows) l.fn.places (map (made_of l.parts) l.pieces.items);
  there : AllByRecursion (HasPart l.parts) l.pieces.items;
  others : AllByRecursion (OfRows (tree_of l.fn.self) 1) l.parts;
}
