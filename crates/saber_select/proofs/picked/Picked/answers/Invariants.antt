use Rattle.std.proofs.Common.{◌≡◌, take}
use Rattle.saber_select.specs.Found.{values_in}
use Rattle.saber_select.specs.Spots.{found_in}
use Rattle.saber_select.proofs.picked.Picked.answers.Given as goal

abbrev pub invariant-loop-spot : goal.invariant-loop-spot
invariant-loop-spot l = record {
  all : l.answers ≡ values_in (found_in l.self-inside.numbers.items (take l.spot-index l.spot-items));
}
