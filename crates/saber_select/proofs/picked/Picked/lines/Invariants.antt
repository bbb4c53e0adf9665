use Rattle.std.proofs.Common.{◌≡◌, ◌++◌, take}
use Rattle.saber_plan.specs.Texts.{Behind}
use Rattle.saber_select.specs.Found.{lines_for, values_in}
use Rattle.saber_select.specs.Spots.{found_in}
use Rattle.saber_select.proofs.picked.Picked.lines.Given as goal

abbrev pub invariant-loop-spot : goal.invariant-loop-spot
invariant-loop-spot l = record {
  all : l.out.items ≡ l.fn.out.items ++ lines_for l.window (values_in (found_in l.self-inside.numbers.items (take l.spot-index l.spot-items)));
  behind : Behind l.fn.out.items l.out.items;
}
