use Rattle.std.proofs.Common.{◌≡◌, ◌≤◌, ◌++◌, take}
use Rattle.saber_plan.specs.Texts.{Behind}
use Rattle.saber_digits.specs.Cells.{cells, drafted_text}
use Rattle.saber_digits.proofs.lines.put_cells.Given as goal

abbrev pub invariant-loop-number : goal.invariant-loop-number
invariant-loop-number l = record {
  all : drafted_text l.out.items l.line l.at ≡ drafted_text l.fn.out.items l.fn.line l.start ++ cells (take l.number-index l.numbers);
  room : l.at ≤ 121;
  behind : Behind l.fn.out.items l.out.items;
}
