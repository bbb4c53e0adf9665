use Rattle.std.proofs.Common.{◌≡◌, ◌≤◌, length, take}
use Rattle.saber_rows.specs.QuickRows.{Begun}
use Rattle.saber_rows.proofs.quick_rows.fields_in.Given as goal

abbrev pub invariant-loop-column : goal.invariant-loop-column
invariant-loop-column g l = record {
  within : l.at ≤ length l.held;
  begun : Begun (take l.at l.held) l.column (g.N.Numbers.numbers l.out);
  behind : g.N.Numbers.behind l.out ≡ g.N.Numbers.behind l.fn.out;
}
