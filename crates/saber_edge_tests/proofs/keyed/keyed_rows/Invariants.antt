use Rattle.std.proofs.Common.{◌≡◌}
use Rattle.saber_plan.specs.Windows.{mark_after}
use Rattle.saber_edge_tests.specs.Filling.{HasKeyed, CanCome}
use Rattle.saber_edge_tests.proofs.keyed.keyed_rows.Given as goal

abbrev pub invariant-loop-time : goal.invariant-loop-time
invariant-loop-time l = record {
  mark : l.mark ≡ mark_after l.fn.before l.rows;
  fits : CanCome HasKeyed l.fn.before l.rows;
}
