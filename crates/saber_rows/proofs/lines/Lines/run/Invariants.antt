use Rattle.std.proofs.Common.{◌≡◌, ◌≤◌, ◌-◌, []}
use Rattle.saber_rows.specs.Reader.{reader_of}
use Rattle.saber_rows.specs.Turns.{Runs}
use Rattle.saber_rows.proofs.lines.Lines.run.Given as goal

abbrev pub invariant-loop-run : goal.invariant-loop-run
invariant-loop-run l = record {
  begun : l.out.begun ≡ [];
  few : l.run.taken ≤ l.most;
  runs : Runs (reader_of l.fn.self) l.fn.self.over l.run l.fn.out.rows l.out.rows;
}

abbrev pub decreases-loop-run : goal.decreases-loop-run
decreases-loop-run l = l.most - l.run.taken
