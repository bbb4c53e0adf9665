use Rattle.std.proofs.Common.{◌≡◌, ◌≤◌, ◌-◌, []}
use Rattle.saber_rows.specs.Merging.{merger_of}
use Rattle.saber_rows.specs.MergedRows.{MergesRows}
use Rattle.saber_rows.proofs.merges.Merge.take_quick.Given as goal

abbrev pub invariant-loop-taken : goal.invariant-loop-taken
invariant-loop-taken l = record {
  begun : l.out.begun ≡ [];
  few : l.taken ≤ l.most;
  rows : MergesRows l.taken (merger_of l.fn.self) (merger_of l.self) l.fn.out.rows l.out.rows;
}

abbrev pub decreases-loop-taken : goal.decreases-loop-taken
decreases-loop-taken l = l.most - l.taken
