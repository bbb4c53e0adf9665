use Rattle.std.proofs.Common.{◌≡◌, ◌++◌, drop}
use Rattle.saber_plan.specs.Texts.{Behind}
use Rattle.saber_plan.specs.Answers.{uncancelled_answers, answer_lines}
use Rattle.saber_changes.specs.Counts.{counts_of, tally, by_counts}
use Rattle.saber_changes.proofs.cancel.write_counted.Given as goal

abbrev pub invariant-loop-i : goal.invariant-loop-i
invariant-loop-i l = record {
  all : l.out.items ++ answer_lines l.fn.window (by_counts (drop l.i l.answers) (tally (counts_of l.left.entries))) ≡ l.fn.out.items ++ answer_lines l.fn.window (uncancelled_answers l.fn.answers l.fn.others);
  behind : Behind l.fn.out.items l.out.items;
}
