use Rattle.std.proofs.Common.{◌≡◌, ◌≤◌, ◌++◌, drop, length}
use Rattle.saber_plan.specs.Texts.{Behind}
use Rattle.saber_plan.specs.Answers.{uncancelled_answers, answer_lines}
use Rattle.saber_changes.specs.Rising.{Rises}
use Rattle.saber_changes.proofs.rising.write_apart.Given as goal

abbrev pub invariant-loop-i : goal.invariant-loop-i
invariant-loop-i l = record {
  all : l.out.items ++ answer_lines l.fn.window (uncancelled_answers (drop l.i l.answers) (drop l.at l.others)) ≡ l.fn.out.items ++ answer_lines l.fn.window (uncancelled_answers l.answers l.others);
  within : l.at ≤ length l.others;
  answers : Rises (drop l.i l.answers);
  others : Rises (drop l.at l.others);
  behind : Behind l.fn.out.items l.out.items;
}
