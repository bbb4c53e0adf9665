use Rattle.std.proofs.Common.{◌≡◌, ◌≤◌, ◌-◌, drop, length}
use Rattle.saber_plan.specs.Answers.{Answers, uncancelled_answers}
use Rattle.saber_changes.specs.Rising.{NoneBelow, Rises}
use Rattle.saber_changes.proofs.rising.cancel.Given as goal

abbrev pub invariant-loop-place : goal.invariant-loop-place
invariant-loop-place l = record {
  within : l.place ≤ length l.others;
  same : (ks : Answers) → NoneBelow l.line ks → uncancelled_answers ks (drop l.from l.others) ≡ uncancelled_answers ks (drop l.place l.others);
  rises : Rises (drop l.from l.others) → Rises (drop l.place l.others);
}

abbrev pub decreases-loop-place : goal.decreases-loop-place
decreases-loop-place l = length l.others - l.place
