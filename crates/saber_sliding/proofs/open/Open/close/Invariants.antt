use Rattle.std.proofs.Common.{ℕ, ◌+◌, ◌-◌, ◌≤◌, max}
use Rattle.saber_plan.specs.Answers as a
use Rattle.saber_plan.specs.Texts.{Behind}
use Rattle.saber_plan.specs.Trees.{tree_of}
use Rattle.saber_changes.specs.Outputs.{IsBefore, Passed, StandsIn}
use Rattle.saber_sliding.specs.Windows.{AnswersOf}
use Rattle.saber_sliding.proofs.Closed.{SameFrom}
use Rattle.saber_sliding.proofs.open.Open.close.Given as goal

abbrev pub invariant-loop-self : goal.invariant-loop-self
invariant-loop-self g l = record {
  up : l.fn.self.next ≤ l.self.next;
  high : l.self.next ≤ max l.fn.self.next l.low;
  before : IsBefore l.output l.self.next;
  same : SameFrom l.self.next l.self.slices.entries l.fn.self.slices.entries;
  text : (at : ℕ → a.Answers) → AnswersOf (tree_of l.fn.plan) l.fn.self.slices.entries l.fn.self.next l.self.next at → StandsIn at l.fn.output
      → Passed at l.fn.output l.output l.fn.self.next l.self.next l.fn.out.items l.out.items;
  steps : l.steps + l.self.slices.owed + l.fn.self.next ≤ l.fn.steps + l.fn.self.slices.owed + l.self.next;
  behind : Behind l.fn.out.items l.out.items;
}

abbrev pub decreases-loop-self : goal.decreases-loop-self
decreases-loop-self g l = l.low - l.self.next
