use Rattle.std.proofs.Common.{◌≡◌, ◌+◌, drop}
use Rattle.saber_sliding.specs.Stacks.{gone_by}
use Rattle.saber_sliding.proofs.stack.gone_by.Given as goal

abbrev pub invariant-loop-gone : goal.invariant-loop-gone
invariant-loop-gone l = gone_by l.i l.numbers ≡ l.gone + gone_by l.i (drop l.gone l.numbers)
