use Rattle.std.proofs.Common.{◌≡◌, ◌++◌, drop}
use Rattle.saber_partial.specs.Printing.{answers_under}
use Rattle.saber_partial.proofs.answers.push_groups.Given as goal

abbrev pub invariant-loop-i : goal.invariant-loop-i
invariant-loop-i l = l.answers ++ answers_under l.items (drop l.i l.groups.entries) ≡ l.fn.answers ++ answers_under l.items (drop l.from l.groups.entries)
