use Rattle.std.proofs.Common.{◌≡◌, ◌+◌, drop}
use Rattle.saber_check.specs.Plans.{place_in}
use Rattle.saber_check.proofs.expressions.place_in_more.Given as goal

abbrev pub invariant-loop-other : goal.invariant-loop-other
invariant-loop-other l = record {
  same : l.place + place_in l.name (drop l.other-index l.names) ≡ place_in l.name l.names;
  place : l.place ≡ l.other-index;
}
