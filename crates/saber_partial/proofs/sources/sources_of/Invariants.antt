use Rattle.std.proofs.Common.{◌≡◌, length, take}
use Rattle.saber_partial.specs.Sources.{AreSources}
use Rattle.saber_partial.proofs.sources.sources_of.Given as goal

abbrev pub invariant-loop-k : goal.invariant-loop-k
invariant-loop-k l = record {
  long : length l.sources ≡ 32;
  front : AreSources (take l.k l.aggregates) (take l.k l.sources);
}
