use Rattle.std.proofs.Common.{◌+◌, ◌≤◌, ◌^◌}
use Rattle.saber_check.specs.Widths.{span}
use Rattle.saber_check.proofs.Lemmas.{Going}
use Rattle.saber_check.proofs.PredLemmas.{unit_width, unit_faults, conj_width, conj_faults}
use Rattle.saber_query.specs.Trees.{query_of}
use Rattle.saber_check.proofs.walk.Walk.+pred.Given as goal

abbrev pub invariant-conj-loop-unit : goal.invariant-conj-loop-unit
invariant-conj-loop-unit l = record {
  going : Going unit_width (unit_faults (query_of l.query)) 1 l.unit-items l.unit-index l.initial.self l.self;
  room : l.initial.self.index + span unit_width l.unit-items ≤ 2 ^ 60;
}

abbrev pub invariant-pred-loop-conj : goal.invariant-pred-loop-conj
invariant-pred-loop-conj l = record {
  going : Going conj_width (conj_faults (query_of l.query)) 1 l.conj-items l.conj-index l.initial.self l.self;
  room : l.initial.self.index + span conj_width l.conj-items ≤ 2 ^ 60;
}
