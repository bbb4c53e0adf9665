use Rattle.std.proofs.Common.{◌≡◌, ◌≤◌, None}
use Rattle.saber_rows.specs.Reader.{reader_of, gone_count}
use Rattle.saber_rows.specs.Calls.{Moves, ReadsNoMore}
use Rattle.saber_rows.specs.Turns.{same, work_left, HasEnough}
use Rattle.saber_rows.proofs.lines.Lines.advance.Given as goal

abbrev pub invariant-loop-row : goal.invariant-loop-row
invariant-loop-row g l = record {
  moves : Moves same (reader_of l.initial.self) (reader_of l.self) (g.S.Source.left l.initial.source) (g.S.Source.left l.source);
  stop : l.self.stop ≡ None;
  faults : g.S.Source.faults l.source ≡ g.S.Source.faults l.initial.source;
  rules : (reader_of l.self).rules ≡ (reader_of l.initial.self).rules;
  last : (reader_of l.self).last ≡ (reader_of l.initial.self).last;
  rises : gone_count (reader_of l.initial.self) ≤ gone_count (reader_of l.self);
  once : ReadsNoMore g.S.Source.left l.initial.source l.source (reader_of l.initial.self);
  reads : HasEnough (reader_of l.initial.self) → (l.source ≡ l.initial.source) × HasEnough (reader_of l.self);
}

abbrev pub decreases-loop-row : goal.decreases-loop-row
decreases-loop-row g l = work_left (reader_of l.self)
