use Rattle.std.proofs.Common.{◌≡◌, ◌≤◌, ◌-◌, length}
use Rattle.saber_io.specs.Outside.{left_before}
use Rattle.saber_cli.proofs.texts.read_text.Given as goal

abbrev pub invariant-loop-text : goal.invariant-loop-text
invariant-loop-text g l =
    let left = g.S.Source.left in
    record {
      read : left l.initial.source ≡ left_before l.text.items (left l.source);
      short : length l.text.items ≤ 65537;
      good : g.S.Source.faults l.source ≡ g.S.Source.faults l.initial.source;
      count : g.S.Source.faults l.initial.source ≤ g.S.Source.faults l.source;
    }

abbrev pub decreases-loop-text : goal.decreases-loop-text
decreases-loop-text g l = 65537 - length l.text.items
