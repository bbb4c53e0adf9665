use Rattle.std.proofs.Common.{sym, subst}
use Rattle.saber_rows.specs.Reader.{reader_of}
use Rattle.saber_rows.specs.Calls.{LastRead}
use Rattle.saber_rows.specs.Turns.{Turned, IsDrained}
use Rattle.saber_rows.proofs.Chains.{held_turned, held_asked, held_faults, read_asked, drained_needs}
use Rattle.saber_rows.proofs.lines.Lines.turn.Goals as goal

pub returns-in-Some-clause-turns : goal.returns-in-Some-clause-turns
returns-in-Some-clause-turns g c = held_turned c.in-Some.turn (reader_of c.args.self.now) (reader_of c.turn_held.new.self) (g.S.Source.left c.args.source.now) c.in-Some.ensures.turns

pub returns-in-Some-clause-asks : goal.returns-in-Some-clause-asks
returns-in-Some-clause-asks g c = held_asked g.S.Source.left c.in-Some.turn c.args.source.now (reader_of c.args.self.now) (reader_of c.turn_held.new.self) c.in-Some.ensures.turns

pub returns-in-Some-clause-faults : goal.returns-in-Some-clause-faults
returns-in-Some-clause-faults g c = held_faults c.in-Some.turn (reader_of c.args.self.now) (reader_of c.turn_held.new.self) (g.S.Source.faults c.args.source.now) c.in-Some.ensures.turns

pub fill-requires : goal.fill-requires
fill-requires g c = let none = c.turn_held.ensures.none c.in-None.is in record { drained = subst (λ s. IsDrained (reader_of s)) (sym none.0) none.1 }

pub returns-in-None-clause-turns : goal.returns-in-None-clause-turns
returns-in-None-clause-turns g c =
    subst (λ s. Turned c.fill.result (reader_of s) (reader_of c.fill.new.self) (g.S.Source.left c.args.source.now) (g.S.Source.left c.fill.new.source)) (c.turn_held.ensures.none c.in-None.is).0 c.fill.ensures.turns

pub returns-in-None-clause-asks : goal.returns-in-None-clause-asks
returns-in-None-clause-asks g c =
    let none = c.turn_held.ensures.none c.in-None.is in
    let last = subst (λ s. LastRead (reader_of s) (g.S.Source.left c.args.source.now) (g.S.Source.left c.fill.new.source)) none.0 c.fill.ensures.last in
    read_asked g.S.Source.left c.fill.result c.args.source.now c.fill.new.source (reader_of c.args.self.now) (reader_of c.fill.new.self) (drained_needs (reader_of c.args.self.now) none.1) last
