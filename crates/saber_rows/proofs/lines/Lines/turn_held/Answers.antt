use Rattle.saber_rows.specs.Reader.{reader_of}
use Rattle.saber_rows.proofs.Chains.{held_row}
use Rattle.saber_rows.proofs.lines.Lines.turn_held.Goals as goal

pub returns-in-Some-clause-turns : goal.returns-in-Some-clause-turns
returns-in-Some-clause-turns c = held_row c.in-Some.row (reader_of c.args.self.now) (reader_of c.give.new.self) c.in-Some.ensures.some c.in-Some.ensures.given c.give.ensures.rules
