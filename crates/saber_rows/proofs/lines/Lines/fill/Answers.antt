use Rattle.std.proofs.Common.{rules, ap, sym, Ok, ◌∙◌, ◌≤◌, [], length, arith}
use Rattle.saber_io.specs.Outside.{left_before}
use Rattle.saber_rows.specs.Buffer.{bytes_of}
use Rattle.saber_rows.specs.Reader.{reader_of}
use Rattle.saber_rows.proofs.ReadSteps.{given_none}
use Rattle.saber_rows.proofs.Chains.{drained_needs, wanted_read}
use Rattle.saber_rows.proofs.FillSteps.{came_turned, end_turned, fault_turned}
use Rattle.saber_rows.proofs.lines.Lines.fill.Goals as goal

pub returns-in-Err-clause-turns : goal.returns-in-Err-clause-turns
returns-in-Err-clause-turns g c = fault_turned (reader_of c.args.self.now) (bytes_of c.fill.new.self) _ _ c.requires.drained c.in-Err.ensures.stands.0 c.in-Err.ensures.stands.1

pub returns-in-Err-clause-faults : goal.returns-in-Err-clause-faults
returns-in-Err-clause-faults g c = (c.in-Err.ensures.cause, c.fill.ensures.count)

pub returns-in-Err-clause-last : goal.returns-in-Err-clause-last
returns-in-Err-clause-last g c =
    let left = given_none (g.S.Source.left c.args.source.now) ∙ ap (left_before []) (sym c.in-Err.ensures.stands.1) in
    wanted_read (reader_of c.args.self.now) _ _ [] (drained_needs (reader_of c.args.self.now) c.requires.drained) left (omega arith)

pub returns-in-Ok-eq0-clause-turns : goal.returns-in-Ok-eq0-clause-turns
returns-in-Ok-eq0-clause-turns g c =
    end_turned (reader_of c.args.self.now) (bytes_of c.fill.new.self) _ _ c.in-Ok-eq0.field-0 c.requires.drained c.in-Ok-eq0.field-0-test c.in-Ok-eq0.ensures.bytes
    (c.fill.ensures.end (c.in-Ok-eq0.is ∙ ap Ok c.in-Ok-eq0.field-0-test))

pub returns-in-Ok-eq0-clause-faults : goal.returns-in-Ok-eq0-clause-faults
returns-in-Ok-eq0-clause-faults g c = c.in-Ok-eq0.ensures.good

pub returns-in-Ok-eq0-clause-last : goal.returns-in-Ok-eq0-clause-last
returns-in-Ok-eq0-clause-last g c =
    let k = c.in-Ok-eq0.ensures in
    let few : length k.bytes.taken ≤ 4096 = omega (arith, k.within, k.bytes.count) in
    wanted_read (reader_of c.args.self.now) _ _ k.bytes.taken (drained_needs (reader_of c.args.self.now) c.requires.drained) k.bytes.left few

pub returns-in-Ok-clause-turns : goal.returns-in-Ok-clause-turns
returns-in-Ok-clause-turns g c =
    let some : 1 ≤ c.in-Ok.field-0 = search rules in
    came_turned (reader_of c.args.self.now) (bytes_of c.fill.new.self) _ _ c.in-Ok.field-0 c.requires.drained some c.in-Ok.ensures.bytes

pub returns-in-Ok-clause-faults : goal.returns-in-Ok-clause-faults
returns-in-Ok-clause-faults g c = c.in-Ok.ensures.good

pub returns-in-Ok-clause-last : goal.returns-in-Ok-clause-last
returns-in-Ok-clause-last g c =
    let k = c.in-Ok.ensures in
    let few : length k.bytes.taken ≤ 4096 = omega (arith, k.within, k.bytes.count) in
    wanted_read (reader_of c.args.self.now) _ _ k.bytes.taken (drained_needs (reader_of c.args.self.now) c.requires.drained) k.bytes.left few
