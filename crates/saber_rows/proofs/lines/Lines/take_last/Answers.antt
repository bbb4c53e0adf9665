use Rattle.saber_rows.specs.Buffer.{bytes_of}
use Rattle.std.proofs.Common.{◌≡◌, [], length, ap, arith}
use Rattle.std.proofs.lemmas.Grind.{common_steps}
use Rattle.saber_rows.specs.Reader.{reader_of, end_behind}
use Rattle.saber_rows.proofs.LastLines.{empty_done, last_line}
use Rattle.saber_rows.proofs.SoundRows.{no_end}
use Rattle.saber_rows.proofs.lines.Lines.take_last.Goals as goal

pub returns-then-n-eq0-clause-gives : goal.returns-then-n-eq0-clause-gives
returns-then-n-eq0-clause-gives c =
    let e : bytes_of c.args.self.now.held ≡ [] = grind (arith, common_steps) in
    empty_done (reader_of c.args.self.now) (no_end c.args.self.now.over (end_behind c.args.self.now.side) c.requires.over) c.requires.ended e

pub take_line-requires-clause-line : goal.take_line-requires-clause-line
take_line-requires-clause-line c =
    let same : length c.bytes-n.result.now ≡ length (bytes_of c.args.self.now.held) = ap length c.bytes-n.ensures.value in
    last_line (bytes_of c.args.self.now.held) (length c.bytes-n.result.now) c.requires.feed (omega (arith, same, c.if-n-eq0.false)) same
