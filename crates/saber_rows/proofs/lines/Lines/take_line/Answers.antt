use Rattle.saber_rows.specs.Reader.{reader_of, end_behind}
use Rattle.saber_rows.specs.LineFeeds.{end_of}
use Rattle.saber_rows.proofs.LineSteps.{refuses}
use Rattle.saber_rows.proofs.SoundRows.{no_end}
use Rattle.saber_rows.proofs.lines.Lines.take_line.Goals as goal

pub returns-in-Ok-Refused-clause-gives : goal.returns-in-Ok-Refused-clause-gives
returns-in-Ok-Refused-clause-gives c =
    refuses (reader_of c.args.self.now) (no_end c.args.self.now.over (end_behind c.args.self.now.side) c.requires.over) c.args.whole c.args.n (end_of c.args.n c.args.whole) c.requires.line c.requires.last c.in-Ok-Refused.cause
    (rw c.in-Ok-Refused.field-0-is at c.in-Ok-Refused.ensures.judged)

pub skip_line-requires-clause-judged : goal.skip_line-requires-clause-judged
skip_line-requires-clause-judged c = rw c.in-Ok-Skipped.field-0-is at c.in-Ok-Skipped.ensures.judged
