use Rattle.std.proofs.Common.{ap, drop, length, ◌∙◌}
use Rattle.saber_rows.specs.Buffer.{bytes_of}
use Rattle.saber_rows.specs.Reader.{reader_of, end_behind}
use Rattle.saber_rows.specs.LineFeeds.{end_of}
use Rattle.saber_rows.proofs.LineSteps.{skips, less_left}
use Rattle.saber_rows.proofs.SoundRows.{no_end}
use Rattle.saber_rows.proofs.lines.Lines.skip_line.Goals as goal

pub returns-clause-gives : goal.returns-clause-gives
returns-clause-gives c =
    skips (reader_of c.args.self.now) (no_end c.args.self.now.over (end_behind c.args.self.now.side) c.requires.over) c.args.whole c.args.n (end_of c.args.n c.args.whole) c.requires.line c.requires.last (bytes_of c.consume.new.self)
    (c.consume.ensures ∙ ap (λ e. drop e (bytes_of c.args.self.now.held)) c.line_end.ensures) c.requires.judged

pub returns-clause-falls : goal.returns-clause-falls
returns-clause-falls c = less_left c.args.self.now.max_lines c.args.self.now.lines (length (bytes_of c.consume.new.self)) (length (bytes_of c.args.self.now.held)) _ _ c.requires.counted
