use Rattle.saber_rows.specs.Reader.{reader_of, end_behind}
use Rattle.saber_rows.proofs.LastLines.{long_done}
use Rattle.saber_rows.proofs.SoundRows.{no_end}
use Rattle.saber_rows.proofs.lines.Lines.refuse_long.Goals as goal

pub returns-clause-gives : goal.returns-clause-gives
returns-clause-gives c =
    long_done (reader_of c.args.self.now) c.long_cause-cause.result (no_end c.args.self.now.over (end_behind c.args.self.now.side) c.requires.over) c.requires.long c.requires.feed c.long_cause-cause.ensures
