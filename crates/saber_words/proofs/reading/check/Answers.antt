use Rattle.std.proofs.Common.{codes}
use Rattle.clap.specs.Words.{found_of}
use Rattle.saber_words.proofs.Values.{first_of-rows}
use Rattle.saber_words.proofs.reading.check.Goals as goal

pub returns-in_err-query : goal.returns-in_err-query
returns-in_err-query c =
    let read = first_of-rows (found_of c.args.values.now) (codes "query") c.get_str.result c.get_str.ensures in
    rw (read, c.in_err-query.was, c.from_residual.ensures)

pub returns : goal.returns
returns c =
    let read = first_of-rows (found_of c.args.values.now) (codes "query") c.get_str.result c.get_str.ensures in
    rw (read, c.in_ok-query.was)
