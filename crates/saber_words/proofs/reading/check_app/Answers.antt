use Rattle.saber_words.proofs.reading.check_app.Goals as goal

pub returns : goal.returns
returns c = rw c.as_slice.ensures at c.subcommand.ensures
