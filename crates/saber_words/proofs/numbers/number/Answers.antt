use Rattle.std.specs.Str.Parse.{ParsesUnsigned, ExplainsUnsignedError, HasUnsignedDigitsIfOk}
use Rattle.clap.specs.Words.{found_of}
use Rattle.saber_words.specs.Numbers.{numeric_of}
use Rattle.saber_words.proofs.Numerals.{number_read}
use Rattle.saber_words.proofs.numbers.number.Goals as goal

pub returns-in_err-number-clause-value : goal.returns-in_err-number-clause-value
returns-in_err-number-clause-value c =
    let read = number_read _ (λ bs r. ParsesUnsigned 64 10 bs r × ExplainsUnsignedError 10 bs r × HasUnsignedDigitsIfOk bs r) (numeric_of c.args.option) (found_of c.args.values.now) c.get_one.result
    (λ u x g. g.0) c.get_one.ensures.none c.get_one.ensures.value in
    rw (read, c.in_err-number.was, c.from_residual.ensures)

pub returns-clause-value : goal.returns-clause-value
returns-clause-value c =
    let read = number_read _ (λ bs r. ParsesUnsigned 64 10 bs r × ExplainsUnsignedError 10 bs r × HasUnsignedDigitsIfOk bs r) (numeric_of c.args.option) (found_of c.args.values.now) c.get_one.result
    (λ u x g. g.0) c.get_one.ensures.none c.get_one.ensures.value in
    rw (read, c.in_ok-number.was, c.within.ensures)
