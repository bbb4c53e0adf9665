use Rattle.saber_digits.proofs.Digits.{four_cell}
use Rattle.saber_digits.proofs.numbers.cell_of_four.Goals as goal

pub returns : goal.returns
returns c = four_cell c.args.number c.pair-thousands.result.0 c.pair-thousands.result.1 c.pair-tens.result.0 c.pair-tens.result.1 c.requires.0 c.requires.1
    c.pair-thousands.ensures.tens c.pair-thousands.ensures.ones c.pair-tens.ensures.tens c.pair-tens.ensures.ones
