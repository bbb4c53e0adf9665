use Rattle.saber_digits.proofs.Digits.{two_cell}
use Rattle.saber_digits.proofs.numbers.cell_of_two.Goals as goal

pub returns : goal.returns
returns c = two_cell c.args.number c.pair-tens.result.0 c.pair-tens.result.1 c.requires.0 c.requires.1 c.pair-tens.ensures.tens c.pair-tens.ensures.ones
