use Rattle.saber_digits.proofs.Digits.{one_cell}
use Rattle.saber_digits.proofs.numbers.cell_of_one.Goals as goal

pub returns : goal.returns
returns c = one_cell c.args.number c.requires
