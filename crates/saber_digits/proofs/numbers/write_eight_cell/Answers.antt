use Rattle.std.proofs.Common.{[], ◌∷◌, arith}
use Rattle.saber_digits.proofs.Digits.{four_behind}
use Rattle.saber_digits.proofs.numbers.write_eight_cell.Goals as goal

pub returns-clause-ok : goal.returns-clause-ok
returns-clause-ok c =
    let low = c.requires.0 in
    four_behind c.args.out.now.items (44 ∷ []) c.write_four_cell.new.out.items c.extend_from_slice.new.self.items c.last_four.result c.args.number low (omega arith) c.in_ok-write_four_cell.ensures.ok c.last_four.ensures c.in_ok-extend_from_slice.ensures.items
