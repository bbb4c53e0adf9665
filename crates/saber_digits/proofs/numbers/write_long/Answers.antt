use Rattle.std.proofs.Common.{[], arith}
use Rattle.saber_digits.proofs.Digits.{four_behind}
use Rattle.saber_digits.proofs.numbers.write_long.Goals as goal

pub returns-clause-ok : goal.returns-clause-ok
returns-clause-ok c =
    let low = c.requires in
    four_behind c.args.out.now.items [] c.write_four.new.out.items c.extend_from_slice.new.self.items c.last_four.result c.args.number low (omega arith) c.in_ok-write_four.ensures.ok c.last_four.ensures c.in_ok-extend_from_slice.ensures.items
