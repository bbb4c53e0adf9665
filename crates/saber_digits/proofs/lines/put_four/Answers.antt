use Rattle.std.proofs.Common.{arith, rules}
use Rattle.saber_digits.proofs.Short.{put_list}
use Rattle.saber_digits.proofs.lines.put_four.Goals as goal

pub returns : goal.returns
returns c k few = put_list c.args.line.now c.args.four c.args.at k (search rules) (omega (arith, c.told-line)) few
