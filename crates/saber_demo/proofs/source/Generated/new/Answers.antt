use Rattle.std.proofs.Common.{◌∙◌, ◌≡◌, ◌-◌, ap, arith}
use Rattle.saber_demo.specs.Rows.{lines_from}
use Rattle.saber_demo.proofs.Sources.{all_left}
use Rattle.saber_demo.proofs.source.Generated.new.Goals as goal

pub returns : goal.returns
returns c = rw c.new.ensures (ap (λ n. lines_from c.args.seed 0 n) (let e : c.args.rows - 0 ≡ c.args.rows = omega arith in e) ∙ all_left c.args.seed c.args.rows)
