use Rattle.std.proofs.Common.{take, refl}
use Rattle.saber_cli.specs.Puts.{part}
use Rattle.saber_cli.proofs.puts.put.Goals as goal

pub returns-in-Err-Failed-clause-written : goal.returns-in-Err-Failed-clause-written
returns-in-Err-Failed-clause-written g c = let p = c.write_all.ensures.failed (cc) in (take p.0 c.args.text.now, p.2, part p.0 refl refl)
