use Rattle.std.proofs.Common.{ap, option_map, Bor, ℕ, List}
use Rattle.saber_cli.proofs.RowLemmas.{right_unopened}
use Rattle.saber_cli.proofs.row_files.open_rows.Goals as goal

pub returns-in-Err-clause-refused : goal.returns-in-Err-clause-refused
returns-in-Err-clause-refused g c =
    right_unopened c.args.rows.now c.in-Some.name.now c.in-Err.outcome _ _ _ _ _ _ (ap (option_map (λ (name : Bor (List ℕ)). name.now)) c.in-Some.is) c.in_ok-first.ensures.opens c.in_ok-first.ensures.fresh c.in_ok-first.ensures.asked c.in-Err.ensures.refused c.close_file.ensures.closed
