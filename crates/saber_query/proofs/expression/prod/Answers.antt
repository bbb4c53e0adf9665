use Rattle.std.proofs.Common.{[], ◌∷◌}
use Rattle.std.proofs.lemmas.Result.{err_from_is_err_and}
use Rattle.saber_query.specs.Words.{factor_words, factors_words, prod_words}
use Rattle.saber_query.specs.Machine.{factor, more_factors}
use Rattle.saber_query.proofs.ParseLemmas.{read_then, fail_then, fail_first}
use Rattle.saber_query.proofs.expression.prod.Goals as goal

pub returns-in_err-first : goal.returns-in_err-first
returns-in_err-first c =
    let p = err_from_is_err_and c.from_residual.result c.from_residual.ensures.1 in
    rw (p.1, p.2) (fail_first (factor ∷ []) (more_factors ∷ []) prod_words factor_words c.in_err-first.field-0.0 _ _ c.in_err-first.ensures)

pub returns-in-Err : goal.returns-in-Err
returns-in-Err c = fail_then (factor ∷ []) (more_factors ∷ []) _ prod_words factors_words c.in-Err.stop _ _ _ c.in_ok-first.ensures c.in-Err.ensures

pub returns-in-Ok : goal.returns-in-Ok
returns-in-Ok c = read_then (factor ∷ []) (more_factors ∷ []) _ _ _ _ _ c.in_ok-first.ensures c.in-Ok.ensures
