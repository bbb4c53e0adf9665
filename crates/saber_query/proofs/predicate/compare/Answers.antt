use Rattle.std.proofs.Common.{List, [], ◌∷◌, ap}
use Rattle.std.proofs.lemmas.Result.{err_from_is_err_and}
use Rattle.saber_query.specs.declared.token.Token.{Token}
use Rattle.saber_query.specs.declared.token.Token.TheVariants.{Mark}
use Rattle.saber_query.specs.Words.{expr_words, cmp_sign, test_words}
use Rattle.saber_query.specs.Machine.{Symbol, factor, more_factors, more_terms, comparison}
use Rattle.saber_query.specs.declared.tree.Cmp.{Cmp}
use Rattle.saber_query.proofs.ParseLemmas.{read_then, fail_then, fail_first, as_unit, as_unit_fails}
use Rattle.saber_query.proofs.predicate.compare.Goals as goal

abbrev exprs : List Symbol
exprs = factor ∷ more_factors ∷ more_terms ∷ []

pub returns-in_err-left-clause-parses : goal.returns-in_err-left-clause-parses
returns-in_err-left-clause-parses c d =
    let p = err_from_is_err_and c.from_residual.result c.from_residual.ensures.1 in
    rw (p.1, p.2) (as_unit_fails d (λ (t : List Token). t) expr_words c.in_err-left.field-0.0 _ _ c.requires.not c.requires.open
    (fail_first exprs (comparison ∷ exprs) expr_words expr_words c.in_err-left.field-0.0 _ _ c.in_err-left.ensures))

pub returns-in-Err-clause-parses : goal.returns-in-Err-clause-parses
returns-in-Err-clause-parses c d = as_unit_fails d (λ (t : List Token). t) expr_words c.in-Err.stop _ _ c.requires.not c.requires.open
    (fail_then exprs (comparison ∷ exprs) _ expr_words expr_words c.in-Err.stop _ _ _ c.in_ok-left.ensures
    (fail_first (comparison ∷ []) exprs expr_words (λ (v : Cmp). Mark (cmp_sign v) ∷ []) c.in-Err.stop _ _ c.in-Err.ensures))

pub returns-in-Err-expr-clause-parses : goal.returns-in-Err-expr-clause-parses
returns-in-Err-expr-clause-parses c d = as_unit_fails d (λ (t : List Token). t) expr_words c.in-Err-expr.stop _ _ c.requires.not c.requires.open
    (fail_then exprs (comparison ∷ exprs) _ expr_words expr_words c.in-Err-expr.stop _ _ _ c.in_ok-left.ensures
    (fail_then (comparison ∷ []) exprs _ expr_words expr_words c.in-Err-expr.stop _ _ _ c.in-Ok.ensures c.in-Err-expr.ensures))

pub returns-in-Ok-expr-clause-parses : goal.returns-in-Ok-expr-clause-parses
returns-in-Ok-expr-clause-parses c d = rw (ap test_words c.compared.ensures) (as_unit d _ _ _ c.requires.not c.requires.open
    (read_then exprs (comparison ∷ exprs) _ _ _ _ _ c.in_ok-left.ensures
    (read_then (comparison ∷ []) exprs _ _ _ _ _ c.in-Ok.ensures c.in-Ok-expr.ensures)))
