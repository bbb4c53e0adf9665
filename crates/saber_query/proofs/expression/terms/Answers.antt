use Rattle.std.proofs.Common.{[], ◌∷◌, refl, ◌∙◌, ap}
use Rattle.std.proofs.lemmas.Result.{err_from_is_err_and}
use Rattle.saber_query.specs.declared.token.Token.TheVariants.{Mark}
use Rattle.saber_query.specs.Words.{prod_words, terms_words, adding_sign}
use Rattle.saber_query.specs.Machine.{factor, more_factors, more_terms}
use Rattle.saber_query.proofs.ParseLemmas.{no_adding, going_on, going_end, going_fails, terms_more, adding_takes}
use Rattle.saber_query.proofs.expression.terms.Goals as goal

pub returns-in_err-prod : goal.returns-in_err-prod
returns-in_err-prod c =
    let p = err_from_is_err_and c.from_residual.result c.from_residual.ensures.1 in
    rw (p.1, p.2) (going_fails more_terms (factor ∷ more_factors ∷ []) (Mark (adding_sign c.in-Some.adding)) _ _ _ _ _ terms_words prod_words c.in_err-prod.field-0.0 c.loop-adding.invariant (adding_takes _) c.in-Some.ensures.took c.in_err-prod.ensures)

pub loop-adding-preserved : goal.loop-adding-preserved
loop-adding-preserved c =
    going_on more_terms (factor ∷ more_factors ∷ []) (Mark (adding_sign c.in-Some.adding)) _ _ _ _ _ _ _ c.loop-adding.invariant (adding_takes _) c.in-Some.ensures.took c.in_ok-prod.ensures
    (ap terms_words c.in_ok-push.ensures.items ∙ terms_more _ _)

pub returns : goal.returns
returns c = rw c.from_vec.ensures (going_end more_terms _ _ _ _ c.loop-adding.invariant refl (no_adding _ c.in_default.ensures.took.1 c.in_default.ensures.took.2) c.in_default.ensures.took.0)
