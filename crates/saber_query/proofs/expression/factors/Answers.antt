use Rattle.std.proofs.Common.{[], ◌∷◌, refl, ◌∙◌, ap}
use Rattle.std.proofs.lemmas.Result.{err_from_is_err_and}
use Rattle.saber_query.specs.declared.token.Sign.TheVariants as s
use Rattle.saber_query.specs.declared.token.Token.TheVariants.{Mark}
use Rattle.saber_query.specs.Words.{factor_words, factors_words}
use Rattle.saber_query.specs.Machine.{factor, more_factors}
use Rattle.saber_query.proofs.ParseLemmas.{no_star, going_on, going_end, going_fails, factors_more}
use Rattle.saber_query.proofs.expression.factors.Goals as goal

pub returns-in_err-factor : goal.returns-in_err-factor
returns-in_err-factor c =
    let p = err_from_is_err_and c.from_residual.result c.from_residual.ensures.1 in
    rw (p.1, p.2) (going_fails more_factors (factor ∷ []) (Mark s.Star) _ _ _ _ _ factors_words factor_words c.in_err-factor.field-0.0 c.loop-items.invariant refl c.loop-items-test.ensures.took c.in_err-factor.ensures)

pub loop-items-preserved : goal.loop-items-preserved
loop-items-preserved c =
    going_on more_factors (factor ∷ []) (Mark s.Star) _ _ _ _ _ _ _ c.loop-items.invariant refl c.loop-items-test.ensures.took c.in_ok-factor.ensures
    (ap factors_words c.in_ok-push.ensures.items ∙ factors_more _ _)

pub returns : goal.returns
returns c = rw c.from_vec.ensures (going_end more_factors _ _ _ _ c.loop-items.invariant refl (no_star _ c.loop-items-test.ensures.took.1) c.loop-items-test.ensures.took.0)
