use Rattle.std.proofs.Common.{◌∷◌, [], refl}
use Rattle.saber_query.specs.declared.token.Token.TheVariants.{Mark}
use Rattle.saber_query.specs.Words.{adding_sign, prod_words, terms_words}
use Rattle.saber_show.proofs.SpellLemmas.{part_written}
use Rattle.saber_show.proofs.expression.terms.Goals as goal

pub loop-term-preserved : goal.loop-term-preserved
loop-term-preserved c = part_written terms_words c.args.terms.now c.loop-term.term-index c.term-item.result (Mark (adding_sign c.term-item.result.adding) ∷ []) (prod_words c.term-item.result.prod) _ _ _ _ c.loop-term-test.true c.term-item.is (λ ys. refl) c.loop-term.invariant c.in_ok-adding.ensures c.in_ok-prod.ensures
