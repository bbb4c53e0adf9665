use Rattle.std.proofs.Common.{◌∷◌, [], refl}
use Rattle.saber_query.specs.declared.token.Sign.TheVariants.{Comma}
use Rattle.saber_query.specs.declared.token.Token.TheVariants.{Mark}
use Rattle.saber_query.specs.Words.{item_words, items_words}
use Rattle.saber_show.proofs.SpellLemmas.{part_written}
use Rattle.saber_show.proofs.select.items.Goals as goal

pub loop-other-preserved : goal.loop-other-preserved
loop-other-preserved c = part_written items_words c.args.others.now c.loop-other.other-index c.other-item.result (Mark Comma ∷ []) (item_words c.other-item.result) _ _ _ _ c.loop-other-test.true c.other-item.is (λ ys. refl) c.loop-other.invariant c.in_ok-mark.ensures c.in_ok-item.ensures
