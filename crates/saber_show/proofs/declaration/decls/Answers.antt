use Rattle.std.proofs.Common.{◌∷◌, [], refl}
use Rattle.saber_query.specs.declared.token.Keyword.TheVariants.{Stream}
use Rattle.saber_query.specs.declared.token.Token.TheVariants.{Word}
use Rattle.saber_query.specs.Words.{declared_words, decls_words}
use Rattle.saber_show.proofs.SpellLemmas.{part_written}
use Rattle.saber_show.proofs.declaration.decls.Goals as goal

pub loop-decl-preserved : goal.loop-decl-preserved
loop-decl-preserved c = part_written decls_words c.args.decls.now c.loop-decl.decl-index c.decl-item.result (Word Stream ∷ []) (declared_words c.decl-item.result) _ _ _ _ c.loop-decl-test.true c.decl-item.is (λ ys. refl) c.loop-decl.invariant c.in_ok-word.ensures c.in_ok-declared.ensures
