use Rattle.std.proofs.Common.{◌++◌, ◌∙◌, ap}
use Rattle.saber_query.specs.Words.{declared_words, decls_words}
use Rattle.saber_query.specs.Spelling.{spaced_text}
use Rattle.saber_show.specs.Rest.{body_words}
use Rattle.saber_show.proofs.SpellLemmas.{joined}
use Rattle.saber_show.proofs.RestLemmas.{on_ok}
use Rattle.saber_show.proofs.query.rest.Goals as goal

pub returns : goal.returns
returns c =
    let s = c.args.select.now in
    on_ok c.body.result (λ h. joined _ _ _ (declared_words s.decl) (decls_words s.decls ++ body_words s) c.in_ok-declared.ensures
    (joined _ _ _ (decls_words s.decls) (body_words s) (c.in_ok-decls.ensures ∙ ap (λ z. c.declared.new.out.items ++ spaced_text (decls_words z)) c.as_slice.ensures) h)) c.body.ensures
