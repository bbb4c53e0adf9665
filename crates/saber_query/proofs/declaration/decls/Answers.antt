use Rattle.std.proofs.Common.{List, refl, ◌∙◌, ap}
use Rattle.std.proofs.lemmas.Result.{err_from_is_err_and}
use Rattle.saber_query.specs.declared.token.Keyword.TheVariants as k
use Rattle.saber_query.specs.declared.token.Token.{Token}
use Rattle.saber_query.specs.declared.token.Token.TheVariants.{Word}
use Rattle.saber_query.specs.Words.{declared_words, decls_words}
use Rattle.saber_query.specs.Machine.{declaration_symbols, more_decls}
use Rattle.saber_query.proofs.ParseLemmas.{going_on, going_end, going_fails, decls_more, no_more_stream}
use Rattle.saber_query.proofs.declaration.decls.Goals as goal

-- any words, where they don't matter
abbrev any : List Token → List Token
any w = w

pub returns-in_err-declared : goal.returns-in_err-declared
returns-in_err-declared c =
    let p = err_from_is_err_and c.from_residual.result c.from_residual.ensures.1 in
    rw (p.1, p.2) (going_fails more_decls declaration_symbols (Word k.Stream) _ _ _ _ _ decls_words declared_words c.in_err-declared.field-0.0 c.loop-alloc.invariant refl c.loop-alloc-test.ensures.took c.in_err-declared.ensures)

pub loop-alloc-preserved : goal.loop-alloc-preserved
loop-alloc-preserved c =
    going_on more_decls declaration_symbols (Word k.Stream) _ _ _ _ _ _ _ c.loop-alloc.invariant refl c.loop-alloc-test.ensures.took c.in_ok-declared.ensures
    (ap decls_words c.in_ok-push.ensures.items ∙ decls_more _ _)

pub returns : goal.returns
returns c = rw c.from_vec.ensures (going_end more_decls _ _ _ _ c.loop-alloc.invariant refl (no_more_stream _ c.loop-alloc-test.ensures.took.1) c.loop-alloc-test.ensures.took.0)
