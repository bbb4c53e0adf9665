use Rattle.std.proofs.Common.{List, [], ◌∷◌, refl, ◌∙◌, ap}
use Rattle.std.proofs.lemmas.Result.{err_from_is_err_and}
use Rattle.saber_query.specs.declared.token.Sign.TheVariants as s
use Rattle.saber_query.specs.declared.token.Token.{Token}
use Rattle.saber_query.specs.declared.token.Token.TheVariants.{Mark}
use Rattle.saber_query.specs.Words.{name_words, names_words}
use Rattle.saber_query.specs.Machine.{a_name, more_names}
use Rattle.saber_query.proofs.ParseLemmas.{going_on, going_end, going_fails, names_more, no_more_name}
use Rattle.saber_query.proofs.declaration.names.Goals as goal

-- any words, where they don't matter
abbrev any : List Token → List Token
any w = w

pub returns-in_err-name : goal.returns-in_err-name
returns-in_err-name c =
    let p = err_from_is_err_and c.from_residual.result c.from_residual.ensures.1 in
    rw (p.1, p.2) (going_fails more_names (a_name ∷ []) (Mark s.Comma) _ _ _ _ _ names_words name_words c.in_err-name.field-0.0 c.loop-items.invariant refl c.loop-items-test.ensures.took c.in_err-name.ensures)

pub loop-items-preserved : goal.loop-items-preserved
loop-items-preserved c =
    going_on more_names (a_name ∷ []) (Mark s.Comma) _ _ _ _ _ _ _ c.loop-items.invariant refl c.loop-items-test.ensures.took c.in_ok-name.ensures
    (ap names_words c.in_ok-push.ensures.items ∙ names_more _ _)

pub returns : goal.returns
returns c = rw c.from_vec.ensures (going_end more_names _ _ _ _ c.loop-items.invariant refl (no_more_name _ c.loop-items-test.ensures.took.1) c.loop-items-test.ensures.took.0)
