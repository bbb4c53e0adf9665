use Rattle.std.proofs.Common.{ℕ, List, [], ◌∷◌}
use Rattle.std.proofs.lemmas.Result.{err_from_is_err_and}
use Rattle.saber_query.specs.declared.token.Token.{Token}
use Rattle.saber_query.specs.declared.token.Token.TheVariants.{Named}
use Rattle.saber_query.specs.Words.{names_words}
use Rattle.saber_query.specs.Machine.{a_name, more_names}
use Rattle.saber_query.proofs.ParseLemmas.{read_then, fail_then, fail_first}
use Rattle.saber_query.proofs.declaration.columns.Goals as goal

-- any words, where they don't matter
abbrev any : List Token → List Token
any w = w

pub returns-in_err-first : goal.returns-in_err-first
returns-in_err-first c =
    let p = err_from_is_err_and c.from_residual.result c.from_residual.ensures.1 in
    rw (p.1, p.2) (fail_first (a_name ∷ []) (more_names ∷ []) any (λ (n : List ℕ). Named n ∷ []) c.in_err-first.field-0.0 _ _ (c.in_err-first.ensures))

pub returns-in-Err : goal.returns-in-Err
returns-in-Err c = fail_then (a_name ∷ []) (more_names ∷ []) _ any names_words c.in-Err.stop _ _ _ (c.in_ok-first.ensures) (c.in-Err.ensures)

pub returns-in-Ok : goal.returns-in-Ok
returns-in-Ok c = read_then (a_name ∷ []) (more_names ∷ []) _ _ _ _ _ (c.in_ok-first.ensures) (c.in-Ok.ensures)
