use Rattle.std.proofs.Common.{ℕ, List, [], ◌∷◌}
use Rattle.std.proofs.lemmas.Result.{err_from_is_err_and}
use Rattle.saber_query.specs.declared.token.Sign.TheVariants as s
use Rattle.saber_query.specs.declared.token.Token.{Token}
use Rattle.saber_query.specs.declared.token.Token.TheVariants.{Mark, Named}
use Rattle.saber_query.specs.declared.declaration.Listed.{Listed}
use Rattle.saber_query.specs.Words.{names_words}
use Rattle.saber_query.specs.Machine.{open_sign, a_name, more_names}
use Rattle.saber_query.proofs.ParseLemmas.{read_then, fail_then, fail_first}
use Rattle.saber_query.proofs.declaration.opened.Goals as goal

-- any words, where they don't matter
abbrev any : List Token → List Token
any w = w

pub returns-in_err-name : goal.returns-in_err-name
returns-in_err-name c =
    let p = err_from_is_err_and c.from_residual.result c.from_residual.ensures.1 in
    rw (p.1, p.2) (fail_first (a_name ∷ open_sign ∷ []) (a_name ∷ more_names ∷ []) any (λ (n : List ℕ). Named n ∷ Mark s.Open ∷ []) c.in_err-name.field-0.0 _ _ (c.in_err-name.ensures))

pub returns-in-Err : goal.returns-in-Err
returns-in-Err c = fail_then (a_name ∷ open_sign ∷ []) (a_name ∷ more_names ∷ []) _ any (λ (l : Listed). Named l.first ∷ names_words l.more) c.in-Err.stop _ _ _ (c.in_ok-name.ensures) (c.in-Err.ensures)

pub returns-in-Ok : goal.returns-in-Ok
returns-in-Ok c = read_then (a_name ∷ open_sign ∷ []) (a_name ∷ more_names ∷ []) _ _ _ _ _ (c.in_ok-name.ensures) (c.in-Ok.ensures)
