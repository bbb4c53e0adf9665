use Rattle.std.proofs.Common.{List, [], ◌∷◌}
use Rattle.std.proofs.lemmas.Result.{err_from_is_err_and}
use Rattle.saber_query.specs.declared.token.Sign.TheVariants as s
use Rattle.saber_query.specs.declared.token.Token.{Token}
use Rattle.saber_query.specs.declared.token.Token.TheVariants.{Mark, Named}
use Rattle.saber_query.specs.declared.tree.Decl.{Decl}
use Rattle.saber_query.specs.Words.{names_words}
use Rattle.saber_query.specs.Machine.{open_sign, close_sign, a_name, semicolon_sign, more_names}
use Rattle.saber_query.proofs.ParseLemmas.{read_then, fail_then, fail_first}
use Rattle.saber_query.proofs.declaration.declared.Goals as goal

-- any words, where they don't matter
abbrev any : List Token → List Token
any w = w

pub returns-in_err-decl : goal.returns-in_err-decl
returns-in_err-decl c =
    let p = err_from_is_err_and c.from_residual.result c.from_residual.ensures.1 in
    rw (p.1, p.2) (fail_first (a_name ∷ open_sign ∷ a_name ∷ more_names ∷ []) (close_sign ∷ semicolon_sign ∷ []) any (λ (d : Decl). Named d.name ∷ Mark s.Open ∷ Named d.first ∷ names_words d.more) c.in_err-decl.field-0.0 _ _ (c.in_err-decl.ensures))

pub returns-in-Err : goal.returns-in-Err
returns-in-Err c = fail_then (a_name ∷ open_sign ∷ a_name ∷ more_names ∷ []) (close_sign ∷ semicolon_sign ∷ []) _ any (λ (u : Unit {0}). Mark s.Close ∷ Mark s.Semicolon ∷ []) c.in-Err.stop _ _ _ (c.in_ok-decl.ensures) (c.in-Err.ensures)

pub returns-in-Ok : goal.returns-in-Ok
returns-in-Ok c = read_then (a_name ∷ open_sign ∷ a_name ∷ more_names ∷ []) (close_sign ∷ semicolon_sign ∷ []) _ _ _ _ _ (c.in_ok-decl.ensures) (c.in-Ok.ensures)
