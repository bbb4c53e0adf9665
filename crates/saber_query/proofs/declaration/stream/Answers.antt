use Rattle.std.proofs.Common.{ℕ, List, [], ◌∷◌}
use Rattle.std.proofs.lemmas.Result.{err_from_is_err_and}
use Rattle.saber_query.specs.declared.token.Sign.TheVariants as s
use Rattle.saber_query.specs.declared.token.Token.{Token}
use Rattle.saber_query.specs.declared.token.Token.TheVariants.{Mark, Named}
use Rattle.saber_query.specs.Machine.{open_sign, a_name}
use Rattle.saber_query.proofs.ParseLemmas.{read_then, fail_then, fail_first, is_open}
use Rattle.saber_query.proofs.declaration.stream.Goals as goal

-- any words, where they don't matter
abbrev any : List Token → List Token
any w = w

pub returns-in_err-stream : goal.returns-in_err-stream
returns-in_err-stream c =
    let p = err_from_is_err_and c.from_residual.result c.from_residual.ensures.1 in
    rw (p.1, p.2) (fail_first (a_name ∷ []) (open_sign ∷ []) any (λ (n : List ℕ). Named n ∷ []) c.in_err-stream.field-0.0 _ _ (c.in_err-stream.ensures))

pub returns-in-Err : goal.returns-in-Err
returns-in-Err c = fail_then (a_name ∷ []) (open_sign ∷ []) _ any (λ (u : Unit {0}). Mark s.Open ∷ []) c.in-Err.stop _ _ _ (c.in_ok-stream.ensures) (c.in-Err.ensures.parses open_sign is_open)

pub returns-in-Ok : goal.returns-in-Ok
returns-in-Ok c = read_then (a_name ∷ []) (open_sign ∷ []) _ _ _ _ _ (c.in_ok-stream.ensures) (c.in-Ok.ensures.parses open_sign is_open)
