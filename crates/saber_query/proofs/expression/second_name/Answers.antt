use Rattle.std.proofs.Common.{[], ◌∷◌, refl}
use Rattle.std.proofs.lemmas.Result.{err_from_is_err_and}
use Rattle.saber_query.specs.declared.token.Sign.TheVariants as s
use Rattle.saber_query.specs.declared.token.Token.TheVariants.{Mark, Named}
use Rattle.saber_query.specs.Words.{second_words}
use Rattle.saber_query.specs.Machine.{a_name, more_column}
use Rattle.saber_query.proofs.ParseLemmas.{fail_token, read_token, read_none, no_dot}
use Rattle.saber_query.proofs.expression.second_name.Goals as goal

pub returns-then-not-take_mark : goal.returns-then-not-take_mark
returns-then-not-take_mark c = read_none more_column _ _ refl (no_dot _ c.if-not-take_mark.ensures.took.1) c.if-not-take_mark.ensures.took.0

pub returns-in_err-name : goal.returns-in_err-name
returns-in_err-name c =
    let p = err_from_is_err_and c.from_residual.result c.from_residual.ensures.1 in
    rw (p.1, p.2) (fail_token more_column (a_name ∷ []) (Mark s.Dot) second_words (λ n. Named n ∷ []) c.in_err-name.field-0.0 _ _ _ refl c.if-not-take_mark.ensures.took c.in_err-name.ensures)

pub returns : goal.returns
returns c = read_token more_column (a_name ∷ []) (Mark s.Dot) _ _ _ _ refl c.if-not-take_mark.ensures.took c.in_ok-name.ensures
