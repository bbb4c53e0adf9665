use Rattle.std.proofs.Common.{List, [], ◌∷◌, refl, sym, ◌∙◌, ap, subst}
use Rattle.std.proofs.lemmas.Result.{err_from_is_err_and}
use Rattle.saber_query.specs.declared.token.Sign.TheVariants as s
use Rattle.saber_query.specs.declared.token.Token.{Token}
use Rattle.saber_query.specs.declared.token.Token.TheVariants.{Mark, Named, Number}
use Rattle.saber_query.specs.Words.{second_words, factor_words}
use Rattle.saber_query.specs.Machine.{a_number, factor, more_column}
use Rattle.saber_query.specs.Reading.{starts_number, StartsWith}
use Rattle.saber_query.proofs.ParseLemmas.{fail_token, read_token, read_one, refuse, no_factor}
use Rattle.saber_query.proofs.expression.factor.Goals as goal

pub returns-in-Err : goal.returns-in-Err
returns-in-Err c = fail_token factor (more_column ∷ []) (Named c.in-Some.first) factor_words second_words c.in-Err.stop _ _ _ refl c.in-Some.ensures.took c.in-Err.ensures

pub returns-in-Ok : goal.returns-in-Ok
returns-in-Ok c = read_token factor (more_column ∷ []) (Named c.in-Some.first) _ _ _ _ refl c.in-Some.ensures.took c.in-Ok.ensures

pub returns-in-Some-take_number : goal.returns-in-Some-take_number
returns-in-Some-take_number c = read_one factor _ _ _ refl (sym c.in_default.ensures.took.0 ∙ c.in-Some-take_number.ensures.took)

pub returns-in_err-number : goal.returns-in_err-number
returns-in_err-number c =
    let p = err_from_is_err_and c.from_residual.result c.from_residual.ensures.1 in
    rw (p.1, p.2) (fail_token factor (a_number ∷ []) (Mark s.Minus) factor_words (λ n. Number n ∷ []) c.in_err-number.field-0.0 _ _ _ refl
    (sym c.in_default.ensures.took.0 ∙ sym c.in_default-take_number.ensures.took.0 ∙ c.if-take_mark.ensures.took) c.in_err-number.ensures)

pub returns-then-take_mark : goal.returns-then-take_mark
returns-then-take_mark c = read_token factor (a_number ∷ []) (Mark s.Minus) _ _ _ _ refl (sym c.in_default.ensures.took.0 ∙ sym c.in_default-take_number.ensures.took.0 ∙ c.if-take_mark.ensures.took) c.in_ok-number.ensures

pub returns : goal.returns
returns c = refuse factor _ _ refl
    (no_factor _ c.in_default.ensures.took.1 (ap starts_number (sym c.in_default.ensures.took.0) ∙ c.in_default-take_number.ensures.took.1)
    (λ h. c.if-take_mark.ensures.took.1 (let P : List Token → Type 0 = StartsWith (Mark s.Minus) in subst P (sym (c.in_default-take_number.ensures.took.0 ∙ c.in_default.ensures.took.0)) h)))
    (c.if-take_mark.ensures.took.0 ∙ c.in_default-take_number.ensures.took.0 ∙ c.in_default.ensures.took.0)
