use Rattle.std.proofs.Common.{List, [], ◌∷◌}
use Rattle.std.proofs.lemmas.Result.{err_from_is_err_and}
use Rattle.saber_query.specs.declared.token.Sign.TheVariants as s
use Rattle.saber_query.specs.declared.token.Token.{Token}
use Rattle.saber_query.specs.declared.token.Token.TheVariants.{Mark}
use Rattle.saber_query.specs.Machine.{close_sign, semicolon_sign}
use Rattle.saber_query.proofs.ParseLemmas.{then_parse, fail_first, is_close, is_end}
use Rattle.saber_query.proofs.declaration.close.Goals as goal

-- any words, where they don't matter
abbrev any : List Token → List Token
any w = w

pub returns-in_err-expect_mark : goal.returns-in_err-expect_mark
returns-in_err-expect_mark c =
    let p = err_from_is_err_and c.from_residual.result c.from_residual.ensures.1 in
    rw (p.1, p.2) (fail_first (close_sign ∷ []) (semicolon_sign ∷ []) any (λ (u : Unit {0}). Mark s.Close ∷ []) c.in_err-expect_mark.field-0.0 _ _ (c.in_err-expect_mark.ensures.parses close_sign is_close))

pub returns : goal.returns
returns c = then_parse (close_sign ∷ []) (semicolon_sign ∷ []) (Mark s.Close ∷ []) (λ (u : Unit {0}). Mark s.Semicolon ∷ []) _ _ _ _
    (c.in_ok-expect_mark.ensures.parses close_sign is_close) (c.expect_mark-2.ensures.parses semicolon_sign is_end)
