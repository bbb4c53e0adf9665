use Rattle.std.proofs.Common.{List, [], ◌∷◌, ◌++◌}
use Rattle.std.proofs.lemmas.Result.{err_from_is_err_and}
use Rattle.saber_query.specs.declared.token.Sign.TheVariants as s
use Rattle.saber_query.specs.declared.token.Token.{Token}
use Rattle.saber_query.specs.declared.token.Token.TheVariants.{Mark}
use Rattle.saber_query.specs.declared.select.Chosen.{Chosen}
use Rattle.saber_query.specs.Words.{asked_words, asked_of}
use Rattle.saber_query.specs.Machine.{open_sign, close_sign, selects}
use Rattle.saber_query.proofs.ParseLemmas.{read_then, fail_then, fail_first, is_open, is_close}
use Rattle.saber_query.proofs.select.in_parentheses.Goals as goal

-- any words, where they don't matter
abbrev any : List Token → List Token
any w = w

pub returns-in_err-expect_mark-clause-parses : goal.returns-in_err-expect_mark-clause-parses
returns-in_err-expect_mark-clause-parses c =
    let p = err_from_is_err_and c.from_residual.result c.from_residual.ensures.1 in
    rw (p.1, p.2) (fail_first (open_sign ∷ []) (selects c.args.left ++ close_sign ∷ []) any (λ (u : Unit {0}). Mark s.Open ∷ []) c.in_err-expect_mark.field-0.0 _ _ (c.in_err-expect_mark.ensures.parses open_sign is_open))

pub returns-in_err-chosen-clause-parses : goal.returns-in_err-chosen-clause-parses
returns-in_err-chosen-clause-parses c =
    let p = err_from_is_err_and c.from_residual-in_err-chosen.result c.from_residual-in_err-chosen.ensures.1 in
    rw (p.1, p.2) (fail_then (open_sign ∷ []) (selects c.args.left ++ close_sign ∷ []) _ any any c.in_err-chosen.field-0.0 _ _ _ (c.in_ok-expect_mark.ensures.parses open_sign is_open) (fail_first (selects c.args.left) (close_sign ∷ []) any (λ (c : Chosen). asked_words (asked_of c)) c.in_err-chosen.field-0.0 _ _ c.in_err-chosen.ensures.parses))

pub returns-in-Err-clause-parses : goal.returns-in-Err-clause-parses
returns-in-Err-clause-parses c = fail_then (open_sign ∷ []) (selects c.args.left ++ close_sign ∷ []) _ any any c.in-Err.stop _ _ _ (c.in_ok-expect_mark.ensures.parses open_sign is_open) (fail_then (selects c.args.left) (close_sign ∷ []) _ any (λ (u : Unit {0}). Mark s.Close ∷ []) c.in-Err.stop _ _ _ c.in_ok-chosen.ensures.parses (c.in-Err.ensures.parses close_sign is_close))

pub returns-in-Ok-clause-parses : goal.returns-in-Ok-clause-parses
returns-in-Ok-clause-parses c = read_then (open_sign ∷ []) (selects c.args.left ++ close_sign ∷ []) _ _ _ _ _ (c.in_ok-expect_mark.ensures.parses open_sign is_open) (read_then (selects c.args.left) (close_sign ∷ []) _ _ _ _ _ c.in_ok-chosen.ensures.parses (c.in-Ok.ensures.parses close_sign is_close))
