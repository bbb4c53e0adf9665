use Rattle.std.proofs.Common.{List, [], ◌∷◌}
use Rattle.std.proofs.lemmas.Result.{err_from_is_err_and}
use Rattle.saber_query.specs.declared.token.Keyword.TheVariants as k
use Rattle.saber_query.specs.declared.token.Token.{Token}
use Rattle.saber_query.specs.declared.token.Token.TheVariants.{Word}
use Rattle.saber_query.specs.Words.{column_words, columns_words}
use Rattle.saber_query.specs.Machine.{by_word, column, more_columns}
use Rattle.saber_query.proofs.ParseLemmas.{read_then, fail_then, fail_first, is_by}
use Rattle.saber_query.proofs.clauses.by_columns.Goals as goal

-- any words, where they don't matter
abbrev any : List Token → List Token
any w = w

pub returns-in_err-expect_word : goal.returns-in_err-expect_word
returns-in_err-expect_word c =
    let p = err_from_is_err_and c.from_residual.result c.from_residual.ensures.1 in
    rw (p.1, p.2) (fail_first (by_word ∷ []) (column ∷ more_columns ∷ []) any (λ (u : Unit {0}). Word k.By ∷ []) c.in_err-expect_word.field-0.0 _ _ (c.in_err-expect_word.ensures.parses by_word is_by))

pub returns-in_err-first : goal.returns-in_err-first
returns-in_err-first c =
    let p = err_from_is_err_and c.from_residual-in_err-first.result c.from_residual-in_err-first.ensures.1 in
    rw (p.1, p.2) (fail_then (by_word ∷ []) (column ∷ more_columns ∷ []) _ any any c.in_err-first.field-0.0 _ _ _ (c.in_ok-expect_word.ensures.parses by_word is_by) (fail_first (column ∷ []) (more_columns ∷ []) any column_words c.in_err-first.field-0.0 _ _ c.in_err-first.ensures))

pub returns-in-Err : goal.returns-in-Err
returns-in-Err c = fail_then (by_word ∷ []) (column ∷ more_columns ∷ []) _ any any c.in-Err.stop _ _ _ (c.in_ok-expect_word.ensures.parses by_word is_by) (fail_then (column ∷ []) (more_columns ∷ []) _ any columns_words c.in-Err.stop _ _ _ c.in_ok-first.ensures c.in-Err.ensures)

pub returns-in-Ok : goal.returns-in-Ok
returns-in-Ok c = read_then (by_word ∷ []) (column ∷ more_columns ∷ []) _ _ _ _ _ (c.in_ok-expect_word.ensures.parses by_word is_by) (read_then (column ∷ []) (more_columns ∷ []) _ _ _ _ _ c.in_ok-first.ensures c.in-Ok.ensures)
