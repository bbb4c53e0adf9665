use Rattle.std.proofs.Common.{List, [], ◌∷◌}
use Rattle.std.proofs.lemmas.Result.{err_from_is_err_and}
use Rattle.saber_query.specs.declared.token.Keyword.TheVariants as k
use Rattle.saber_query.specs.declared.token.Token.{Token}
use Rattle.saber_query.specs.declared.token.Token.TheVariants.{Word}
use Rattle.saber_query.specs.Words.{by_words}
use Rattle.saber_query.specs.Machine.{rows_word, by_word, column, more_columns}
use Rattle.saber_query.proofs.ParseLemmas.{read_then, fail_then, fail_first, is_rows}
use Rattle.saber_query.proofs.clauses.partition.Goals as goal

-- any words, where they don't matter
abbrev any : List Token → List Token
any w = w

pub returns-in_err-keys : goal.returns-in_err-keys
returns-in_err-keys c =
    let p = err_from_is_err_and c.from_residual.result c.from_residual.ensures.1 in
    rw (p.1, p.2) (fail_first (by_word ∷ column ∷ more_columns ∷ []) (rows_word ∷ []) any by_words c.in_err-keys.field-0.0 _ _ c.in_err-keys.ensures)

pub returns-in-Err : goal.returns-in-Err
returns-in-Err c = fail_then (by_word ∷ column ∷ more_columns ∷ []) (rows_word ∷ []) _ any (λ (u : Unit {0}). Word k.Rows ∷ []) c.in-Err.stop _ _ _ c.in_ok-keys.ensures (c.in-Err.ensures.parses rows_word is_rows)

pub returns-in-Ok : goal.returns-in-Ok
returns-in-Ok c = read_then (by_word ∷ column ∷ more_columns ∷ []) (rows_word ∷ []) _ _ _ _ _ c.in_ok-keys.ensures (c.in-Ok.ensures.parses rows_word is_rows)
