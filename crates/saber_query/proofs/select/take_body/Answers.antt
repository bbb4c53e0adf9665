use Rattle.std.proofs.Common.{List, [], ◌∷◌, ◌++◌}
use Rattle.std.proofs.lemmas.Result.{err_from_is_err_and}
use Rattle.saber_query.specs.declared.token.Sign.TheVariants as s
use Rattle.saber_query.specs.declared.token.Token.{Token}
use Rattle.saber_query.specs.declared.token.Token.TheVariants.{Word, Mark}
use Rattle.saber_query.specs.declared.select.Chosen.{Chosen}
use Rattle.saber_query.specs.Words.{stream_keyword, asked_words, asked_of, words_of_body}
use Rattle.saber_query.specs.Machine.{body, word_symbols}
use Rattle.saber_query.proofs.ParseLemmas.{fail_token, read_token, word_takes, as_body, as_body_fails}
use Rattle.saber_query.proofs.select.take_body.Goals as goal

-- any words, where they don't matter
abbrev any : List Token → List Token
any w = w

pub returns-in_err-chosen-clause-parses : goal.returns-in_err-chosen-clause-parses
returns-in_err-chosen-clause-parses c =
    let p = err_from_is_err_and c.from_residual.result c.from_residual.ensures.1 in
    rw (p.1, p.2) (as_body_fails c.args.left words_of_body (λ (c : Chosen). asked_words (asked_of c)) c.in_err-chosen.field-0.0 _ _ _ c.in_default.ensures.took.0 c.in_default.ensures.took.1 c.in_err-chosen.ensures.parses)

pub returns-in_default-clause-parses : goal.returns-in_default-clause-parses
returns-in_default-clause-parses c = as_body c.args.left _ _ _ _ c.in_default.ensures.took.0 c.in_default.ensures.took.1 c.in_ok-chosen.ensures.parses

pub returns-in_err-chosen-2-clause-parses : goal.returns-in_err-chosen-2-clause-parses
returns-in_err-chosen-2-clause-parses c =
    let p = err_from_is_err_and c.from_residual-in_err-chosen-2.result c.from_residual-in_err-chosen-2.ensures.1 in
    rw (p.1, p.2) (fail_token (body c.args.left) (word_symbols c.args.left) (Word (stream_keyword c.in-Some.word)) words_of_body (λ (c : Chosen). Mark s.Open ∷ (asked_words (asked_of c) ++ Mark s.Close ∷ [])) c.in_err-chosen-2.field-0.0 _ _ _ (word_takes _ c.args.left) c.in-Some.ensures.took c.in_err-chosen-2.ensures.parses)

pub returns-clause-parses : goal.returns-clause-parses
returns-clause-parses c = read_token (body c.args.left) (word_symbols c.args.left) (Word (stream_keyword c.in-Some.word)) _ _ _ _ (word_takes _ c.args.left) c.in-Some.ensures.took c.in_ok-chosen-2.ensures.parses
