use Rattle.std.proofs.Common.{List, [], ◌∷◌, option_map}
use Rattle.std.proofs.lemmas.Result.{err_from_is_err_and}
use Rattle.saber_query.specs.declared.token.Token.{Token}
use Rattle.saber_query.specs.declared.select.Outputs.{Outputs}
use Rattle.saber_query.specs.declared.select.Streams.{Streams}
use Rattle.saber_query.specs.Words.{item_words, items_words, source_words, second_source_words, outputs_words, streams_words, ends_words, words_of_ends}
use Rattle.saber_query.specs.Trees.{tests_of}
use Rattle.saber_query.specs.Machine.{selects, from_word, item, more_items, a_where, select_word, source, a_second, a_group}
use Rattle.saber_query.proofs.ParseLemmas.{read_then, fail_then, fail_first, chosen_words, read_words}
use Rattle.saber_query.proofs.select.take_chosen.Goals as goal

-- any words, where they don't matter
abbrev any : List Token → List Token
any w = w

pub returns-in_err-outputs-clause-parses : goal.returns-in_err-outputs-clause-parses
returns-in_err-outputs-clause-parses c =
    let p = err_from_is_err_and c.from_residual.result c.from_residual.ensures.1 in
    rw (p.1, p.2) (fail_first (select_word ∷ item ∷ more_items ∷ []) (from_word ∷ source ∷ a_second ∷ a_where c.args.left ∷ a_group ∷ []) any (λ (o : Outputs). outputs_words o.item o.items) c.in_err-outputs.field-0.0 _ _ c.in_err-outputs.ensures)

pub returns-in-Err-clause-parses : goal.returns-in-Err-clause-parses
returns-in-Err-clause-parses c = fail_then (select_word ∷ item ∷ more_items ∷ []) (from_word ∷ source ∷ a_second ∷ a_where c.args.left ∷ a_group ∷ []) _ any any c.in-Err.stop _ _ _ c.in_ok-outputs.ensures (fail_first (from_word ∷ source ∷ a_second ∷ []) (a_where c.args.left ∷ a_group ∷ []) any (λ (s : Streams). streams_words s.from s.second) c.in-Err.stop _ _ c.in-Err.ensures)

pub returns-in-Err-take_ends-clause-parses : goal.returns-in-Err-take_ends-clause-parses
returns-in-Err-take_ends-clause-parses c = fail_then (select_word ∷ item ∷ more_items ∷ []) (from_word ∷ source ∷ a_second ∷ a_where c.args.left ∷ a_group ∷ []) _ any any c.in-Err-take_ends.stop _ _ _ c.in_ok-outputs.ensures (fail_then (from_word ∷ source ∷ a_second ∷ []) (a_where c.args.left ∷ a_group ∷ []) _ any words_of_ends c.in-Err-take_ends.stop _ _ _ c.in-Ok.ensures c.in-Err-take_ends.ensures.parses)

pub returns-in-Ok-take_ends-clause-parses : goal.returns-in-Ok-take_ends-clause-parses
returns-in-Ok-take_ends-clause-parses c = read_words (selects c.args.left) _ _ _ _
    (chosen_words (item_words c.in_ok-outputs.outputs.item) (items_words c.in_ok-outputs.outputs.items) (source_words c.in-Ok.streams.from) (second_source_words c.in-Ok.streams.second)
    (ends_words (option_map tests_of c.in-Ok-take_ends.ends.predicate) c.in-Ok-take_ends.ends.group))
    (read_then (select_word ∷ item ∷ more_items ∷ []) (from_word ∷ source ∷ a_second ∷ a_where c.args.left ∷ a_group ∷ []) _ _ _ _ _ c.in_ok-outputs.ensures (read_then (from_word ∷ source ∷ a_second ∷ []) (a_where c.args.left ∷ a_group ∷ []) _ _ _ _ _ c.in-Ok.ensures c.in-Ok-take_ends.ensures.parses))
