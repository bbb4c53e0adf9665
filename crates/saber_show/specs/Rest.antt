-- A query's words but the first.
use Rattle.std.specs.Prelude.{List, ◌++◌, option_map}
use Rattle.saber_query.specs.declared.token.Token.{Token}
use Rattle.saber_query.specs.declared.tree.Select.{Select}
use Rattle.saber_query.specs.Trees.{tests_of}
use Rattle.saber_query.specs.Words.{declared_words, decls_words, opened_words, shut_words, outputs_words, streams_words, ends_words, last_words}

-- from SELECT on, but for the last semicolon
abbrev pub chosen_words : Select → List Token
chosen_words q = outputs_words q.item q.items ++ (streams_words q.from q.second ++ ends_words (option_map tests_of q.predicate) q.group)

-- from behind the declarations on
abbrev pub body_words : Select → List Token
body_words q = opened_words q.word ++ (chosen_words q ++ (shut_words q.word ++ last_words q.closed))

-- from behind the first STREAM on
abbrev pub rest_words : Select → List Token
rest_words q = declared_words q.decl ++ (decls_words q.decls ++ body_words q)
