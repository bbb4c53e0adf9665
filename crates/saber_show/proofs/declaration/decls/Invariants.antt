use Rattle.std.proofs.Common.{◌≡◌, ◌++◌, drop}
use Rattle.saber_query.specs.Words.{decls_words}
use Rattle.saber_query.specs.Spelling.{spaced_text}
use Rattle.saber_show.proofs.declaration.decls.Given as goal

abbrev pub invariant-loop-decl : goal.invariant-loop-decl
invariant-loop-decl l = l.out.items ++ spaced_text (decls_words (drop l.decl-index l.decls)) ≡ l.initial.out.items ++ spaced_text (decls_words l.decls)
