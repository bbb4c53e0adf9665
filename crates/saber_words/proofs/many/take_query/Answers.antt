use Rattle.std.proofs.Common.{◌∙◌, sym, ap, map, [], ◌∷◌, append-nil, Bor}
use Rattle.std.proofs.lemmas.List.{map-append}
use Rattle.clap.specs.Walk.{Text}
use Rattle.clap.specs.Words.{found_of}
use Rattle.saber_words.proofs.Values.{first_of-rows}
use Rattle.saber_words.proofs.many.take_query.Goals as goal

abbrev text : Bor Text → Text
text s = s.now

pub returns-in_ok-push : goal.returns-in_ok-push
returns-in_ok-push c =
    let read = first_of-rows (found_of c.args.values.now) c.args.name.now c.get_str.result c.get_str.ensures in
    rw (read, c.in-Some.is) (ap (map text) c.in_ok-push.ensures.items ∙ map-append text c.args.queries.now.items (c.in-Some.query ∷ []))

pub returns-in_default : goal.returns-in_default
returns-in_default c =
    let read = first_of-rows (found_of c.args.values.now) c.args.name.now c.get_str.result c.get_str.ensures in
    rw (read, c.in_default.is) (sym (append-nil (map text c.args.queries.now.items)))
