use Rattle.std.proofs.Common.{◌++◌, option_map}
use Rattle.saber_query.specs.Trees.{tests_of}
use Rattle.saber_query.specs.Words.{outputs_words, streams_words, ends_words}
use Rattle.saber_show.proofs.SpellLemmas.{joined}
use Rattle.saber_show.proofs.RestLemmas.{on_ok}
use Rattle.saber_show.proofs.query.asked.Goals as goal

pub returns : goal.returns
returns c =
    let s = c.args.select.now in
    let e = ends_words (option_map tests_of s.predicate) s.group in
    let f = streams_words s.from s.second in
    on_ok c.ends.result (λ h. joined _ _ _ (outputs_words s.item s.items) (f ++ e) c.in_ok-outputs.ensures (joined _ _ _ f e c.in_ok-streams.ensures h)) c.ends.ensures
