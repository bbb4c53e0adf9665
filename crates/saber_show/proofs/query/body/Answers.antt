use Rattle.std.proofs.Common.{◌++◌}
use Rattle.saber_query.specs.Words.{opened_words, shut_words, last_words}
use Rattle.saber_show.specs.Rest.{chosen_words}
use Rattle.saber_show.proofs.SpellLemmas.{joined}
use Rattle.saber_show.proofs.RestLemmas.{on_ok}
use Rattle.saber_show.proofs.query.body.Goals as goal

pub returns : goal.returns
returns c =
    let s = c.args.select.now in
    let l = last_words s.closed in
    let t = shut_words s.word in
    on_ok c.last.result (λ h. joined _ _ _ (opened_words s.word) (chosen_words s ++ (t ++ l)) c.in_ok-opened.ensures
    (joined _ _ _ (chosen_words s) (t ++ l) c.in_ok-asked.ensures
    (joined _ _ _ t l c.in_ok-shut.ensures h))) c.last.ensures
