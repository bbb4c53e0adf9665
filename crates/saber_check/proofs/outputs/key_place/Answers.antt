use Rattle.std.proofs.Common.{◌==◌, sym, ap, ◌∙◌}
use Rattle.std.specs.List.{position}
use Rattle.saber_query.specs.Trees.{query_of}
use Rattle.saber_check.specs.Plans.{key_place}
use Rattle.saber_check.proofs.outputs.key_place.Goals as goal

pub returns-in-Column : goal.returns-in-Column
returns-in-Column c =
    c.place_among.ensures
    ∙ ap (λ n. position (λ k. k == n) c.args.keys.now) c.plan_place.ensures
    ∙ ap (position (λ k. k == _)) c.requires.keys
    ∙ sym (ap (key_place (query_of c.args.query.now)) c.in-Column.is)
