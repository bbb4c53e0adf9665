use Rattle.std.proofs.Common.{◌∷◌, [], ◌++◌, ap, sym, ◌∙◌}
use Rattle.std.proofs.lemmas.List.{nil_from_length}
use Rattle.saber_plan.specs.Rows.{lines_of}
use Rattle.saber_demo.specs.Summary.{last_content}
use Rattle.saber_demo.proofs.LineLaws.{last_fed, last_unfed}
use Rattle.saber_demo.proofs.summaries.last_line.Goals as goal

pub returns-in-None : goal.returns-in-None
unfolding lines_of
returns-in-None c = sym (ap (λ text. last_content (lines_of text)) (nil_from_length c.args.text.now c.in-None.ensures.cases))

pub returns-then-last-eq10 : goal.returns-then-last-eq10
returns-then-last-eq10 c =
    let is = c.in-Some.ensures.cases.0 ∙ ap (λ b. c.in-Some.before.now ++ b ∷ []) c.if-last-eq10.true in
    last_fed c.args.text.now c.in-Some.before.now c.behind_feeds.result.now is c.behind_feeds.ensures

pub returns-else-last-eq10 : goal.returns-else-last-eq10
returns-else-last-eq10 c = last_unfed c.args.text.now c.in-Some.before.now c.behind_feeds-else-last-eq10.result.now c.in-Some.last.now c.in-Some.ensures.cases.0 c.if-last-eq10.false c.behind_feeds-else-last-eq10.ensures
