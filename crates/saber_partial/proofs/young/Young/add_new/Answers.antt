use Rattle.std.proofs.Common.{◌≡◌, ◌++◌, ◌∷◌, [], sym, ◌∙◌, subst}
use Rattle.saber_plan.specs.Answers.{key}
use Rattle.saber_plan.specs.Trees.{tree_of}
use Rattle.saber_plan.specs.Parts.{numbers}
use Rattle.saber_partial.specs.Tallies.{FitsAt}
use Rattle.saber_partial.specs.Young.{young_part}
use Rattle.saber_partial.proofs.young.Young.add_new.Goals as goal

pub add_first-requires-clause-room : goal.add_first-requires-clause-room
add_first-requires-clause-room c =
    let here : c.as_slice.result.now ≡ key c.args.columns.now c.args.row.now.values = c.as_slice.ensures.value ∙ c.push_key.ensures ∙ (λ i. c.new-list.ensures i ++ key c.args.columns.now (c.values.ensures i)) in
    subst (λ l. FitsAt (young_part c.args.self.now.order c.args.self.now.groups.entries) l (numbers (tree_of c.args.aggregates.now).aggregates (c.args.row.now.values ∷ []))) (sym here) c.requires.room
