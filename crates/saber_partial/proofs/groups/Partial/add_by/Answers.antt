use Rattle.std.proofs.Common.{◌≡◌, [], ◌∷◌, ◌++◌, refl, ◌∙◌, subst}
use Rattle.std.specs.Result.{OnOk}
use Rattle.std.specs.FinMap.{get}
use Rattle.saber_plan.specs.Trees.{tree_of}
use Rattle.saber_plan.specs.Answers.{key}
use Rattle.saber_plan.specs.Merges.{joined_value}
use Rattle.saber_plan.specs.Parts.{Part, numbers, join_numbers}
use Rattle.saber_partial.proofs.Fitting.{aggregates_count}
use Rattle.saber_partial.proofs.Adding.{add_at, add_fits}
use Rattle.saber_partial.proofs.groups.Partial.add_by.Goals as goal

pub add-requires-clause-fit : goal.add-requires-clause-fit
add-requires-clause-fit c = aggregates_count (tree_of c.args.aggregates.now) c.keys.ensures.checked c.requires.group c.args.row.now.values c.requires.row.count

pub add-requires-clause-room : goal.add-requires-clause-room
add-requires-clause-room c =
    let q = tree_of c.args.aggregates.now in
    let zs = c.args.row.now.values in
    let k = c.as_slice.result.now in
    let here : k ≡ key q.keys zs = c.as_slice.ensures.value ∙ c.push_key.ensures ∙ (λ i. c.new-list.ensures i ++ key (c.keys.ensures.is i) (c.values.ensures i)) in
    add_fits q c.args.self.now zs k here c.requires.room

pub returns-clause-ok : goal.returns-clause-ok
returns-clause-ok c =
    let q = tree_of c.args.aggregates.now in
    let zs = c.args.row.now.values in
    let m = c.args.self.now in
    let k = c.as_slice.result.now in
    let here : k ≡ key q.keys zs = c.as_slice.ensures.value ∙ c.push_key.ensures ∙ (λ i. c.new-list.ensures i ++ key (c.keys.ensures.is i) (c.values.ensures i)) in
    subst (λ (x : Part). OnOk c.add.result (c.add.new.self ≡ x)) (add_at q m zs k (joined_value join_numbers (get m k) (numbers q.aggregates (zs ∷ []))) here refl) c.add.ensures.ok
