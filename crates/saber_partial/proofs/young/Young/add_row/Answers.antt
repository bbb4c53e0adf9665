use Rattle.std.proofs.Common.{◌≡◌, [], ◌∷◌, refl, ap, subst}
use Rattle.std.specs.Result.{OnOk}
use Rattle.std.specs.FinMap.{get}
use Rattle.saber_plan.specs.Trees.{tree_of}
use Rattle.saber_plan.specs.Answers.{key}
use Rattle.saber_plan.specs.Merges.{joined_value}
use Rattle.saber_plan.specs.Parts.{Part, numbers, join_numbers}
use Rattle.saber_partial.specs.Young.{young_part}
use Rattle.saber_partial.proofs.Fitting.{aggregates_count}
use Rattle.saber_partial.proofs.Adding.{add_at, add_fits}
use Rattle.saber_partial.proofs.young.Young.add_row.Goals as goal

pub add-requires-clause-fit : goal.add-requires-clause-fit
add-requires-clause-fit c = aggregates_count (tree_of c.args.aggregates.now) c.keys.ensures.checked c.requires.group c.args.row.now.values c.requires.row.count

pub add-requires-clause-room : goal.add-requires-clause-room
add-requires-clause-room c =
    let q = tree_of c.args.aggregates.now in
    let zs = c.args.row.now.values in
    let m = young_part c.args.self.now.order c.args.self.now.groups.entries in
    let k = key c.keys.result.now zs in
    let here : k ≡ key q.keys zs = ap (λ ks. key ks zs) c.keys.ensures.is in
    add_fits q m zs k here c.requires.room

pub returns-clause-ok : goal.returns-clause-ok
returns-clause-ok c =
    let q = tree_of c.args.aggregates.now in
    let zs = c.args.row.now.values in
    let m = young_part c.args.self.now.order c.args.self.now.groups.entries in
    let k = key c.keys.result.now zs in
    let here : k ≡ key q.keys zs = ap (λ ks. key ks zs) c.keys.ensures.is in
    subst (λ (x : Part). OnOk c.add.result (young_part c.add.new.self.order c.add.new.self.groups.entries ≡ x))
    (add_at q m zs k (joined_value join_numbers (get m k) (numbers q.aggregates (zs ∷ []))) here refl) c.add.ensures.ok
