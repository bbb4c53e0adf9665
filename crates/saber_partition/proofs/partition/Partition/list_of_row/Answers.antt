use Rattle.std.proofs.Common.{◌≡◌, ℕ, ℤ, List, ◌<◌, ◌++◌, length, sym, ◌∙◌, ap, subst₂, arith}
use Rattle.std.specs.List.{AllByRecursion}
use Rattle.saber_plan.specs.declared.plans.Plan.{Plan}
use Rattle.saber_plan.specs.Trees.{tree_of}
use Rattle.saber_plan.specs.Answers.{key}
use Rattle.saber_partition.proofs.Rowing.{lists_there}
use Rattle.saber_partition.proofs.Asking.{asks_in}
use Rattle.saber_partition.proofs.partition.Partition.list_of_row.Goals as goal

pub push_list-requires-clause-few : goal.push_list-requires-clause-few
push_list-requires-clause-few c =
    let none = ap length c.new-list.ensures in
    let same = ap length (c.partition.ensures.is ∙ ap (λ (p : Plan). (tree_of p).partition) c.self.view_is) in
    let few = (asks_in c.args.self.now c.self.view_is c.self.invariant.0 c.self.invariant.1 c.self.invariant.4).checked.few_lists in
    omega (arith, none, same, few)

pub push_list-requires-clause-there : goal.push_list-requires-clause-there
push_list-requires-clause-there c =
    subst₂ (λ (ns : List ℤ) (ks : List ℕ). AllByRecursion (λ k. k < length ns) ks) (sym c.values.ensures) (sym (c.partition.ensures.is ∙ ap (λ (p : Plan). (tree_of p).partition) c.self.view_is))
    (lists_there (tree_of c.args.self.now) (asks_in c.args.self.now c.self.view_is c.self.invariant.0 c.self.invariant.1 c.self.invariant.4) c.args.row.now c.requires)

pub returns : goal.returns
returns c =
    let same : c.partition.result.now ≡ (tree_of c.args.self.now).partition = c.partition.ensures.is ∙ ap (λ (p : Plan). (tree_of p).partition) c.self.view_is in
    c.push_list.ensures ∙ (λ j. c.new-list.ensures j ++ key (same j) (c.values.ensures j))
