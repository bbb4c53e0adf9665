use Rattle.std.proofs.Common.{◌≡◌, [], List, ℤ, length, sym, ◌∙◌, ap, ap₂, subst}
use Rattle.std.specs.FinMap.{empty}
use Rattle.saber_plan.specs.Trees.{tree_of}
use Rattle.saber_partition.specs.declared.keyed.Keyed.{Keyed}
use Rattle.saber_partition.specs.Lists.{Lists, kept_in, TakenAll}
use Rattle.saber_partition.specs.Stores.{own_lists}
use Rattle.saber_partition.proofs.Listing.{nothing_held, taken_nothing}
use Rattle.saber_partition.proofs.operator.PartitionOperator.empty_store.Goals as goal

pub returns-clause-contents : goal.returns-clause-contents
returns-clause-contents c = ap kept_in (ap₂ own_lists c.new.ensures c.new-2.ensures.items) ∙ (λ j. record { parts = empty; lists = nothing_held j; answers = [] })

pub returns-clause-taken : goal.returns-clause-taken
returns-clause-taken c =
    let none : own_lists c.new.result c.new-2.result.items ≡ empty = ap₂ own_lists c.new.ensures c.new-2.ensures.items in
    (subst (λ (m : Lists). TakenAll (tree_of c.args.self.now) [] m) (sym none) (taken_nothing (tree_of c.args.self.now)), ap length c.new-2.ensures.items ∙ sym (ap length c.new.ensures))
