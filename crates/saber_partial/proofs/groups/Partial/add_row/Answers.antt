use Rattle.std.proofs.Common.{◌≡◌, [], ◌∷◌, sym, subst}
use Rattle.std.specs.Result.{OnOk}
use Rattle.saber_plan.specs.declared.plans.Plan.{Plan}
use Rattle.saber_plan.specs.declared.plans.Shape.TheVariants.{Group}
use Rattle.saber_plan.specs.declared.rows.Side.TheVariants.{Left}
use Rattle.saber_plan.specs.Trees.{tree_of}
use Rattle.saber_plan.specs.Rows.{RowFits}
use Rattle.saber_plan.specs.Checked.{columns_on}
use Rattle.saber_plan.specs.Parts.{group_part, merge}
use Rattle.saber_partial.specs.Tallies.{CanMerge}
use Rattle.saber_partial.proofs.groups.Partial.add_row.Goals as goal

pub add_by-requires-clause-group : goal.add_by-requires-clause-group
add_by-requires-clause-group g c = subst (λ (p : Plan). (tree_of p).shape ≡ Group) (sym c.of_plan.ensures) c.requires.group

pub add_by-requires-clause-row : goal.add_by-requires-clause-row
add_by-requires-clause-row g c = subst (λ (p : Plan). RowFits Left (columns_on (tree_of p).streams Left) c.args.row.now) (sym c.of_plan.ensures) c.requires.row

pub add_by-requires-clause-room : goal.add_by-requires-clause-room
add_by-requires-clause-room g c = subst (λ (p : Plan). CanMerge c.args.self.now (group_part (tree_of p) (c.args.row.now.values ∷ []))) (sym c.of_plan.ensures) c.requires.room

pub returns-clause-ok : goal.returns-clause-ok
returns-clause-ok g c =
    subst (λ (p : Plan). OnOk c.add_by.result (c.add_by.new.self ≡ merge c.args.self.now (group_part (tree_of p) (c.args.row.now.values ∷ [])))) c.of_plan.ensures c.add_by.ensures.ok
