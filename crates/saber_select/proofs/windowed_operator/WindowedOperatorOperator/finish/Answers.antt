use Rattle.std.proofs.Common.{◌≡◌, ◌∙◌, ap, subst}
use Rattle.saber_plan.specs.declared.plans.Plan.{Plan}
use Rattle.saber_plan.specs.declared.plans.Shape.TheVariants.{Select}
use Rattle.saber_plan.specs.Trees.{tree_of}
use Rattle.saber_fragment.specs.Shown.{shares_of}
use Rattle.saber_select.specs.Found.{part_of}
use Rattle.saber_select.proofs.Local.{gives_between}
use Rattle.saber_select.proofs.windowed_operator.WindowedOperatorOperator.finish.Goals as goal

pub returns : goal.returns
returns c s r x y seen whole of =
    let select = subst (λ (p : Plan). (tree_of p).shape ≡ Select) (ap (λ b. b.select) c.self-inside.view_is ∙ c.self.view_is) c.self-inside.invariant.1 in
    gives_between (tree_of c.args.self.now) select (shares_of part_of c.args.draft) s r x y seen of
