use Rattle.std.proofs.Common.{◌≡◌, ◌++◌, subst}
use Rattle.std.specs.Result.{OnOk}
use Rattle.saber_plan.specs.declared.plans.Plan.{Plan}
use Rattle.saber_plan.specs.declared.plans.Shape.TheVariants.{Select}
use Rattle.saber_plan.specs.Trees.{tree_of}
use Rattle.saber_select.proofs.Answering.{lines_of_part}
use Rattle.saber_select.proofs.assembles.WindowedSelectAssembles.lines.Goals as goal

pub returns-clause-ok : goal.returns-clause-ok
returns-clause-ok c =
    let q = tree_of c.args.self.now in
    let out = c.args.out.now.items in
    subst (λ t. OnOk c.lines.result (c.lines.new.out.items ≡ out ++ t)) (lines_of_part q (subst (λ (p : Plan). (tree_of p).shape ≡ Select) c.self.view_is c.self.invariant.1) c.args.i c.args.part.now c.rises.ensures) c.lines.ensures.ok
