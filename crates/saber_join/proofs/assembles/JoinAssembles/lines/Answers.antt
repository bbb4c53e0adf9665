use Rattle.std.proofs.Common.{◌≡◌, ◌++◌, subst}
use Rattle.std.specs.Result.{OnOk}
use Rattle.saber_plan.specs.declared.plans.Plan.{Plan}
use Rattle.saber_plan.specs.declared.plans.Shape.TheVariants.{Join}
use Rattle.saber_plan.specs.Trees.{tree_of}
use Rattle.saber_join.proofs.Answering.{lines_of_part}
use Rattle.saber_join.proofs.assembles.JoinAssembles.lines.Goals as goal

pub returns-clause-ok : goal.returns-clause-ok
returns-clause-ok c =
    let q = tree_of c.args.self.now in
    let out = c.args.out.now.items in
    subst (λ t. OnOk c.lines.result (c.lines.new.out.items ≡ out ++ t)) (lines_of_part q (subst (λ (p : Plan). (tree_of p).shape ≡ Join) c.self.view_is c.self.invariant.1) c.args.i c.args.part.now) c.lines.ensures.ok
