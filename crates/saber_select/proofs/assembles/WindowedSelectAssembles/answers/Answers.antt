use Rattle.std.proofs.Common.{◌≡◌, ◌∙◌, subst}
use Rattle.saber_plan.specs.declared.plans.Plan.{Plan}
use Rattle.saber_plan.specs.declared.plans.Shape.TheVariants.{Select}
use Rattle.saber_plan.specs.Trees.{tree_of}
use Rattle.saber_select.proofs.Answering.{answers_of_part}
use Rattle.saber_select.proofs.assembles.WindowedSelectAssembles.answers.Goals as goal

pub returns : goal.returns
returns c = c.in_ok-answers.ensures ∙ answers_of_part (tree_of c.args.self.now) (subst (λ (p : Plan). (tree_of p).shape ≡ Select) c.self.view_is c.self.invariant.1) c.args.part.now c.rises.ensures
