use Rattle.std.proofs.Common.{sym, ◌∙◌, refl}
use Rattle.saber_plan.specs.Trees.{tree_of}
use Rattle.saber_dispatch.proofs.Beginning.{keeps_none}
use Rattle.saber_dispatch.proofs.opening.lasts_for.Goals as goal

pub returns-in-Join : goal.returns-in-Join
returns-in-Join c n = keeps_none (tree_of c.args.plan.now) n (record { windows = c.of_plan.result; first = 0; list = c.new.result }) (sym c.shape.ensures.is ∙ c.in-Join.is) c.of_plan.ensures.frame refl c.new.ensures.items
