use Rattle.std.proofs.Common.{refl, sym, subst}
use Rattle.std.specs.Prelude.{IfOk}
use Rattle.saber_plan.specs.Checked.{IsChecked}
use Rattle.saber_plan.specs.Sizes.{SizesFit}
use Rattle.saber_plan.specs.Trees.{Tree}
use Rattle.saber_dispatch.specs.Cutting.{CutsNothing}
use Rattle.saber_dispatch.specs.Ending.{without_end}
use Rattle.saber_dispatch.specs.Serving.{AreCutAlike}
use Rattle.saber_engine.specs.Jobs.{tree_in}
use Rattle.saber_engine.proofs.Serves.{serves_ok, still_fit}
use Rattle.saber_engine.proofs.dealt.cutter_for.Goals as goal

pub new-requires : goal.new-requires
new-requires g c = record { sizes = subst SizesFit (sym c.without_end-still.ensures) (still_fit c.args.sizes.now c.requires.sizes) }

pub returns-clause-cuts : goal.returns-clause-cuts
returns-clause-cuts g c =
    let serves = subst (λ z. IfOk c.new.result (λ k. (p : Tree) → IsChecked p → AreCutAlike z (tree_in c.in-Some.job.now) p → CutsNothing p z k)) c.without_end-still.ensures c.new.ensures.serves in
    serves_ok tree_in (without_end c.args.sizes.now) refl c.in-Some.job.now c.in-Some._others.now c.args.jobs.now c.in-Some.ensures.cases.0 c.requires.share c.new.result serves
