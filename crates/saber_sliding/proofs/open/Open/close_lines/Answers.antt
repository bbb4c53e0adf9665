use Rattle.std.proofs.Common.{refl}
use Rattle.std.proofs.lemmas.Result.{on_ok_weaker}
use Rattle.saber_plan.specs.Trees.{tree_of}
use Rattle.saber_sliding.specs.Windows.{answers_at}
use Rattle.saber_sliding.proofs.open.Open.close_lines.Goals as goal

pub returns-clause-text : goal.returns-clause-text
returns-clause-text g c =
    on_ok_weaker c.close-closed.result (λ passed. (passed (answers_at (tree_of c.args.plan.now) c.args.self.now.slices.entries) (λ i l h. refl) tt).text) c.close-closed.ensures.text
