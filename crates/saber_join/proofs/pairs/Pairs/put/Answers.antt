use Rattle.std.proofs.Common.{◌∙◌, ap}
use Rattle.std.specs.FinMap.{insert}
use Rattle.saber_plan.specs.Answers.{key_cmp}
use Rattle.saber_plan.specs.Parts.{numbers_of_one}
use Rattle.saber_join.specs.Found.{seen_pairs}
use Rattle.saber_plan.specs.Facts.Parts.{total, exact}
use Rattle.saber_plan.specs.Facts.Trees.{inserted}
use Rattle.saber_join.proofs.pairs.Pairs.put.Goals as goal

pub returns : goal.returns
returns c =
    let k = c.args.places in
    let v = c.args.values in
    ap seen_pairs c.in_ok-insert.ensures.entries ∙ inserted key_cmp (λ k. k) (λ v. numbers_of_one v.items) total exact k v c.self.inside.pairs.entries ∙ ap (λ m. insert m k (numbers_of_one v.items)) c.self.view_is
