use Rattle.std.proofs.Common.{◌++◌, [], sym, ◌∙◌, ap, append-nil, map}
use Rattle.saber_plan.specs.Answers.{key_cmp}
use Rattle.saber_plan.specs.Parts.{numbers_of_one}
use Rattle.saber_plan.specs.Facts.Trees.{sorted_seen}
use Rattle.saber_join.specs.Found.{lines_for, values_in}
use Rattle.saber_join.proofs.Lined.{values_seen}
use Rattle.saber_join.proofs.pairs.Pairs.lines.Goals as goal

pub loop-values-init : goal.loop-values-init
loop-values-init c =
    let es = c.self.inside.pairs.entries in
    let rising = sorted_seen key_cmp (λ k. k) (λ v. numbers_of_one v.items) es c.values-values-items.ensures.ordered in
    record {
      can = tt;
      finite = tt;
      all = ap (λ vs. c.args.out.now.items ++ lines_for c.args.window vs) (ap (map (λ v. v.items)) (c.into_iter-values-iterator.ensures.into_iter_gives ∙ c.values-values-items.ensures.rest) ∙ sym (values_seen es rising) ∙ ap values_in c.self.view_is);
      behind = record { more = []; all = sym (append-nil c.args.out.now.items) };
    }
