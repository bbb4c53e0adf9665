use Rattle.std.proofs.Common.{◌≡◌, ◌+◌, get_or, set, pos, sym, ◌∙◌, ap₂, rules, to_z-of_z, arith}
use Rattle.std.proofs.lemmas.List.{length-set, get_or-set_other}
use mir.Val.{SFits}
use mir.Syntax.{w128}
use Rattle.saber_plan.specs.declared.plans.Fold.TheVariants.{Sum}
use Rattle.saber_plan.specs.Answers.{step}
use Rattle.saber_partial.proofs.Folded.{stepped_all, stepped_from, stepped_more}
use Rattle.saber_partial.proofs.joined_values.join_values.Goals as goal

pub loop-k-preserved : goal.loop-k-preserved
loop-k-preserved c =
    let fs = c.args.folds.now in
    let ys = c.args.ys.now in
    let xs = c.loop-k.xs in
    let k = c.loop-k.k in
    let inv = c.loop-k.invariant in
    let test = c.loop-k-test.true in
    let long = inv.long in
    let many = c.requires.folds in
    let z = c.step.result in
    let fits : SFits w128 z = search rules in
    let mine : SFits w128 (get_or xs k (pos 0)) = search rules in
    let theirs : SFits w128 (get_or ys k (pos 0)) = search rules in
    let more : stepped_from fs (set xs k z) ys (k + 1) ≡ stepped_from fs xs ys k =
    stepped_more fs xs ys k z (omega (arith, test, long)) (omega (arith, many, long)) (long ∙ c.requires.long)
    (c.step.ensures ∙ ap₂ (step (get_or fs k Sum)) (to_z-of_z mine) (to_z-of_z theirs)) in
    record {
      long = length-set xs k _ ∙ long;
      left = λ j h. get_or-set_other xs k j _ (pos 0) (λ e. omega (arith, h, e)) ∙ inv.left j (omega (arith, h));
      joined = simp to_z-of_z (more ∙ inv.joined);
    }

pub returns : goal.returns
returns c =
    let test = c.loop-k-test.false in
    let long = c.loop-k.invariant.long in
    sym (stepped_all c.args.folds.now c.loop-k.xs c.args.ys.now c.loop-k.k (omega (arith, test, long))) ∙ c.loop-k.invariant.joined
