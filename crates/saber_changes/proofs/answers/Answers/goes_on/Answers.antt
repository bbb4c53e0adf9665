use Rattle.std.proofs.Common.{get_or, sym, ◌∙◌, ap, subst, arith}
use Rattle.std.proofs.lemmas.Bool.{not-true}
use Rattle.saber_changes.specs.Rising.{is_below, Rises}
use Rattle.saber_changes.proofs.Apart.{more_rise}
use Rattle.saber_changes.proofs.answers.Answers.goes_on.Goals as goal

pub returns-else-count-eq0 : goal.returns-else-count-eq0
returns-else-count-eq0 c = λ n.
    let ls = c.args.self.now in
    let l = c.args.line.now in
    let long = c.len-count.ensures in
    more_rise ls l (subst Rises c.self.view_is (c.self.invariant.1 c.if-not-self.false)) (λ i e.
    ap (is_below l) (ap (λ k. get_or ls k l) (omega (arith, e, long)) ∙ sym (c.line.ensures l)) ∙ sym c.comes_before.ensures ∙ not-true _ n)
