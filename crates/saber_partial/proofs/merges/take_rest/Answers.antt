use Rattle.std.proofs.Common.{sym, ap, ◌∙◌, drop, subst, arith}
use Rattle.std.proofs.lemmas.List.{drop_all}
use Rattle.saber_plan.specs.Parts.{merge}
use Rattle.saber_plan.specs.Facts.Parts.{merge-empty_right}
use Rattle.saber_partial.specs.Sorted.{part_of, Rises}
use Rattle.saber_partial.proofs.Rising.{can_all}
use Rattle.saber_partial.proofs.Weaving.{weave_rises, weave_merge}
use Rattle.saber_partial.proofs.merges.take_rest.Goals as goal

pub returns-then-from-len-clause-ok : goal.returns-then-from-len-clause-ok
returns-then-from-len-clause-ok c =
    let m = part_of c.args.groups.now.entries in
    let none = drop_all c.args.from c.args.others.now.entries (omega (arith, c.if-from-len.true, c.len.ensures)) in
    sym (merge-empty_right m) ∙ ap (λ l. merge m (part_of l)) (sym none)

pub woven-requires-clause-can : goal.woven-requires-clause-can
woven-requires-clause-can c = can_all c.args.groups.now.entries (drop c.args.from c.args.others.now.entries) c.requires.mine c.requires.theirs c.requires.can

pub returns-clause-rises : goal.returns-clause-rises
returns-clause-rises c =
    subst Rises (sym c.in_ok-groups.ensures.all) (weave_rises c.args.groups.now.entries (drop c.args.from c.args.others.now.entries) c.requires.mine c.requires.theirs)

pub returns-clause-ok : goal.returns-clause-ok
returns-clause-ok c =
    ap part_of c.in_ok-groups.ensures.all ∙ weave_merge c.args.groups.now.entries (drop c.args.from c.args.others.now.entries) c.requires.mine c.requires.theirs
