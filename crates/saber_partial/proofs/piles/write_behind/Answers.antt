use Rattle.std.proofs.Common.{◌≡◌, ◌++◌, OnOk, sym, subst, ◌∙◌, ap}
use Rattle.saber_plan.specs.Trees.{tree_of}
use Rattle.saber_plan.specs.Parts.{Part, merge, part_lines}
use Rattle.saber_plan.specs.Facts.Parts.{merge-empty_right}
use Rattle.saber_partial.proofs.piles.write_behind.Goals as goal

pub returns-in_default-clause-ok : goal.returns-in_default-clause-ok
returns-in_default-clause-ok g c =
    let all = ap (merge c.args.first.now) c.in_default.ensures ∙ merge-empty_right c.args.first.now in
    subst (λ (p : Part). OnOk c.lines.result (c.lines.new.out.items ≡ c.args.out.now.items ++ part_lines (tree_of c.args.plan.now) c.args.window p)) (sym all) c.lines.ensures.ok
