use Rattle.std.proofs.Common.{◌≡◌, ◌++◌, ◌∙◌, List, ℕ, ap₂, append-nil, subst}
use Rattle.std.specs.Result.{OnOk}
use Rattle.saber_partial.specs.Printing.{lines_for}
use Rattle.saber_partial.specs.Sorted.{weave}
use Rattle.saber_partial.proofs.joined_lines.write_all_woven.Goals as goal

pub returns-clause-ok : goal.returns-clause-ok
returns-clause-ok c =
    let es = weave c.args.groups.now.entries c.args.others.now.entries in
    subst (λ (l : List ℕ). OnOk c.flush.result (c.flush.new.out.items ≡ l))
    (c.in_ok-end.ensures.ok ∙ ap₂ (λ o w. o ++ lines_for w c.args.items.now es) (append-nil c.args.out.now.items) c.of_window-heading.ensures.window) c.flush.ensures.ok
