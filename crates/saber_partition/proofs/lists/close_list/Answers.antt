use Rattle.std.proofs.Common.{◌≡◌, ℕ, ◌++◌, max, None, subst}
use Rattle.saber_plan.specs.Trees.{tree_of}
use Rattle.saber_changes.specs.Outputs.{printed_from}
use Rattle.saber_sliding.specs.Windows.{answers_at}
use Rattle.saber_partition.proofs.Streaming.{printed}
use Rattle.saber_partition.proofs.lists.close_list.Goals as goal

pub close_lines-requires : goal.close_lines-requires
close_lines-requires g c = c.requires.group

pub returns-in-Ok-clause-printed : goal.returns-in-Ok-clause-printed
returns-in-Ok-clause-printed g c =
    let q = tree_of c.args.plan.now in
    let o = c.args.kept in
    let es = o.windows.slices.entries in
    let before = c.args.out.now.items in
    let after = c.close_lines.new.out.items in
    printed q o.windows.next es (max o.windows.next o.begun) before after
    (subst (λ (n : ℕ). after ≡ before ++ printed_from None (answers_at q es) o.windows.next n) c.in-Ok.ensures.next c.in-Ok.ensures.text)
