use Rattle.std.proofs.Common.{◌≡◌, ℕ, ◌++◌, max, None, ◌∙◌, ap, subst}
use Rattle.saber_plan.specs.Trees.{tree_of}
use Rattle.saber_plan.proofs.Appended.{behind_itself}
use Rattle.saber_changes.specs.Outputs.{printed_from}
use Rattle.saber_sliding.specs.Windows.{answers_at}
use Rattle.saber_partition.specs.Streams.{part_in}
use Rattle.saber_partition.proofs.Streaming.{has_room, came}
use Rattle.saber_partition.proofs.keyed.Keyed.take_row.Goals as goal

pub take_part-requires : goal.take_part-requires
take_part-requires g c =
    let (us, r, comes, keeps) = c.requires in
    let s = c.args.self.now.windows in
    has_room (tree_of c.args.plan.now) us r c.args.low c.args.past (part_in c.args.parts.now c.args.part) comes s.next s.slices.entries keeps.next_is keeps.holds

pub close_lines-requires : goal.close_lines-requires
close_lines-requires g c =
    let (us, r, comes, keeps) = c.requires in
    comes.asks.group

pub returns-clause-came : goal.returns-clause-came
returns-clause-came g c us r comes keeps =
    let q = tree_of c.args.plan.now in
    let s = c.args.self.now.windows in
    let m = c.take_part.new.self in
    let n = c.close_lines.new.self in
    let fs = m.windows.slices.entries in
    let same = c.in_ok-take_part.ensures.next in
    let old = c.args.out.now.items in
    let new = c.close_lines.new.out.items in
    came q us r c.args.low c.args.past (part_in c.args.parts.now c.args.part) comes s.next s.slices.entries keeps.next_is keeps.holds
    fs n.slices.entries n.next m.begun old new
    c.in_ok-take_part.ensures.parts
    c.in_ok-close_lines.ensures.slices
    (subst (λ (k : ℕ). new ≡ old ++ printed_from None (answers_at q fs) k n.next) same c.in_ok-close_lines.ensures.text)
    (c.in_ok-close_lines.ensures.next ∙ ap (λ (k : ℕ). max k c.args.low) same)
    c.in_ok-take_part.ensures.begun

pub returns-in_err-take_part-clause-behind : goal.returns-in_err-take_part-clause-behind
returns-in_err-take_part-clause-behind g c = behind_itself c.args.out.now.items

pub returns-in_err-close_lines-clause-behind : goal.returns-in_err-close_lines-clause-behind
returns-in_err-close_lines-clause-behind g c = c.close_lines.ensures.behind

pub returns-clause-behind : goal.returns-clause-behind
returns-clause-behind g c = c.close_lines.ensures.behind
