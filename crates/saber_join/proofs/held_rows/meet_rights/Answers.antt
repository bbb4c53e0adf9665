use Rattle.std.proofs.Common.{get_or, subst₂}
use Rattle.std.proofs.lemmas.List.{get_or_default}
use Rattle.saber_plan.specs.Trees.{tree_of}
use Rattle.saber_join.specs.Linked.{card_in}
use Rattle.saber_join.specs.Open.{seen_parts, Changed, with_pair}
use Rattle.saber_join.proofs.Meeting.{rights_start, rights_next}
use Rattle.saber_join.proofs.held_rows.meet_rights.Goals as goal

pub loop-i-init : goal.loop-i-init
loop-i-init c = rights_start (tree_of c.args.join.now) c.args.left.now c.args.low c.args.past (seen_parts c.args.windows.now.entries)

pub loop-i-preserved : goal.loop-i-preserved
loop-i-preserved c =
    let q = tree_of c.args.join.now in
    let found = c.args.found.now in
    let j = c.loop-i.i-index in
    let a = get_or found j 0 in
    let n = seen_parts c.loop-i.windows.entries in
    let k = seen_parts c.add_pair.new.windows.entries in
    let e = card_in c.at-right.result.now in
    rights_next q c.args.left.now c.args.rights.now found j a e c.loop-i-test.true (get_or_default found j 0 a c.loop-i-test.true) c.at-right.ensures c.args.low c.args.past (seen_parts c.args.windows.now.entries) n k c.loop-i.invariant
    (subst₂ (λ low past. Changed (with_pair q c.args.left.now e.seen) low past n k) c.max-from.ensures c.min-to.ensures c.in_ok-add_pair.ensures)
