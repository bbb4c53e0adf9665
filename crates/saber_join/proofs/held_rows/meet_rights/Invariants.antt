use Rattle.std.proofs.Common.{take}
use Rattle.saber_plan.specs.Trees.{tree_of}
use Rattle.saber_join.specs.Shelves.{cards_at}
use Rattle.saber_join.specs.Open.{seen_parts, Changed, meeting_rights}
use Rattle.saber_join.proofs.held_rows.meet_rights.Given as goal

abbrev pub invariant-loop-i : goal.invariant-loop-i
invariant-loop-i l = Changed (meeting_rights (tree_of l.join) l.left (cards_at l.rights (take l.i-index l.found))) l.low l.past (seen_parts l.fn.windows.entries) (seen_parts l.windows.entries)
