use Rattle.std.proofs.Common.{take}
use Rattle.saber_plan.specs.Trees.{tree_of}
use Rattle.saber_join.specs.Shelves.{cards_at}
use Rattle.saber_join.specs.Open.{seen_parts, Changed, meeting_lefts}
use Rattle.saber_join.proofs.held_rows.meet_lefts.Given as goal

abbrev pub invariant-loop-i : goal.invariant-loop-i
invariant-loop-i l = Changed (meeting_lefts (tree_of l.join) l.right (cards_at l.lefts (take l.i-index l.found))) l.low l.past (seen_parts l.fn.windows.entries) (seen_parts l.windows.entries)
