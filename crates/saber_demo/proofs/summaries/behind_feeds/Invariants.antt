use Rattle.std.proofs.Common.{◌≤◌, length, drop}
use Rattle.saber_demo.specs.Feeds.{HasNoFeed}
use Rattle.saber_demo.proofs.summaries.behind_feeds.Given as goal

abbrev pub invariant-loop-start : goal.invariant-loop-start
invariant-loop-start l = record { inside : l.start ≤ length l.text; plain : HasNoFeed (drop l.start l.text) }

abbrev pub decreases-loop-start : goal.decreases-loop-start
decreases-loop-start l = l.start
