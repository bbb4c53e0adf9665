use Rattle.saber_rows.proofs.LineFeedsLemmas.{Scanned}
use Rattle.saber_rows.proofs.line_feeds.line_feed_in.Given as goal

abbrev pub invariant-loop-i : goal.invariant-loop-i
invariant-loop-i l = Scanned l.held l.i
