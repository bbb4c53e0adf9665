use Rattle.std.proofs.Common.{arith}
use Rattle.std.proofs.lemmas.Bool.Decides.{nat_tests}
use Rattle.saber_rows.proofs.LineFeedsLemmas.{scanned_more}
use Rattle.saber_rows.proofs.line_feeds.line_feed_in.Goals as goal

pub loop-i-preserved : goal.loop-i-preserved
loop-i-preserved c = scanned_more c.args.held.now c.loop-i.i c.loop-i-test.true (grind (arith, nat_tests)) c.loop-i.invariant
