use Rattle.std.proofs.Common.{rules, ◌≤◌, length, take, drop}
use Rattle.std.proofs.Math.Seq.{take-add}
use Rattle.saber_io.proofs.Coming.{more_came}
use Rattle.saber_io.proofs.mem_feed.MemFeedFeed.refill.Goals as goal

pub returns-clause-more : goal.returns-clause-more
returns-clause-more c =
    let s = c.args.self.now in
    let n = c.min-size.result in
    let within : s.taken ≤ length s.bytes.items = search rules in
    record {
      more = take n (drop s.taken s.bytes.items);
      taken_is = take-add s.taken n s.bytes.items;
      waiting_is = more_came s.given s.taken n s.bytes.items s.within within;
      behind = search rules;
    }
