use Rattle.std.proofs.Common.{rules, ◌≤◌, ◌+◌, ◌≡◌, ◌++◌, length, take, drop, length-take-le}
use Rattle.saber_io.proofs.Coming.{given_of_came}
use Rattle.saber_io.proofs.mem_feed.MemFeedFeed.feed.Goals as goal

pub returns-then-size-gt0-clause-ok : goal.returns-then-size-gt0-clause-ok
returns-then-size-gt0-clause-ok c =
    let s = c.args.self.now in
    let n = c.min-size.result in
    let fits : n ≤ length c.give.new.buf = search rules in
    let came : s.given + n ≤ s.taken = search rules in
    let given : drop s.given s.bytes.items ≡ take n c.give.new.buf ++ drop (s.given + n) s.bytes.items = search rules in
    (search rules, fits, given_of_came s.given n s.taken s.bytes.items (take n c.give.new.buf) came given (length-take-le n c.give.new.buf fits))
