-- Feeds in memory, as their callers see them (this project's rule).
use Rattle.std.specs.Prelude.{ℕ, List, take, drop, Option, Some, None, if◌then◌else◌}
use Rattle.saber_io.specs.declared.feeds.EndMark.{EndMark}
use Rattle.saber_io.specs.declared.mem_feed.MemFeed.{MemFeed}

-- the bytes that were taken
abbrev pub taken_of : MemFeed → List ℕ
taken_of f = take f.taken f.bytes.items

-- the last of them, which were not given yet
abbrev pub waiting_of : MemFeed → List ℕ
waiting_of f = drop f.given (taken_of f)

-- the mark, once it was taken
abbrev pub mark_of : MemFeed → Option EndMark
mark_of f = if f.is_marked then Some f.end else None
