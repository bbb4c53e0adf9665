-- The end of a pipe that is written to, as its callers see it (this project's rule).
use Rattle.std.specs.Prelude.{ℕ, ◌-◌, ◌^◌, min, List, ◌++◌, length}
use Rattle.saber_pipe.specs.declared.items.Item.{Item}
use Rattle.saber_pipe.specs.declared.sink.PipeSink.{PipeSink}
use Rattle.saber_pipe.specs.Order.{bytes_of}
use Rattle.saber_pipe.specs.Outboxes.{sent_of, kept_of, MayHaveBeenFull}

module _ {R P : Type 0} {p : _} where
  -- what the sink has sent
  abbrev pub sent : PipeSink R P p → List Item
  sent s = sent_of s.outbox

  -- what the sink keeps until there is room
  abbrev pub kept : PipeSink R P p → List Item
  kept s = kept_of s.outbox

  -- what was written to the sink
  abbrev pub written : PipeSink R P p → List ℕ
  written s = bytes_of (sent s ++ kept s)

  -- the bytes of what it keeps
  abbrev pub kept_bytes : PipeSink R P p → List ℕ
  kept_bytes s = bytes_of (kept s)

  -- a sink of a pipe never fails
  abbrev pub faults_of : PipeSink R P p → ℕ
  faults_of s = 0

  -- a write is a piece that was taken to be sent
  abbrev pub writes_of : PipeSink R P p → ℕ
  writes_of s = min (length (sent s ++ kept s)) (2 ^ 64 - 1)

  -- enough was sent for the pipe to have been full
  abbrev pub MayHaveHadNoRoom : PipeSink R P p → Type 0
  MayHaveHadNoRoom s = MayHaveBeenFull s.outbox
