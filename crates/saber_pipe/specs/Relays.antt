-- Who reads a pipe, as its callers see it (this project's rule).
use Rattle.std.specs.Prelude.{◌≡◌, ◌≢◌, ℕ, List, [], ◌++◌, Option, None, IfSome}
use Rattle.saber_io.specs.declared.feeds.EndMark.{EndMark}
use Rattle.saber_pipe.specs.declared.backlog.Backlog.{Backlog}
use Rattle.saber_pipe.specs.declared.feed.PipeFeed.{PipeFeed}
use Rattle.saber_pipe.specs.declared.relay.Relay.{Relay}
use Rattle.saber_pipe.specs.Backlogs.{sent_by}
use Rattle.saber_pipe.specs.PipeFeeds.{known, taken, waiting, mark, faults_of}

module _ {R P : Type 0} {p : _} where
  -- the end of the pipe that it reads from
  abbrev pub feed_of : Relay R P p → PipeFeed R P p
  feed_of r = r.feed

  -- what it sends on before it reads, if it was handed something over
  abbrev pub backlog_of : Relay R P p → Option (Backlog P p)
  backlog_of r = r.backlog

  -- what it has sent on, and what was sent before, it knows to have been sent
  abbrev pub KnowsSent : Relay R P p → Type 0
  KnowsSent r = IfSome (backlog_of r) (λ b. known (feed_of r) ≡ sent_by b)

  -- the bytes that it has taken
  abbrev pub taken_by : Relay R P p → List ℕ
  taken_by r = taken (feed_of r)

  -- those of them that it has not given yet
  abbrev pub waiting_in : Relay R P p → List ℕ
  waiting_in r = waiting (feed_of r)

  -- the mark that it has taken, if it has
  abbrev pub mark_in : Relay R P p → Option EndMark
  mark_in r = mark (feed_of r)

  -- how often it has told of a cut
  abbrev pub faults_in : Relay R P p → ℕ
  faults_in r = faults_of (feed_of r)

-- more was taken, none behind a mark
pub record Drains (taken taken' : List ℕ) (mark mark' : Option EndMark) : Type 0 where
  pub more : List ℕ
  pub taken_is : taken' ≡ taken ++ more
  pub behind : mark ≢ None → (mark' ≡ mark) × (more ≡ [])
