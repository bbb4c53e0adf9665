-- Pipes, as their callers see them (this project's rule).
use Rattle.std.specs.Prelude.{◌≡◌, [], Option, Some, None, IsSome}
use Rattle.atomic_table.specs.Seated.{TableId}
use Rattle.crossbeam_queue.specs.Passes.{Pass}
use Rattle.saber_pipe.specs.declared.items.Item.{Item}
use Rattle.saber_pipe.specs.declared.rule.Log.{Log}
use Rattle.saber_pipe.specs.declared.pipe.Pipe.{Pipe}
use Rattle.saber_pipe.specs.declared.sink.PipeSink.{PipeSink}
use Rattle.saber_pipe.specs.declared.feed.PipeFeed.{PipeFeed}
use Rattle.saber_pipe.specs.Sinks.{sent, kept}
use Rattle.saber_pipe.specs.PipeFeeds.{got, waiting, faults_of}

abbrev pub id_by : Option (Pass Item Log) → Option TableId
id_by None = None
id_by (Some end) = Some end.table_id

-- which pipe it is, as long as its ends weren't lent
abbrev pub id_of : Pipe → Option TableId
id_of pipe = id_by pipe.fresh

-- the ends of a pipe weren't lent yet
abbrev pub IsNew : Pipe → Type 0
IsNew pipe = IsSome pipe.fresh

module _ {R P : Type 0} {p : _} where
  -- the ends of a new pipe: nothing was sent, and nothing waits
  pub record Begin (s : PipeSink R P p) (f : PipeFeed R P p) : Type 0 where
    pub sent_is : sent s ≡ []
    pub kept_is : kept s ≡ []
    pub got_is : got f ≡ []
    pub waiting_is : waiting f ≡ []
    pub faults_is : faults_of f ≡ 0
