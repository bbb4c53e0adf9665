use Rattle.std.proofs.Common.{◌≡◌, None}
use Rattle.saber_rows.specs.Reader.{reader_of}
use Rattle.saber_rows.specs.Turns.{work_left, HasEnough}
use Rattle.saber_rows.specs.FedAnswers.{FedRan}
use Rattle.saber_rows.proofs.lines.Lines.advance_fed.Given as goal

abbrev pub invariant-loop-turn : goal.invariant-loop-turn
invariant-loop-turn g l = record {
  ran : FedRan (reader_of l.initial.self) (reader_of l.self) (g.F.Feed.waiting l.initial.feed) (g.F.Feed.waiting l.feed) (g.F.Feed.mark l.initial.feed);
  stop : l.self.stop ≡ None;
  good : g.F.Feed.faults l.feed ≡ g.F.Feed.faults l.initial.feed;
  taken : g.F.Feed.taken l.feed ≡ g.F.Feed.taken l.initial.feed;
  mark : g.F.Feed.mark l.feed ≡ g.F.Feed.mark l.initial.feed;
  reads : HasEnough (reader_of l.initial.self) → (l.feed ≡ l.initial.feed) × HasEnough (reader_of l.self);
}

abbrev pub decreases-loop-turn : goal.decreases-loop-turn
decreases-loop-turn g l = work_left (reader_of l.self)
