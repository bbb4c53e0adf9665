use Rattle.std.proofs.Common.{◌≡◌, ◌≤◌, ◌+◌, ◌-◌, None, [], length}
use Rattle.saber_plan.specs.declared.windows.Mark.{Mark}
use Rattle.saber_plan.specs.Rows.{cut}
use Rattle.saber_plan.specs.Trees.{Tree}
use Rattle.saber_dispatch.specs.Sources.{Lefts}
use Rattle.saber_dispatch.specs.Readings.{Reading, reading_of, IsOpen}
use Rattle.saber_dispatch.specs.Filling.{Filling}
use Rattle.saber_dispatch.specs.FedReadings.{only, known_of, IsSeen}
use Rattle.saber_dispatch.proofs.fed_fill.fill_fed.Given as goal

abbrev pub invariant-taking : goal.invariant-taking
invariant-taking g l =
    let w = g.F.Feed.waiting in
    record {
      filling : (q : Tree) (m : Mark) (first : Reading) (had : Lefts) → Filling (length l.fn.rows) q m l.fn.mark first (reading_of l.fn.reader) had (only (w l.fn.feed)) [] l.fn.rows
          → Filling (length l.rows) q m l.mark first (reading_of l.reader) had (only (w l.feed)) [] l.rows;
      few : length l.rows ≤ l.size;
      opened : IsOpen (reading_of l.reader);
      seen : IsSeen (reading_of l.reader) (g.F.Feed.mark l.feed);
      short : g.F.Feed.mark l.fn.feed ≡ None → (known_of (reading_of l.fn.reader) (w l.fn.feed)).end ≡ cut
          → ((known_of (reading_of l.reader) (w l.feed)).end ≡ cut) × (length l.rows + length (known_of (reading_of l.reader) (w l.feed)).rows ≡ length l.fn.rows + length (known_of (reading_of l.fn.reader) (w l.fn.feed)).rows);
      same : g.F.Feed.faults l.feed ≡ g.F.Feed.faults l.fn.feed;
      taken : g.F.Feed.taken l.feed ≡ g.F.Feed.taken l.fn.feed;
      mark : g.F.Feed.mark l.feed ≡ g.F.Feed.mark l.fn.feed;
    }

abbrev pub decreases-taking : goal.decreases-taking
decreases-taking g l = l.size - length l.rows
