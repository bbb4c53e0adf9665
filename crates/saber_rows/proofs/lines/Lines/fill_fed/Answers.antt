use Rattle.std.proofs.Common.{refl, ap, sym, subst, Some, ◌∙◌}
use Rattle.saber_io.specs.declared.feeds.Fed.{Fed}
use Rattle.saber_rows.specs.Buffer.{bytes_of, Gains}
use Rattle.saber_rows.specs.FedSizes.{size_of, Tells}
use Rattle.saber_rows.specs.Reader.{reader_of, NeedsMore}
use Rattle.saber_rows.proofs.ReadSteps.{with_held, true_not_false}
use Rattle.saber_rows.proofs.Chains.{drained_needs}
use Rattle.saber_rows.proofs.FedReads.{none_gained}
use Rattle.saber_rows.proofs.FillSteps.{came_turned, end_turned, fault_turned}
use Rattle.saber_rows.proofs.lines.Lines.fill_fed.Goals as goal

pub returns-in-Err-clause-turns : goal.returns-in-Err-clause-turns
returns-in-Err-clause-turns g c =
    let cut = c.in-Err.ensures.cut in
    record {
      turned = fault_turned (reader_of c.args.self.now) (bytes_of c.fill_fed.new.self) _ _ c.requires.drained cut.0 (ap Some (cut.1.0.1 ∙ sym cut.1.0.0));
      known = tt;
      marked = λ f e. true_not_false c.args.self.now.ended f e;
      cut = cut.1;
    }

pub returns-in-Err-clause-faults : goal.returns-in-Err-clause-faults
returns-in-Err-clause-faults g c = (c.in-Err.ensures.cause, c.fill_fed.ensures.count)

pub returns-in-Bytes-clause-turns : goal.returns-in-Bytes-clause-turns
returns-in-Bytes-clause-turns g c =
    let w = g.F.Feed.waiting c.args.feed.now in
    let w' = g.F.Feed.waiting c.fill_fed.new.feed in
    let tells = subst (λ (fed : Fed). Tells w w' (g.F.Feed.mark c.args.feed.now) fed) c.in-Bytes.is c.in-Ok.ensures.tells in
    let gains = subst (λ (fed : Fed). Gains (size_of fed) (bytes_of c.args.self.now.held) (bytes_of c.fill_fed.new.self) (Some w) (Some w')) c.in-Bytes.is c.in-Ok.ensures.bytes in
    record {
      turned = came_turned (reader_of c.args.self.now) (bytes_of c.fill_fed.new.self) _ _ _ c.requires.drained tells.0 gains;
      known = tt;
      marked = λ f e. true_not_false c.args.self.now.ended f e;
      cut = tt;
    }

pub returns-in-End-clause-turns : goal.returns-in-End-clause-turns
returns-in-End-clause-turns g c =
    let w = g.F.Feed.waiting c.args.feed.now in
    let w' = g.F.Feed.waiting c.fill_fed.new.feed in
    let tells = subst (λ (fed : Fed). Tells w w' (g.F.Feed.mark c.args.feed.now) fed) c.in-End.is c.in-Ok.ensures.tells in
    let gains = subst (λ (fed : Fed). Gains (size_of fed) (bytes_of c.args.self.now.held) (bytes_of c.fill_fed.new.self) (Some w) (Some w')) c.in-End.is c.in-Ok.ensures.bytes in
    record {
      turned = end_turned (reader_of c.args.self.now) (bytes_of c.fill_fed.new.self) _ _ 0 c.requires.drained refl gains tells.0.0;
      known = tt;
      marked = λ f e. tells.1;
      cut = tt;
    }

pub returns-in-NotYet-clause-dry : goal.returns-in-NotYet-clause-dry
returns-in-NotYet-clause-dry g c =
    let w = g.F.Feed.waiting c.args.feed.now in
    let w' = g.F.Feed.waiting c.fill_fed.new.feed in
    let old = reader_of c.args.self.now in
    let tells = subst (λ (fed : Fed). Tells w w' (g.F.Feed.mark c.args.feed.now) fed) c.in-NotYet.is c.in-Ok.ensures.tells in
    let gains = subst (λ (fed : Fed). Gains (size_of fed) (bytes_of c.args.self.now.held) (bytes_of c.fill_fed.new.self) (Some w) (Some w')) c.in-NotYet.is c.in-Ok.ensures.bytes in
    let same = ap (λ held. with_held old held c.args.self.now.ended) (none_gained _ _ _ _ gains) in
    let more = drained_needs old c.requires.drained in
    (same, tells.0.0, (subst NeedsMore (sym same) more, tells.0.1, tells.1))
