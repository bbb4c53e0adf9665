use Rattle.std.proofs.Common.{◌∙◌, sym, ap, subst, Some}
use Rattle.saber_plan.specs.declared.rows.Side.TheVariants.{Left}
use Rattle.saber_rows.specs.Reader.{reader_of}
use Rattle.saber_rows.specs.FedTurns.{answer_in}
use Rattle.saber_dispatch.specs.Readings.{one}
use Rattle.saber_dispatch.specs.FedReadings.{only, got_of, known_of, KnownStep, GotNext, GotTold}
use Rattle.saber_dispatch.proofs.ReadSteps.{if_some}
use Rattle.saber_dispatch.proofs.FedCalls.{FedCalled, is_error, stepped_fed, seen_on, told_by, fault_is, known_step}
use Rattle.saber_dispatch.proofs.fed_reader.next_of_feed.Goals as goal

pub returns-clause-step : goal.returns-clause-step
returns-clause-step g c q m r =
    let n = c.next_fed.ensures in
    let old = reader_of c.args.lines.now in
    let new = reader_of c.next_fed.new.self in
    let w = g.F.Feed.waiting c.args.feed.now in
    let w' = g.F.Feed.waiting c.next_fed.new.feed in
    let called : FedCalled (answer_in c.next_fed.result) old new (Some w) (Some w') = record {
      again = if_some _ _ old.answer n.again (λ a h. (h.0, ap reader_of h.1));
      moves = n.moves;
      rules = n.rules;
      answer = n.answer;
      dry = λ e. (n.dry e).0;
      none = n.none;
      ended = n.ended;
      refused = λ o line cause e. n.refused o line cause (is_error c.next_fed.result _ e);
      cut = λ o e. (n.cut o (is_error c.next_fed.result _ e)).2;
      memory = λ o e. n.memory o (is_error c.next_fed.result _ e);
      given = n.given;
      last = n.last;
      stays = n.stays;
      counted = n.counted;
    } in
    subst (λ a. GotNext q m a (one old) (one new) (only w) (only w')) (sym c.got_of.ensures) (stepped_fed old new (Some w) (Some w') q m r c.next_fed.result called)

pub returns-clause-seen : goal.returns-clause-seen
returns-clause-seen g c = seen_on (reader_of c.args.lines.now) (reader_of c.next_fed.new.self) (g.F.Feed.mark c.args.feed.now) c.next_fed.ensures.marked

pub returns-clause-told : goal.returns-clause-told
returns-clause-told g c o s =
    let n = c.next_fed.ensures in
    let new = reader_of c.next_fed.new.self in
    let mark = g.F.Feed.mark c.args.feed.now in
    let w' = g.F.Feed.waiting c.next_fed.new.feed in
    let seen = seen_on (reader_of c.args.lines.now) new mark n.marked s in
    subst (λ a. GotTold a w' mark) (sym c.got_of.ensures)
    (told_by c.next_fed.result new w' mark seen (λ e. ((n.dry e).1, (n.dry e).2)) (n.ended o) (λ e. ((n.cut o e).0, (n.cut o e).1)))

pub returns-clause-cause : goal.returns-clause-cause
returns-clause-cause g c o side e = c.next_fed.ensures.cause o (fault_is c.next_fed.result side (sym c.got_of.ensures ∙ e))

pub returns-clause-good : goal.returns-clause-good
returns-clause-good g c h = c.next_fed.ensures.good (λ e. h Left (c.got_of.ensures ∙ ap got_of e))

pub returns-clause-known : goal.returns-clause-known
returns-clause-known g c o s m =
    let n = c.next_fed.ensures in
    let old = reader_of c.args.lines.now in
    let new = reader_of c.next_fed.new.self in
    let mark = g.F.Feed.mark c.args.feed.now in
    let w = g.F.Feed.waiting c.args.feed.now in
    let w' = g.F.Feed.waiting c.next_fed.new.feed in
    subst (λ a. KnownStep a (known_of (one old) w) (known_of (one new) w')) (sym c.got_of.ensures)
    (known_step old new w w' mark (seen_on old new mark n.marked s) m c.next_fed.result n.moves (n.ended o) (n.known o) (λ e. (n.cut o e).1))
