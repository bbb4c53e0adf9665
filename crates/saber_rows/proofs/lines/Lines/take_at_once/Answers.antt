use Rattle.std.proofs.Common.{◌≡◌, ◌+◌, ◌∙◌, ap, sym, refl, subst, drop, Some, take}
use Rattle.saber_plan.specs.Rows.{before, stamp, without_cr, raised_time}
use Rattle.saber_rows.specs.Buffer.{bytes_of}
use Rattle.saber_rows.specs.LineFeeds.{end_of}
use Rattle.saber_rows.specs.Reader.{reader_of, end_behind}
use Rattle.saber_rows.specs.Turns.{Steps}
use Rattle.saber_rows.proofs.LineSteps.{takes_at_once}
use Rattle.saber_rows.proofs.TakenRows.{accepted}
use Rattle.saber_rows.proofs.SoundRows.{none_held, no_end, given_at_once}
use Rattle.saber_rows.proofs.lines.Lines.take_at_once.Goals as goal

pub returns-clause-gives : goal.returns-clause-gives
returns-clause-gives c =
    let r = reader_of c.args.self.now in
    let own : c.stamp_of-stamp.result ≡ stamp c.args.values = c.stamp_of-stamp.ensures ∙ ap stamp c.as_slice.ensures in
    let high : Some (raised_time r.place.high (stamp c.args.values)) ≡ Some c.raise.result = ap (λ t. Some (raised_time r.place.high t)) (sym own) ∙ ap Some (sym c.raise.ensures) in
    subst (λ h. Steps (before (record { side = c.args.self.now.side; values = c.args.values })) r (record { rules = r.rules; place = record { lines = r.place.lines + 1; high = h; accepted = r.place.accepted }; last = Some c.stamp_of-stamp.result; held = bytes_of c.consume.new.self; ended = r.ended; over = r.over; answer = r.answer })) high
    (takes_at_once r (no_end c.args.self.now.over (end_behind c.args.self.now.side) c.requires.over) c.requires.slack (none_held r.place.accepted (c.args.self.now.sound.none c.requires.slack))
    c.args.whole c.args.n (end_of c.args.n c.args.whole) c.requires.line c.requires.last (bytes_of c.consume.new.self) c.args.values (Some c.stamp_of-stamp.result)
    (c.consume.ensures ∙ ap (λ e. drop e (bytes_of c.args.self.now.held)) c.line_end.ensures) c.requires.judged)

pub returns-clause-place : goal.returns-clause-place
returns-clause-place c =
    let r = reader_of c.args.self.now in
    let own : c.stamp_of-stamp.result ≡ stamp c.args.values = c.stamp_of-stamp.ensures ∙ ap stamp c.as_slice.ensures in
    given_at_once r.rules r.place r.last c.args.self.now.over c.args.self.now.sound c.args.values c.stamp_of-stamp.result r _ own c.requires.over
    (accepted r.rules r.place (without_cr (take c.args.n r.held)) c.args.values c.requires.judged) refl refl refl
    (ap (λ h. record { lines = r.place.lines + 1; high = Some h; accepted = r.place.accepted }) (c.raise.ensures ∙ ap (raised_time r.place.high) own)) refl
