use Rattle.std.proofs.Common.{◌≡◌, ◌≤◌, ◌+◌, ◌-◌, length, ◌∙◌, ap, sym, rules, refl, subst, drop, Some, take, arith}
use Rattle.saber_plan.specs.declared.rows.Row.{Row}
use Rattle.saber_plan.specs.Rows.{stamp, without_cr, raised_time, in_time, accept}
use Rattle.saber_rows.specs.Buffer.{bytes_of}
use Rattle.saber_rows.specs.LineFeeds.{end_of}
use Rattle.saber_rows.specs.Reader.{reader_of, gone_count, end_behind}
use Rattle.saber_rows.specs.Waiting.{rows_in}
use Rattle.saber_rows.specs.Sound.{Sound}
use Rattle.saber_rows.proofs.LineSteps.{holds, less_left}
use Rattle.saber_rows.proofs.TakenRows.{accepted}
use Rattle.saber_rows.proofs.HeldRows.{length-in_time}
use Rattle.saber_rows.proofs.SoundRows.{no_end, sound_held}
use Rattle.saber_rows.proofs.lines.Lines.take_held.Goals as goal

-- the place behind the row
place_same : (c : goal.After-raise) → record { lines = c.args.self.now.lines + 1; high = Some c.raise.result; accepted = rows_in c.insert.new.self } ≡ accept (reader_of c.args.self.now).rules (reader_of c.args.self.now).place c.args.values
place_same c =
    let r = reader_of c.args.self.now in
    let own : c.stamp_of-stamp.result ≡ stamp c.args.values = c.stamp_of-stamp.ensures ∙ ap stamp c.as_slice.ensures in
    let high : c.raise.result ≡ raised_time r.place.high (stamp c.args.values) = c.raise.ensures ∙ ap (raised_time r.place.high) own in
    let put : rows_in c.insert.new.self ≡ in_time (record { side = r.rules.side; values = c.args.values }) r.place.accepted = search rules in
    λ i. record { lines = r.place.lines + 1; high = Some (high i); accepted = put i }

pub invariant_of-self-2-clause-sound : goal.invariant_of-self-2-clause-sound
invariant_of-self-2-clause-sound c =
    let r = reader_of c.args.self.now in
    subst (λ p. Sound r.rules p r.last c.args.self.now.over) (sym (place_same c))
    (sound_held r.rules r.place r.last c.args.self.now.over c.args.self.now.sound c.args.values c.requires.slack c.requires.over (accepted r.rules r.place (without_cr (take c.args.n r.held)) c.args.values c.requires.judged))

-- a row that is held is not gone
holds_none : (c : goal.After-raise) → gone_count (reader_of c.args.self.now) ≤ (c.args.self.now.lines + 1) - length (rows_in c.insert.new.self)
holds_none c =
    let r = reader_of c.args.self.now in
    let row : Row = record { side = r.rules.side; values = c.args.values } in
    omega (arith, length-in_time row r.place.accepted, ap (λ p. length p.accepted) (place_same c))

pub returns-clause-gives : goal.returns-clause-gives
returns-clause-gives c =
    let r = reader_of c.args.self.now in
    holds r (no_end c.args.self.now.over (end_behind c.args.self.now.side) c.requires.over) c.args.whole c.args.n (end_of c.args.n c.args.whole) c.requires.line c.requires.last (bytes_of c.consume.new.self) c.args.values (record { lines = r.place.lines + 1; high = Some c.raise.result; accepted = rows_in c.insert.new.self })
    (c.consume.ensures ∙ ap (λ e. drop e (bytes_of c.args.self.now.held)) c.line_end.ensures) c.requires.judged (place_same c.before)

pub returns-clause-place : goal.returns-clause-place
returns-clause-place c = (refl, holds_none c.before)

pub returns-clause-falls : goal.returns-clause-falls
returns-clause-falls c = less_left c.args.self.now.max_lines c.args.self.now.lines (length (bytes_of c.consume.new.self)) (length (bytes_of c.args.self.now.held)) _ _ c.requires.counted
