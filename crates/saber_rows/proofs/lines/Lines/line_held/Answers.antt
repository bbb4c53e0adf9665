use Rattle.std.proofs.Common.{rules, ◌≡◌, ◌≤◌, None, Some, false, refl, sym, ◌∙◌, ap, subst, option_map, length}
use Rattle.saber_rows.specs.Buffer.{bytes_of}
use Rattle.saber_rows.specs.LineFeeds.{HasNoFeed}
use Rattle.saber_rows.specs.Reader.{reader_of, end_behind}
use Rattle.saber_rows.specs.declared.lines.Turn.TheVariants as turns
use Rattle.saber_rows.specs.Turns.{HeldTurn}
use Rattle.saber_rows.proofs.Chains.{held_line, held_end, not_ready}
use Rattle.saber_rows.proofs.SoundRows.{no_end}
use Rattle.saber_rows.proofs.lines.Lines.line_held.Goals as goal

pub returns-in-Some-clause-turns : goal.returns-in-Some-clause-turns
returns-in-Some-clause-turns c =
    let l = c.args.self.now in
    let over = c.in-Some.over in
    subst (λ s. HeldTurn (turns.Stop s) (reader_of l) (reader_of l)) (sym c.stop.ensures)
    (held_end (reader_of l) over c.requires.none_ready (ap (option_map (end_behind l.side)) c.in-Some.is) (λ e. l.seen (c.in-Some.is ∙ ap Some e)))

pub take_line-requires-clause-none : goal.take_line-requires-clause-none
take_line-requires-clause-none c =
    let over : c.args.self.now.over ≡ None = search rules in
    not_ready (reader_of c.args.self.now) c.requires.none_ready (no_end c.args.self.now.over (end_behind c.args.self.now.side) over)

pub take_last-requires-clause-none : goal.take_last-requires-clause-none
take_last-requires-clause-none c =
    let over : c.args.self.now.over ≡ None = search rules in
    not_ready (reader_of c.args.self.now) c.requires.none_ready (no_end c.args.self.now.over (end_behind c.args.self.now.side) over)

pub returns-in-Some-line_feed_in-clause-turns : goal.returns-in-Some-line_feed_in-clause-turns
returns-in-Some-line_feed_in-clause-turns c =
    let k = c.take_line.ensures in
    held_line c.take_line.result (reader_of c.args.self.now) (reader_of c.take_line.new.self) k.gives k.falls k.place k.rules

pub returns-in-None-clause-turns : goal.returns-in-None-clause-turns
returns-in-None-clause-turns c =
    let k = c.take_last.ensures in
    held_line c.take_last.result (reader_of c.args.self.now) (reader_of c.take_last.new.self) k.gives k.falls k.place k.rules

pub returns-in-None-2-clause-turns : goal.returns-in-None-2-clause-turns
returns-in-None-2-clause-turns c =
    let k = c.refuse_long.ensures in
    held_line c.refuse_long.result (reader_of c.args.self.now) (reader_of c.refuse_long.new.self) k.gives k.falls k.place k.rules

pub returns-in-None-3-clause-none : goal.returns-in-None-3-clause-none
returns-in-None-3-clause-none c _ =
    let l = c.args.self.now in
    let known : l.over ≡ None = search rules in
    let over = no_end l.over (end_behind l.side) known in
    let unended : l.ended ≡ false = search rules in
    let few : length (bytes_of l.held) ≤ 4097 = search rules in
    let feed : HasNoFeed (bytes_of l.held) = search rules in
    (refl, record { over = over; none = not_ready (reader_of l) c.requires.none_ready over; unended = unended; few = few; feed = feed })
