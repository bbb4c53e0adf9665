use Rattle.std.proofs.Common.{◌∙◌, ap, subst, ◌∷◌}
use Rattle.saber_plan.specs.Rows.{stamp}
use Rattle.saber_rows.specs.Reader.{reader_of}
use Rattle.saber_rows.specs.Turns.{IsFirstReady}
use Rattle.saber_rows.specs.Waiting.{rows_in}
use Rattle.saber_rows.proofs.LineSteps.{gives}
use Rattle.saber_rows.proofs.SoundRows.{sound_give}
use Rattle.saber_rows.proofs.lines.Lines.give.Goals as goal

-- the first row that waits is ready
ready : (c : goal.After-stamp_of) → IsFirstReady (reader_of c.args.self.now).over (reader_of c.args.self.now).rules (reader_of c.args.self.now).place (c.in_ok-row.row ∷ rows_in c.pop.new.self)
ready c =
    let r = reader_of c.args.self.now in
    subst (IsFirstReady r.over r.rules r.place) c.in_ok-row.ensures.some (c.has_ready.ensures.yes c.if-not-has_ready.false)

pub invariant_of-self-2-clause-sound : goal.invariant_of-self-2-clause-sound
invariant_of-self-2-clause-sound c =
    let r = reader_of c.args.self.now in
    sound_give r.rules r.place r.last c.args.self.now.over c.args.self.now.sound c.in_ok-row.row (rows_in c.pop.new.self) c.stamp_of.result c.in_ok-row.ensures.some (c.stamp_of.ensures ∙ ap stamp c.as_slice.ensures) (ready c)

pub returns-clause-some : goal.returns-clause-some
returns-clause-some c =
    let r = reader_of c.args.self.now in
    gives r c.in_ok-row.row (rows_in c.pop.new.self) _ c.in_ok-row.ensures.some (subst (IsFirstReady r.over r.rules r.place) c.in_ok-row.ensures.some (c.has_ready.ensures.yes c.if-not-has_ready.false))

pub invariant_of-self-2-clause-numbered : goal.invariant_of-self-2-clause-numbered
invariant_of-self-2-clause-numbered c = c.in_ok-row.ensures.before c.args.self.now.lines c.args.self.now.numbered
