use Rattle.std.proofs.Common.{◌≡◌, ◌∙◌, ap, sym, not, length, Some, arith}
use Rattle.saber_plan.specs.Rows.{most_held, raised_time}
use Rattle.saber_rows.specs.Judged.{is_ready_at}
use Rattle.saber_rows.specs.HeldRows.{least_of}
use Rattle.saber_rows.specs.Reader.{reader_of}
use Rattle.saber_rows.specs.Waiting.{rows_in}
use Rattle.saber_rows.proofs.HeldRows.{few_crowds, full_crowds, all_wait}
use Rattle.saber_rows.proofs.lines.Lines.is_crowded.Goals as goal

pub returns-then-len-lt-MOST_HELD : goal.returns-then-len-lt-MOST_HELD
returns-then-len-lt-MOST_HELD c values same =
    sym (few_crowds (reader_of c.args.self.now).rules (reader_of c.args.self.now).place values (omega (arith, c.len.ensures, c.if-len-lt-MOST_HELD.true)))

pub returns : goal.returns
returns c values same =
    let r = reader_of c.args.self.now in
    let all = all_wait r.rules r.place c.requires.none in
    let full : length (rows_in c.args.self.now.waiting) ≡ most_held = omega (arith, all, c.args.self.now.sound.few, c.len.ensures, c.if-len-lt-MOST_HELD.false) in
    ap not c.is_ready.ensures
    ∙ (λ i. not (is_ready_at r.rules.slack (Some (c.raise.ensures i)) (c.least-least.ensures i)))
    ∙ ap (λ t. not (is_ready_at r.rules.slack (Some (raised_time r.place.high t)) (least_of r.place.accepted t))) same
    ∙ sym (full_crowds r.rules r.place r.last values c.args.self.now.sound.in_time full)
