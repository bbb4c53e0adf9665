use Rattle.std.proofs.Common.{◌≡◌, ◌+◌, ◌≤◌, ◌∙◌, ap, sym, subst, None, false, option_map, arith}
use Rattle.saber_plan.specs.Rows.{stamp, late, raised_time}
use Rattle.saber_rows.specs.Buffer.{bytes_of}
use Rattle.saber_rows.specs.QuickRows.{IsRowAt}
use Rattle.saber_rows.specs.Reader.{reader_of, end_behind, answer_of}
use Rattle.saber_rows.proofs.QuickTakes.{quick_takes, quick_steps}
use Rattle.saber_rows.proofs.SoundRows.{no_end}
use Rattle.saber_rows.proofs.lines.Lines.held_into.Goals as goal

pub returns-clause-some : goal.returns-clause-some
returns-clause-some c =
    let own = c.args.self.now in
    let vs = c.row_in.new.out in
    let n = c.in_ok-n.n in
    let over : own.over ≡ None = c.is_plain.ensures.over c.if-not-is_plain.false in
    let slack : own.slack ≡ 0 = c.is_plain.ensures.slack c.if-not-is_plain.false in
    let most : own.lines + 1 ≤ own.max_lines = omega (arith, c.if-self.false) in
    let row : IsRowAt own.columns (bytes_of own.held) vs n = subst (λ held. IsRowAt own.columns held vs n) c.bytes.ensures.value c.in_ok-n.ensures.row in
    let time : c.stamp_of-stamp.result ≡ stamp vs = c.stamp_of-stamp.ensures ∙ ap stamp c.as_slice.ensures in
    let in_time : late own.slack own.high vs ≡ false = ap (λ k. late k own.high vs) slack ∙ sym (c.is_below.ensures.late vs time) ∙ c.if-is_below.false in
    let high : c.stamp_of-stamp.result ≡ raised_time own.high (stamp vs) = sym (c.is_below.ensures.highest c.if-is_below.false) ∙ ap (raised_time own.high) time in
    quick_takes (reader_of own) own.over own.sound over (no_end own.over (end_behind own.side) over) slack n vs row most in_time
    c.stamp_of-stamp.result c.stamp_of-stamp.result time high (bytes_of c.consume.new.self) c.consume.ensures (ap (option_map answer_of) (c.is_plain.ensures.goes c.if-not-is_plain.false))

pub returns-clause-steps : goal.returns-clause-steps
returns-clause-steps c =
    let own = c.args.self.now in
    let vs = c.row_in.new.out in
    let n = c.in_ok-n.n in
    let over : own.over ≡ None = c.is_plain.ensures.over c.if-not-is_plain.false in
    let slack : own.slack ≡ 0 = c.is_plain.ensures.slack c.if-not-is_plain.false in
    let most : own.lines + 1 ≤ own.max_lines = omega (arith, c.if-self.false) in
    let row : IsRowAt own.columns (bytes_of own.held) vs n = subst (λ held. IsRowAt own.columns held vs n) c.bytes.ensures.value c.in_ok-n.ensures.row in
    let time : c.stamp_of-stamp.result ≡ stamp vs = c.stamp_of-stamp.ensures ∙ ap stamp c.as_slice.ensures in
    let in_time : late own.slack own.high vs ≡ false = ap (λ k. late k own.high vs) slack ∙ sym (c.is_below.ensures.late vs time) ∙ c.if-is_below.false in
    let high : c.stamp_of-stamp.result ≡ raised_time own.high (stamp vs) = sym (c.is_below.ensures.highest c.if-is_below.false) ∙ ap (raised_time own.high) time in
    quick_steps (reader_of own) own.over own.sound over (no_end own.over (end_behind own.side) over) slack n vs row most in_time
    c.stamp_of-stamp.result c.stamp_of-stamp.result time high (bytes_of c.consume.new.self) c.consume.ensures
