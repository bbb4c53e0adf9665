use Rattle.std.proofs.Common.{◌≡◌, ap, sym, subst}
use Rattle.saber_plan.specs.declared.rows.Row.{Row}
use Rattle.saber_plan.specs.Rows.{before}
use Rattle.saber_rows.specs.Calls.{IsGiven}
use Rattle.saber_rows.specs.Reader.{reader_of}
use Rattle.saber_rows.specs.Turns.{Steps}
use Rattle.saber_rows.proofs.lines.Lines.quick_row.Goals as goal

pub returns-clause-some : goal.returns-clause-some
returns-clause-some c =
    let side : c.no_row-row.result.side ≡ c.args.self.now.side = ap (λ (r : Row). r.side) c.no_row-row.ensures in
    subst (λ s. Steps (before (record { side = s; values = c.held_into.new.values })) (reader_of c.args.self.now) (reader_of c.held_into.new.self)) (sym side) c.in_ok-held_into.ensures.steps

pub returns-clause-given : goal.returns-clause-given
returns-clause-given c =
    let side : c.no_row-row.result.side ≡ c.args.self.now.side = ap (λ (r : Row). r.side) c.no_row-row.ensures in
    subst (λ s. IsGiven (record { side = s; values = c.held_into.new.values }) (reader_of c.args.self.now) (reader_of c.held_into.new.self)) (sym side) c.in_ok-held_into.ensures.some.given

pub returns-clause-rules : goal.returns-clause-rules
returns-clause-rules c = c.in_ok-held_into.ensures.some.rules
