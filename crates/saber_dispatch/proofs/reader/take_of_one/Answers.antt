use Rattle.std.proofs.Common.{◌+◌, ◌-◌, None, refl, sym, ap, subst, arith}
use Rattle.saber_rows.specs.Reader.{reader_of}
use Rattle.saber_rows.specs.Calls.{TakesRows}
use Rattle.saber_dispatch.specs.Readings.{one}
use Rattle.saber_dispatch.specs.Filling.{TakesOn}
use Rattle.saber_dispatch.proofs.Takings.{few, marked, takes_none, takes_marked}
use Rattle.saber_window.proofs.Stamps.{stamps_fit}
use Rattle.saber_dispatch.proofs.reader.take_of_one.Goals as goal

pub returns-then-taken-eq0-clause-takes : goal.returns-then-taken-eq0-clause-takes
returns-then-taken-eq0-clause-takes c =
    let old = reader_of c.args.lines.now in
    let new = reader_of c.take_quick-taken.new.self in
    let had = c.args.out.now.rows in
    let has = c.take_quick-taken.new.out.rows in
    let none = subst (λ n. TakesRows n old new had has) c.if-taken-eq0.true c.take_quick-taken.ensures.rows in
    takes_none c.args.mark.now (one old) (one new) had has (ap one none.0) none.1

pub overflow_add-before : goal.overflow_add-before
overflow_add-before c =
    let bounds = few c.requires.reads.0 c.args.mark.now (reader_of c.args.lines.now) None c.args.out.now.rows c.requires.reads.1 c.take_quick-taken.result (reader_of c.take_quick-taken.new.self) c.take_quick-taken.new.out.rows c.take_quick-taken.ensures.rows in
    omega (arith, bounds.0)

pub step_mark-requires-clause-left : goal.step_mark-requires-clause-left
step_mark-requires-clause-left c =
    let bounds = few c.requires.reads.0 c.args.mark.now (reader_of c.args.lines.now) None c.args.out.now.rows c.requires.reads.1 c.take_quick-taken.result (reader_of c.take_quick-taken.new.self) c.take_quick-taken.new.out.rows c.take_quick-taken.ensures.rows in
    omega (arith, bounds.0, c.if-taken-eq0.false)

pub step_mark-requires-clause-time : goal.step_mark-requires-clause-time
step_mark-requires-clause-time c =
    let last = marked c.requires.reads.0 c.args.mark.now (reader_of c.args.lines.now) None c.args.out.now.rows c.requires.reads.1
    c.take_quick-taken.result (reader_of c.take_quick-taken.new.self) c.take_quick-taken.new.out.rows (c.args.mark.now.left + (c.take_quick-taken.result - 1)) (c.len.result - 1) c.row.result c.take_quick-taken.ensures.rows c.if-taken-eq0.false refl (ap (λ n. n - 1) c.len.ensures) c.row.ensures in
    omega (arith, stamps_fit _ _ c.row.result last.fits.fits)

pub returns-clause-takes : goal.returns-clause-takes
returns-clause-takes c =
    let m = c.args.mark.now in
    let old = reader_of c.args.lines.now in
    let new = reader_of c.take_quick-taken.new.self in
    let had = c.args.out.now.rows in
    let has = c.take_quick-taken.new.out.rows in
    let n = c.take_quick-taken.result in
    let takes = takes_marked m old new had has
    n (m.left + (n - 1)) (c.len.result - 1) c.row.result c.take_quick-taken.ensures.rows c.if-taken-eq0.false refl (ap (λ k. k - 1) c.len.ensures) c.row.ensures in
    subst (λ x. TakesOn n m x (one old) (one new) had has) (sym c.step_mark.ensures) takes
