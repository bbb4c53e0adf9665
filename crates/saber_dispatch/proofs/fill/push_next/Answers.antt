use Rattle.std.proofs.Common.{◌≡◌, ◌∙◌, sym, ap, subst, arith}
use Rattle.saber_flat.specs.Places.{Building, with_row}
use Rattle.saber_dispatch.specs.declared.ends.End.TheVariants.{ReadFault}
use Rattle.saber_dispatch.specs.Readings.{reading_of, Stepped, NextRow, NextNone}
use Rattle.saber_dispatch.specs.Sources.{each_input}
use Rattle.saber_dispatch.proofs.Fillings.{filling_nothing, filling_more, filled_none, filled_lack, filled_all, small, pushed_ok, as_row, as_fill, not_both, row_again}
use Rattle.saber_window.proofs.Stamps.{stamps_fit}
use Rattle.saber_dispatch.proofs.fill.push_next.Goals as goal

pub next-requires : goal.next-requires
next-requires g c = c.requires.suits

pub step_mark-requires-clause-left : goal.step_mark-requires-clause-left
step_mark-requires-clause-left g c = omega (arith, (small c.requires.reads.0 c.args.mark.now (reading_of c.args.reader.now) c.requires.reads.1).0)

pub step_mark-requires-clause-right : goal.step_mark-requires-clause-right
step_mark-requires-clause-right g c = omega (arith, (small c.requires.reads.0 c.args.mark.now (reading_of c.args.reader.now) c.requires.reads.1).1)

pub step_mark-requires-clause-time : goal.step_mark-requires-clause-time
step_mark-requires-clause-time g c =
    let l = each_input g.S.Source.left in
    let old = reading_of c.args.reader.now in
    let new = reading_of c.next.new.self in
    let n : NextRow c.requires.reads.0 c.args.mark.now c.of-row.result old new (l c.args.inputs.now) (l c.next.new.inputs) =
    subst (λ a. Stepped c.requires.reads.0 c.args.mark.now a old new (l c.args.inputs.now) (l c.next.new.inputs)) (row_again c.next.result c.in-Ok.row c.of-row.result c.in-Ok.is c.of-row.ensures) (c.next.ensures.step c.requires.reads.0 c.args.mark.now c.requires.reads.1) in
    omega (arith, stamps_fit _ _ c.of-row.result n.fits.fits)

-- ---- a row without memory for it

pub returns-then-is_err-clause-fills : goal.returns-then-is_err-clause-fills
returns-then-is_err-clause-fills g c q r =
    let l = each_input g.S.Source.left in
    let old = reading_of c.args.reader.now in
    let new = reading_of c.next.new.self in
    let had = l c.args.inputs.now in
    let n : NextRow q c.args.mark.now c.of-row.result old new had (l c.next.new.inputs) =
    subst (λ a. Stepped q c.args.mark.now a old new had (l c.next.new.inputs)) (row_again c.next.result c.in-Ok.row c.of-row.result c.in-Ok.is c.of-row.ensures) (c.next.ensures.step q c.args.mark.now r) in
    filled_lack 0 q c.args.mark.now c.args.mark.now old old new had had (l c.next.new.inputs) c.args.rows.now.rows c.args.rows.now.rows (filling_nothing q c.args.mark.now old had c.args.rows.now.rows c.requires.suits r)
    1 c.step_mark.result c.push.new.self.rows c.of-row.result (omega arith) n c.step_mark.ensures

pub returns-then-is_err-clause-good : goal.returns-then-is_err-clause-good
returns-then-is_err-clause-good g c h = c.next.ensures.good (λ side e. not_both c.in-Ok.row (ReadFault side) (sym c.in-Ok.is ∙ e))

pub returns-then-is_err-clause-count : goal.returns-then-is_err-clause-count
returns-then-is_err-clause-count g c = c.next.ensures.count

-- ---- a row

pub returns-else-is_err-clause-fills : goal.returns-else-is_err-clause-fills
returns-else-is_err-clause-fills g c q r =
    let l = each_input g.S.Source.left in
    let old = reading_of c.args.reader.now in
    let new = reading_of c.next.new.self in
    let had = l c.args.inputs.now in
    let has = l c.next.new.inputs in
    let start = c.args.rows.now.rows in
    let n : NextRow q c.args.mark.now c.of-row.result old new had has =
    subst (λ a. Stepped q c.args.mark.now a old new had has) (row_again c.next.result c.in-Ok.row c.of-row.result c.in-Ok.is c.of-row.ensures) (c.next.ensures.step q c.args.mark.now r) in
    let pushed : c.push.new.self ≡ with_row c.of-row.result c.args.rows.now = pushed_ok c.push.result c.is_err.result _ c.if-is_err.false c.is_err.ensures.value c.push.ensures.ok in
    filled_all 1 tt q c.args.mark.now c.step_mark.result old new had has start c.push.new.self.rows
    (filling_more 0 q c.args.mark.now c.args.mark.now old old new had had has start start (filling_nothing q c.args.mark.now old had start c.requires.suits r) c.step_mark.result c.push.new.self.rows c.of-row.result n c.step_mark.ensures (ap (λ (b : Building). b.rows) pushed))
    n.open_still

pub returns-else-is_err-clause-begun : goal.returns-else-is_err-clause-begun
returns-else-is_err-clause-begun g c =
    let pushed : c.push.new.self ≡ with_row c.of-row.result c.args.rows.now = pushed_ok c.push.result c.is_err.result _ c.if-is_err.false c.is_err.ensures.value c.push.ensures.ok in
    ap (λ (b : Building). b.begun) pushed

pub returns-else-is_err-clause-good : goal.returns-else-is_err-clause-good
returns-else-is_err-clause-good g c h = c.next.ensures.good (λ side e. not_both c.in-Ok.row (ReadFault side) (sym c.in-Ok.is ∙ e))

pub returns-else-is_err-clause-count : goal.returns-else-is_err-clause-count
returns-else-is_err-clause-count g c = c.next.ensures.count

-- ---- none

pub returns-in-Err-clause-fills : goal.returns-in-Err-clause-fills
returns-in-Err-clause-fills g c q r =
    let l = each_input g.S.Source.left in
    let old = reading_of c.args.reader.now in
    let new = reading_of c.next.new.self in
    let had = l c.args.inputs.now in
    let n : NextNone q c.args.mark.now c.in-Err.end old new had (l c.next.new.inputs) =
    subst (λ a. Stepped q c.args.mark.now a old new had (l c.next.new.inputs)) c.in-Err.is (c.next.ensures.step q c.args.mark.now r) in
    filled_none 0 q c.args.mark.now c.args.mark.now old old new had had (l c.next.new.inputs) c.args.rows.now.rows c.args.rows.now.rows (filling_nothing q c.args.mark.now old had c.args.rows.now.rows c.requires.suits r)
    1 c.in-Err.end (omega arith) n

pub returns-in-Err-clause-cause : goal.returns-in-Err-clause-cause
returns-in-Err-clause-cause g c side e = c.next.ensures.cause c.requires.reads.0 c.args.mark.now side c.requires.reads.1 c.requires.opened (c.in-Err.is ∙ as_row c.in-Err.end (ReadFault side) e)

pub returns-in-Err-clause-good : goal.returns-in-Err-clause-good
returns-in-Err-clause-good g c h = c.next.ensures.good (λ side e. h side (as_fill c.in-Err.end (ReadFault side) (sym c.in-Err.is ∙ e)))

pub returns-in-Err-clause-count : goal.returns-in-Err-clause-count
returns-in-Err-clause-count g c = c.next.ensures.count
