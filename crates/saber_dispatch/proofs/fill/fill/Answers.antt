use Rattle.std.proofs.Common.{◌<◌, ◌+◌, ◌∙◌, refl, sym, subst, arith, Result}
use Rattle.saber_dispatch.specs.declared.ends.End.{End}
use Rattle.saber_dispatch.specs.declared.ends.End.TheVariants.{ReadFault}
use Rattle.saber_dispatch.specs.Readings.{reading_of}
use Rattle.saber_dispatch.specs.Sources.{each_input}
use Rattle.saber_dispatch.specs.Filling.{Filling, Fills, prepend}
use Rattle.saber_dispatch.proofs.Fillings.{filling_nothing, filling_reads, filling_next, filled_next, filled_all, still_suits, not_filled}
use Rattle.saber_dispatch.proofs.Takings.{further}
use Rattle.saber_dispatch.proofs.Faults.{none_same, none_on, rose_on}
use Rattle.saber_dispatch.proofs.fill.fill.Goals as goal

pub loop-done-init : goal.loop-done-init
loop-done-init g c = record {
  within = omega arith;
  begun = c.requires.begun;
  filling = λ q r. filling_nothing q c.args.mark.now (reading_of c.args.reader.now) (each_input g.S.Source.left c.args.inputs.now) c.args.rows.now.rows c.requires.suits r;
  suits = c.requires.suits;
  opened = c.requires.opened;
  same = refl;
  count = none_same (each_input g.S.Source.faults c.args.inputs.now);
}

pub take_quick-done-requires-clause-reads : goal.take_quick-done-requires-clause-reads
take_quick-done-requires-clause-reads g c =
    let l = each_input g.S.Source.left in
    (c.requires.reads.0, filling_reads c.loop-done.done c.requires.reads.0 c.args.mark.now c.loop-done.mark (reading_of c.args.reader.now) (reading_of c.loop-done.reader) (l c.args.inputs.now) (l c.loop-done.inputs) c.args.rows.now.rows c.loop-done.rows.rows (c.loop-done.invariant.filling c.requires.reads.0 c.requires.reads.1))

pub returns-then-done-size-clause-fills : goal.returns-then-done-size-clause-fills
returns-then-done-size-clause-fills g c q r =
    let l = each_input g.S.Source.left in
    let f = further c.loop-done.done c.take_quick-done.result q c.args.mark.now c.loop-done.mark c.take_quick-done.new.mark (reading_of c.args.reader.now) (reading_of c.loop-done.reader) (reading_of c.take_quick-done.new.self) (l c.args.inputs.now) (l c.loop-done.inputs)
    c.args.rows.now.rows c.loop-done.rows.rows c.take_quick-done.new.out.rows (c.loop-done.invariant.filling q r) c.loop-done.invariant.opened c.loop-done.invariant.suits c.take_quick-done.ensures.takes in
    filled_all c.args.size tt q c.args.mark.now c.take_quick-done.new.mark (reading_of c.args.reader.now) (reading_of c.take_quick-done.new.self) (l c.args.inputs.now) (l c.loop-done.inputs) c.args.rows.now.rows c.take_quick-done.new.out.rows
    (subst (λ k. Filling k q c.args.mark.now c.take_quick-done.new.mark (reading_of c.args.reader.now) (reading_of c.take_quick-done.new.self) (l c.args.inputs.now) (l c.loop-done.inputs) c.args.rows.now.rows c.take_quick-done.new.out.rows) c.if-done-size.true f.filling) f.opened

pub push_next-requires : goal.push_next-requires
push_next-requires g c =
    let l = each_input g.S.Source.left in
    let f = further c.loop-done.done c.take_quick-done.result c.requires.reads.0 c.args.mark.now c.loop-done.mark c.take_quick-done.new.mark (reading_of c.args.reader.now) (reading_of c.loop-done.reader) (reading_of c.take_quick-done.new.self) (l c.args.inputs.now) (l c.loop-done.inputs)
    c.args.rows.now.rows c.loop-done.rows.rows c.take_quick-done.new.out.rows (c.loop-done.invariant.filling c.requires.reads.0 c.requires.reads.1) c.loop-done.invariant.opened c.loop-done.invariant.suits c.take_quick-done.ensures.takes in
    record { begun = c.take_quick-done.ensures.begun; suits = f.suits; opened = f.opened; reads = (c.requires.reads.0, f.reads) }

pub loop-done-preserved : goal.loop-done-preserved
loop-done-preserved g c =
    let l = each_input g.S.Source.left in
    let k = each_input g.S.Source.faults in
    let first = reading_of c.args.reader.now in
    let old = reading_of c.take_quick-done.new.self in
    let new = reading_of c.push_next.new.reader in
    let here = l c.loop-done.inputs in
    let there = l c.push_next.new.inputs in
    let f0 = further c.loop-done.done c.take_quick-done.result c.requires.reads.0 c.args.mark.now c.loop-done.mark c.take_quick-done.new.mark first (reading_of c.loop-done.reader) old (l c.args.inputs.now) here
    c.args.rows.now.rows c.loop-done.rows.rows c.take_quick-done.new.out.rows (c.loop-done.invariant.filling c.requires.reads.0 c.requires.reads.1) c.loop-done.invariant.opened c.loop-done.invariant.suits c.take_quick-done.ensures.takes in
    let n0 = subst (λ (a : Result (Unit {0}) End). Fills a c.requires.reads.0 1 c.take_quick-done.new.mark c.push_next.new.mark old new here there c.take_quick-done.new.out.rows c.push_next.new.rows.rows) c.in-Ok.is (c.push_next.ensures.fills c.requires.reads.0 f0.reads) in
    record {
      within = omega (arith, c.loop-done-test.true, c.take_quick-done.ensures.most, c.if-done-size.false);
      begun = c.in-Ok.ensures.begun;
      filling = λ q r.
          let f = further c.loop-done.done c.take_quick-done.result q c.args.mark.now c.loop-done.mark c.take_quick-done.new.mark first (reading_of c.loop-done.reader) old (l c.args.inputs.now) here
          c.args.rows.now.rows c.loop-done.rows.rows c.take_quick-done.new.out.rows (c.loop-done.invariant.filling q r) c.loop-done.invariant.opened c.loop-done.invariant.suits c.take_quick-done.ensures.takes in
          filling_next (c.loop-done.done + c.take_quick-done.result) q c.args.mark.now c.take_quick-done.new.mark c.push_next.new.mark first old new (l c.args.inputs.now) here there c.args.rows.now.rows c.take_quick-done.new.out.rows c.push_next.new.rows.rows f.filling _
          (subst (λ (a : Result (Unit {0}) End). Fills a q 1 c.take_quick-done.new.mark c.push_next.new.mark old new here there c.take_quick-done.new.out.rows c.push_next.new.rows.rows) c.in-Ok.is (c.push_next.ensures.fills q f.reads));
      suits = still_suits (prepend n0.rows) old new here there n0.took.moves;
      opened = (n0.full _ refl).1;
      same = c.push_next.ensures.good (λ side e. not_filled _ (ReadFault side) (sym c.in-Ok.is ∙ e)) ∙ c.loop-done.invariant.same;
      count = none_on (k c.args.inputs.now) (k c.loop-done.inputs) (k c.push_next.new.inputs) c.loop-done.invariant.count c.push_next.ensures.count;
    }

pub returns-in-Err-clause-fills : goal.returns-in-Err-clause-fills
returns-in-Err-clause-fills g c q r =
    let l = each_input g.S.Source.left in
    let old = reading_of c.take_quick-done.new.self in
    let new = reading_of c.push_next.new.reader in
    let here = l c.loop-done.inputs in
    let there = l c.push_next.new.inputs in
    let f = further c.loop-done.done c.take_quick-done.result q c.args.mark.now c.loop-done.mark c.take_quick-done.new.mark (reading_of c.args.reader.now) (reading_of c.loop-done.reader) old (l c.args.inputs.now) here
    c.args.rows.now.rows c.loop-done.rows.rows c.take_quick-done.new.out.rows (c.loop-done.invariant.filling q r) c.loop-done.invariant.opened c.loop-done.invariant.suits c.take_quick-done.ensures.takes in
    let less : c.loop-done.done + c.take_quick-done.result < c.args.size = omega (arith, c.loop-done-test.true, c.take_quick-done.ensures.most, c.if-done-size.false) in
    filled_next (c.loop-done.done + c.take_quick-done.result) q c.args.mark.now c.take_quick-done.new.mark c.push_next.new.mark (reading_of c.args.reader.now) old new (l c.args.inputs.now) here there c.args.rows.now.rows c.take_quick-done.new.out.rows c.push_next.new.rows.rows f.filling
    c.args.size c.in-Err.end less
    (subst (λ (a : Result (Unit {0}) End). Fills a q 1 c.take_quick-done.new.mark c.push_next.new.mark old new here there c.take_quick-done.new.out.rows c.push_next.new.rows.rows) c.in-Err.is (c.push_next.ensures.fills q f.reads))

pub returns-in-Err-clause-cause : goal.returns-in-Err-clause-cause
returns-in-Err-clause-cause g c side e =
    let k = each_input g.S.Source.faults in
    rose_on side (k c.args.inputs.now) (k c.loop-done.inputs) (k c.push_next.new.inputs) c.loop-done.invariant.count (c.push_next.ensures.cause side (c.in-Err.is ∙ e))

pub returns-in-Err-clause-good : goal.returns-in-Err-clause-good
returns-in-Err-clause-good g c h = c.push_next.ensures.good (λ side e. h side (sym c.in-Err.is ∙ e)) ∙ c.loop-done.invariant.same

pub returns-in-Err-clause-count : goal.returns-in-Err-clause-count
returns-in-Err-clause-count g c =
    let k = each_input g.S.Source.faults in
    none_on (k c.args.inputs.now) (k c.loop-done.inputs) (k c.push_next.new.inputs) c.loop-done.invariant.count c.push_next.ensures.count

pub returns-clause-fills : goal.returns-clause-fills
returns-clause-fills g c q r =
    let l = each_input g.S.Source.left in
    filled_all c.args.size tt q c.args.mark.now c.loop-done.mark (reading_of c.args.reader.now) (reading_of c.loop-done.reader) (l c.args.inputs.now) (l c.loop-done.inputs) c.args.rows.now.rows c.loop-done.rows.rows
    (subst (λ k. Filling k q c.args.mark.now c.loop-done.mark (reading_of c.args.reader.now) (reading_of c.loop-done.reader) (l c.args.inputs.now) (l c.loop-done.inputs) c.args.rows.now.rows c.loop-done.rows.rows) (omega (arith, c.loop-done-test.false, c.loop-done.invariant.within)) (c.loop-done.invariant.filling q r)) c.loop-done.invariant.opened
