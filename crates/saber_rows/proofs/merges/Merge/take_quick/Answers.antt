use Rattle.std.proofs.Common.{arith, refl, sym, subst}
use Rattle.saber_rows.specs.Merging.{merger_of}
use Rattle.saber_rows.specs.MergedRows.{MergesRows}
use Rattle.saber_rows.proofs.MergedRows.{one_more, same_stands}
use Rattle.saber_rows.proofs.merges.Merge.take_quick.Goals as goal

pub loop-taken-preserved : goal.loop-taken-preserved
loop-taken-preserved c = record {
  begun = c.put_lesser.ensures.begun;
  few = omega (arith, c.loop-taken-test.true);
  rows = one_more c.loop-taken.taken (merger_of c.args.self.now) (merger_of c.loop-taken.self) (merger_of c.put_lesser.new.self) c.args.out.now.rows c.loop-taken.out.rows c.put_lesser.new.out.rows
      c.loop-taken.invariant.rows (c.put_lesser.ensures.one c.if-not-put_lesser.false);
}

pub returns-then-not-put_lesser-clause-rows : goal.returns-then-not-put_lesser-clause-rows
returns-then-not-put_lesser-clause-rows c =
    let none = c.put_lesser.ensures.none c.if-not-put_lesser.true in
    (merger_of c.loop-taken.self, subst (MergesRows c.loop-taken.taken (merger_of c.args.self.now) (merger_of c.loop-taken.self) c.args.out.now.rows) (sym none.1) c.loop-taken.invariant.rows, none.0)

pub returns-clause-rows : goal.returns-clause-rows
returns-clause-rows c = (merger_of c.loop-taken.self, c.loop-taken.invariant.rows, same_stands (merger_of c.loop-taken.self) (merger_of c.loop-taken.self) refl)
