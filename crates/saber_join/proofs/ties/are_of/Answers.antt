use Rattle.saber_join.specs.Ties.{IsOf}
use Rattle.saber_join.proofs.Tying.{all_more, all_done}
use Rattle.saber_join.proofs.ties.are_of.Goals as goal

pub loop-factor-preserved : goal.loop-factor-preserved
loop-factor-preserved c = all_more (IsOf c.args.side) c.args.factors.now c.loop-factor.factor-index _ c.loop-factor-test.true (c.is_of.ensures c.if-not-is_of.false) c.loop-factor.invariant

pub returns : goal.returns
returns c _ = all_done (IsOf c.args.side) c.args.factors.now c.loop-factor.factor-index c.loop-factor-test.false c.loop-factor.invariant
