use Rattle.saber_engine.proofs.Deals.{like_passes}
use Rattle.saber_engine.proofs.dealt.deal_one.Goals as goal

pub pass_on-requires : goal.pass_on-requires
pass_on-requires c = like_passes c.args.keeper.now c.args.block.now c.in_ok-own.own c.in_ok-own.ensures c.requires
