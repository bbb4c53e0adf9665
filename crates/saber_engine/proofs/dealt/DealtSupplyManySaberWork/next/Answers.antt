use Rattle.saber_dispatch.specs.Sources.{each_input}
use Rattle.saber_engine.proofs.Deals.{first_cuts, can_deal, blocks_given, dealt_back, ends_given}
use Rattle.saber_engine.proofs.Supplied.{Called, if_some}
use Rattle.saber_engine.proofs.dealt.DealtSupplyManySaberWork.next.Goals as goal

pub next_block-requires : goal.next_block-requires
next_block-requires g c =
    let (told, d, h) = c.requires in
    let left = each_input g.S.Source.left c.args.from.now in
    let faults = each_input g.S.Source.faults c.args.from.now in
    record { cuts = first_cuts g.O.Operator.plan g.J.Begins.sizes g.J.Begins.lefts left g.J.Begins.faults faults c.args.self.now.cutter c.args.self.now.end c.args.self.now.keepers.items told d h }

pub deal-dealt-requires : goal.deal-dealt-requires
deal-dealt-requires g c =
    let (told, d, h) = c.requires in
    let left = each_input g.S.Source.left in
    let faults = each_input g.S.Source.faults in
    let n = c.next_block.ensures in
    let old = c.args.self.now.cutter in
    let new = c.next_block.new.self in
    let cut = c.next_block.result in
    let called : Called (left c.args.from.now) (left c.next_block.new.inputs) (faults c.args.from.now) (faults c.next_block.new.inputs) old new cut =
    record { on = n.cuts; again = λ x e. (if_some _ _ x e n.again).0; cause = n.cause; sound = n.sound; good = n.good; count = n.count } in
    can_deal g.O.Operator.plan g.J.Begins.sizes g.J.Begins.lefts (left c.args.from.now) (left c.next_block.new.inputs) g.J.Begins.faults (faults c.args.from.now) (faults c.next_block.new.inputs) old new c.args.self.now.end c.in-None.is cut called c.in-Block.block c.in-Block.is c.args.self.now.keepers.items told d h

pub returns-in-Ok-clause-gives : goal.returns-in-Ok-clause-gives
returns-in-Ok-clause-gives g c told d h =
    let left = each_input g.S.Source.left in
    let faults = each_input g.S.Source.faults in
    let n = c.next_block.ensures in
    let old = c.args.self.now.cutter in
    let new = c.next_block.new.self in
    let cut = c.next_block.result in
    let called : Called (left c.args.from.now) (left c.next_block.new.inputs) (faults c.args.from.now) (faults c.next_block.new.inputs) old new cut =
    record { on = n.cuts; again = λ x e. (if_some _ _ x e n.again).0; cause = n.cause; sound = n.sound; good = n.good; count = n.count } in
    blocks_given g.O.Operator.plan g.J.Begins.sizes g.J.Begins.lefts (left c.args.from.now) (left c.next_block.new.inputs) g.J.Begins.faults (faults c.args.from.now) (faults c.next_block.new.inputs) old new c.args.self.now.end c.in-None.is cut called
    c.in-Block.block c.in-Block.is c.args.self.now.keepers.items c.in-Ok.blocks.items c.deal-dealt.new.keepers.items c.in-Ok.ensures.deals told d h

pub returns-in-Err-clause-gives : goal.returns-in-Err-clause-gives
returns-in-Err-clause-gives g c told d h =
    let left = each_input g.S.Source.left in
    let faults = each_input g.S.Source.faults in
    let n = c.next_block.ensures in
    let old = c.args.self.now.cutter in
    let new = c.next_block.new.self in
    let cut = c.next_block.result in
    let called : Called (left c.args.from.now) (left c.next_block.new.inputs) (faults c.args.from.now) (faults c.next_block.new.inputs) old new cut =
    record { on = n.cuts; again = λ x e. (if_some _ _ x e n.again).0; cause = n.cause; sound = n.sound; good = n.good; count = n.count } in
    dealt_back g.O.Operator.plan g.J.Begins.sizes g.J.Begins.lefts (left c.args.from.now) (left c.next_block.new.inputs) g.J.Begins.faults (faults c.args.from.now) (faults c.next_block.new.inputs) old new c.args.self.now.end c.in-None.is cut called
    c.in-Block.block c.take_back.new.self c.in-Block.is c.take_back.ensures.cuts c.args.self.now.keepers.items c.deal-dealt.new.keepers.items c.deal-dealt.ensures.many told d h

pub returns-in-Ended-clause-gives : goal.returns-in-Ended-clause-gives
returns-in-Ended-clause-gives g c told d h =
    let left = each_input g.S.Source.left in
    let faults = each_input g.S.Source.faults in
    let n = c.next_block.ensures in
    let old = c.args.self.now.cutter in
    let new = c.next_block.new.self in
    let cut = c.next_block.result in
    let called : Called (left c.args.from.now) (left c.next_block.new.inputs) (faults c.args.from.now) (faults c.next_block.new.inputs) old new cut =
    record { on = n.cuts; again = λ x e. (if_some _ _ x e n.again).0; cause = n.cause; sound = n.sound; good = n.good; count = n.count } in
    ends_given g.O.Operator.plan g.J.Begins.sizes g.J.Begins.lefts (left c.args.from.now) (left c.next_block.new.inputs) g.J.Begins.faults (faults c.args.from.now) (faults c.next_block.new.inputs) old new c.args.self.now.end c.in-None.is cut called
    c.in-Ended.end c.in-Ended.is c.args.self.now.keepers.items told d h
