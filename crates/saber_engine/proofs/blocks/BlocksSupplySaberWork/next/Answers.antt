use Rattle.std.proofs.Common.{subst}
use Rattle.saber_assembly.specs.Works.{input_of}
use Rattle.saber_dispatch.specs.Cutting.{CutTo}
use Rattle.saber_dispatch.specs.Sources.{each_input}
use Rattle.saber_engine.proofs.Passed.{Passes}
use Rattle.saber_engine.proofs.Supplied.{Called, if_some, block_given, taken_back, end_given}
use Rattle.saber_engine.proofs.blocks.BlocksSupplySaberWork.next.Goals as goal

pub pass_on-requires : goal.pass_on-requires
pass_on-requires g c =
    let (told, d, h) = c.requires in
    let q = g.O.Operator.plan told.operator in
    let left = each_input g.S.Source.left in
    let to = subst (λ z. CutTo z q g.J.Begins.sizes g.J.Begins.lefts (left c.next_block.new.inputs) c.next_block.new.self (input_of told)) c.in-Block.is (c.next_block.ensures.cuts q g.J.Begins.sizes g.J.Begins.lefts (input_of told) h.cuts) in
    (q, told.rows, h.placed c.in-None.is, to.0.fits)

pub returns-in-Ok-clause-gives : goal.returns-in-Ok-clause-gives
returns-in-Ok-clause-gives g c told d h =
    let left = each_input g.S.Source.left in
    let faults = each_input g.S.Source.faults in
    let n = c.next_block.ensures in
    let old = c.args.self.now.cutter in
    let new = c.next_block.new.self in
    let cut = c.next_block.result in
    let called : Called (left c.args.from.now) (left c.next_block.new.inputs) (faults c.args.from.now) (faults c.next_block.new.inputs) old new cut =
    record { on = n.cuts; again = λ x e. (if_some _ _ x e n.again).0; cause = n.cause; sound = n.sound; good = n.good; count = n.count } in
    let p = c.in-Ok.ensures in
    let passes : Passes c.args.self.now.keeper c.in-Block.block c.in-Ok.block c.pass_on.new.self = record { same = p.same; gives = p.gives; keeps = p.keeps; places = p.places } in
    block_given g.O.Operator.plan g.J.Begins.sizes g.J.Begins.lefts (left c.args.from.now) (left c.next_block.new.inputs) g.J.Begins.faults (faults c.args.from.now) (faults c.next_block.new.inputs) old new c.args.self.now.keeper c.args.self.now.end c.in-None.is cut called told d h c.in-Block.block c.in-Ok.block c.pass_on.new.self c.in-Block.is passes

pub returns-in-Err-clause-gives : goal.returns-in-Err-clause-gives
returns-in-Err-clause-gives g c told d h =
    let left = each_input g.S.Source.left in
    let faults = each_input g.S.Source.faults in
    let n = c.next_block.ensures in
    let old = c.args.self.now.cutter in
    let new = c.next_block.new.self in
    let cut = c.next_block.result in
    let called : Called (left c.args.from.now) (left c.next_block.new.inputs) (faults c.args.from.now) (faults c.next_block.new.inputs) old new cut =
    record { on = n.cuts; again = λ x e. (if_some _ _ x e n.again).0; cause = n.cause; sound = n.sound; good = n.good; count = n.count } in
    taken_back g.O.Operator.plan g.J.Begins.sizes g.J.Begins.lefts (left c.args.from.now) (left c.next_block.new.inputs) g.J.Begins.faults (faults c.args.from.now) (faults c.next_block.new.inputs) old new c.args.self.now.keeper c.args.self.now.end c.in-None.is cut called told d h c.in-Block.block c.pass_on.new.self c.take_back.new.self c.in-Block.is c.take_back.ensures.cuts

pub returns-in-Ended-clause-gives : goal.returns-in-Ended-clause-gives
returns-in-Ended-clause-gives g c told d h =
    let left = each_input g.S.Source.left in
    let faults = each_input g.S.Source.faults in
    let n = c.next_block.ensures in
    let old = c.args.self.now.cutter in
    let new = c.next_block.new.self in
    let cut = c.next_block.result in
    let called : Called (left c.args.from.now) (left c.next_block.new.inputs) (faults c.args.from.now) (faults c.next_block.new.inputs) old new cut =
    record { on = n.cuts; again = λ x e. (if_some _ _ x e n.again).0; cause = n.cause; sound = n.sound; good = n.good; count = n.count } in
    end_given g.O.Operator.plan g.J.Begins.sizes g.J.Begins.lefts (left c.args.from.now) (left c.next_block.new.inputs) g.J.Begins.faults (faults c.args.from.now) (faults c.next_block.new.inputs) old new c.args.self.now.keeper c.args.self.now.end c.in-None.is cut called told d h c.in-Ended.end c.in-Ended.is
