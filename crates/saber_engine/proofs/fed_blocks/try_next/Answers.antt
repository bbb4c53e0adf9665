use Rattle.std.proofs.Common.{◌∙◌, sym, subst}
use Rattle.saber_engine.proofs.FedDry.{adds_came, stays_dry}
use Rattle.saber_dispatch.specs.Feeding.{StepTo}
use Rattle.saber_assembly.specs.Works.{input_of}
use Rattle.saber_engine.specs.FedSupplying.{FeedView, feed_seen}
use Rattle.saber_engine.proofs.Passed.{Passes}
use Rattle.saber_engine.proofs.Supplied.{if_some}
use Rattle.saber_engine.proofs.FedSupplied.{Stepped, block_given, taken_back, dry, end_given, refilled}
use Rattle.saber_engine.proofs.fed_blocks.try_next.Goals as goal

pub step-requires : goal.step-requires
step-requires g c = let r = c.requires.given in (g.O.Operator.plan r.0.operator, g.J.BeginsFed.sizes, input_of r.0, r.2.cuts)

pub pass_on-requires : goal.pass_on-requires
pass_on-requires g c =
    let (told, d, h) = c.requires.given in
    let q = g.O.Operator.plan told.operator in
    let s = g.J.BeginsFed.sizes in
    let f = g.F.Feed in
    let feed = c.args.feed.now in
    let to = subst (λ z. StepTo z q s (f.taken feed) (f.waiting c.step.new.feed) (f.mark feed) c.step.new.self (input_of told)) c.in-Block.is (c.step.ensures.cuts q s (input_of told) h.cuts) in
    (q, told.rows, h.placed c.requires.goes, to.0.fits)

pub returns-in-Ok-clause-gives : goal.returns-in-Ok-clause-gives
returns-in-Ok-clause-gives g c told d h =
    let f = g.F.Feed in let n = c.step.ensures in
    let v : FeedView = feed_seen f.taken f.waiting f.mark f.faults c.args.feed.now in let w : FeedView = feed_seen f.taken f.waiting f.mark f.faults c.step.new.feed in
    let old = c.args.blocks.now.cutter in let new = c.step.new.self in
    let called : Stepped v w old new c.step.result =
    record { on = n.cuts; taken_is = n.stands.0; mark_is = n.stands.1; again = λ x e. (if_some _ _ x e n.again).0; cause = n.cause; sound = n.sound; good = n.good; count = n.count; none = n.none } in
    let p = c.in-Ok.ensures in
    let passes : Passes c.args.blocks.now.keeper c.in-Block.block c.in-Ok.block c.pass_on.new.self = record { same = p.same; gives = p.gives; keeps = p.keeps; places = p.places } in
    block_given g.O.Operator.plan g.J.BeginsFed.sizes g.J.BeginsFed.faults v w old new c.args.blocks.now.keeper c.args.blocks.now.end c.requires.goes c.step.result called told d h c.in-Block.block c.in-Ok.block c.pass_on.new.self c.in-Block.is passes

pub returns-in-Err-clause-gives : goal.returns-in-Err-clause-gives
returns-in-Err-clause-gives g c told d h =
    let f = g.F.Feed in let n = c.step.ensures in
    let v : FeedView = feed_seen f.taken f.waiting f.mark f.faults c.args.feed.now in let w : FeedView = feed_seen f.taken f.waiting f.mark f.faults c.step.new.feed in
    let old = c.args.blocks.now.cutter in let new = c.step.new.self in
    let called : Stepped v w old new c.step.result =
    record { on = n.cuts; taken_is = n.stands.0; mark_is = n.stands.1; again = λ x e. (if_some _ _ x e n.again).0; cause = n.cause; sound = n.sound; good = n.good; count = n.count; none = n.none } in
    taken_back g.O.Operator.plan g.J.BeginsFed.sizes g.J.BeginsFed.faults v w old new c.args.blocks.now.keeper c.args.blocks.now.end c.requires.goes c.step.result called told d h c.in-Block.block c.pass_on.new.self c.take_back.new.self c.in-Block.is c.take_back.ensures.cuts

pub returns-in-Ended-clause-gives : goal.returns-in-Ended-clause-gives
returns-in-Ended-clause-gives g c told d h =
    let f = g.F.Feed in let n = c.step.ensures in
    let v : FeedView = feed_seen f.taken f.waiting f.mark f.faults c.args.feed.now in let w : FeedView = feed_seen f.taken f.waiting f.mark f.faults c.step.new.feed in
    let old = c.args.blocks.now.cutter in let new = c.step.new.self in
    let called : Stepped v w old new c.step.result =
    record { on = n.cuts; taken_is = n.stands.0; mark_is = n.stands.1; again = λ x e. (if_some _ _ x e n.again).0; cause = n.cause; sound = n.sound; good = n.good; count = n.count; none = n.none } in
    end_given g.O.Operator.plan g.J.BeginsFed.sizes g.J.BeginsFed.faults v w old new c.args.blocks.now.keeper c.args.blocks.now.end c.requires.goes c.step.result called told d h c.in-Ended.end c.in-Ended.is

pub returns-then-refill-clause-gives : goal.returns-then-refill-clause-gives
returns-then-refill-clause-gives g c told d h =
    let f = g.F.Feed in let n = c.step.ensures in let plan = g.O.Operator.plan in let s = g.J.BeginsFed.sizes in let before = g.J.BeginsFed.faults in
    let v : FeedView = feed_seen f.taken f.waiting f.mark f.faults c.args.feed.now in let w : FeedView = feed_seen f.taken f.waiting f.mark f.faults c.step.new.feed in
    let x : FeedView = feed_seen f.taken f.waiting f.mark f.faults c.refill.new.self in
    let old = c.args.blocks.now.cutter in let new = c.step.new.self in let k = c.args.blocks.now.keeper in let end = c.args.blocks.now.end in
    let called : Stepped v w old new c.step.result =
    record { on = n.cuts; taken_is = n.stands.0; mark_is = n.stands.1; again = λ x e. (if_some _ _ x e n.again).0; cause = n.cause; sound = n.sound; good = n.good; count = n.count; none = n.none } in
    refilled plan s before w x new k end c.refill.result c.refill.ensures.more c.refill.ensures.count told d (dry plan s before v w old new k end c.requires.goes c.step.result called told d h c.in-Dry.is)

pub returns-else-refill-clause-gives : goal.returns-else-refill-clause-gives
returns-else-refill-clause-gives g c told d h =
    let f = g.F.Feed in let n = c.step.ensures in let plan = g.O.Operator.plan in let s = g.J.BeginsFed.sizes in let before = g.J.BeginsFed.faults in
    let v : FeedView = feed_seen f.taken f.waiting f.mark f.faults c.args.feed.now in let w : FeedView = feed_seen f.taken f.waiting f.mark f.faults c.step.new.feed in
    let x : FeedView = feed_seen f.taken f.waiting f.mark f.faults c.refill.new.self in
    let old = c.args.blocks.now.cutter in let new = c.step.new.self in let k = c.args.blocks.now.keeper in let end = c.args.blocks.now.end in
    let called : Stepped v w old new c.step.result =
    record { on = n.cuts; taken_is = n.stands.0; mark_is = n.stands.1; again = λ x e. (if_some _ _ x e n.again).0; cause = n.cause; sound = n.sound; good = n.good; count = n.count; none = n.none } in
    refilled plan s before w x new k end c.refill.result c.refill.ensures.more c.refill.ensures.count told d (dry plan s before v w old new k end c.requires.goes c.step.result called told d h c.in-Dry.is)

pub returns-else-refill-clause-dry : goal.returns-else-refill-clause-dry
returns-else-refill-clause-dry g c e =
    let f = g.F.Feed in let s = c.step.new.feed in let x = c.refill.new.self in let d = c.step.ensures.dry c.in-Dry.is in
    stays_dry (f.taken s) (f.taken x) (f.waiting s) (f.waiting x) (f.mark s) (f.mark x) c.refill.result c.refill.ensures.more c.if-refill.false d

pub returns-then-refill-clause-came : goal.returns-then-refill-clause-came
returns-then-refill-clause-came g c e =
    let f = g.F.Feed in let s = c.step.new.feed in let x = c.refill.new.self in let d = c.step.ensures.dry c.in-Dry.is in let n = c.step.ensures.stands in
    (sym n.1 ∙ d.1, adds_came (f.taken c.args.feed.now) (f.taken s) (f.taken x) (f.waiting s) (f.waiting x) (f.mark s) (f.mark x) c.refill.result c.refill.ensures.more c.if-refill.true n.0 d.0)
