use Rattle.std.proofs.Common.{map, zip, ◌∙◌, ap}
use Rattle.saber_places.specs.Numbering.{lists_in}
use Rattle.saber_partition.specs.Stores.{own_of, lists_of}
use Rattle.saber_partition.proofs.Kept.{turned_step}
use Rattle.saber_partition.proofs.Stored.{list_inserted}
use Rattle.saber_partition.proofs.lists.in_order.Goals as goal

pub loop-list-preserved : goal.loop-list-preserved
loop-list-preserved c =
    let (turned, long) = turned_step c.loop-list.lists.items c.pop.new.self.items c.in-Some.list c.loop-list.owns.items c.pop-in-Some.new.self.items c.in-Some-pop.own
    (zip (lists_in c.args.lists.items) (map own_of c.args.owns.items)) (lists_of c.loop-list.all.entries) (lists_of c.insert.new.self.entries)
    c.in-Some.ensures.items c.in-Some-pop.ensures.items c.loop-list.invariant.long c.loop-list.invariant.turned
    (ap lists_of c.in_ok-old.ensures.entries ∙ list_inserted c.in-Some.list c.in-Some-pop.own c.loop-list.all.entries) in
    record { turned = turned; long = long }
