use Rattle.std.proofs.Common.{arith, subst, sym}
use Rattle.saber_ring.specs.Opening.{IsOpen}
use Rattle.saber_ring.proofs.Openings.{opens_named}
use Rattle.saber_ring.proofs.ring.Ring.new.Goals as goal

pub new-requires : goal.new-requires
new-requires g c =
    opens_named g.W.Work.is_told g.W.Work.upto g.W.Work.first g.W.Work.is_rows g.W.Work.is_piece g.W.Work.is_stage g.W.Work.whole c.args.size g.J.FixedData.told _ _ _ c.args.stage c.in-Ok.ensures (let z = c.requires.size in omega arith) (let z = c.requires.size in omega arith) c.requires.begins
    (subst (IsOpen c.args.size) (sym c.as_slice.ensures.value) c.in-Ok-first_parts.ensures.0) c.in-Ok-first_parts.ensures.1
