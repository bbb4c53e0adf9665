use Rattle.saber_ring.proofs.NoEvents.{store_law}
use Rattle.saber_ring.proofs.laws.a_store_is_no_event.Goals as goal

pub returns : goal.returns
returns g c = store_law g.W.Work.is_told g.W.Work.upto g.W.Work.first g.W.Work.is_rows g.W.Work.is_piece g.W.Work.is_stage g.W.Work.filled g.W.Work.keeps g.W.Work.whole
