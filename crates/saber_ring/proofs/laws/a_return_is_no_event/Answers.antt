use Rattle.saber_ring.proofs.NoEvents.{return_law}
use Rattle.saber_ring.proofs.laws.a_return_is_no_event.Goals as goal

pub returns : goal.returns
returns g c = return_law g.W.Work.is_told g.W.Work.upto g.W.Work.first g.W.Work.is_rows g.W.Work.is_piece g.W.Work.is_stage (λ _. g.W.Work.rises) (λ _. g.W.Work.again)
