use Rattle.saber_ring.proofs.Readers.{needs_are_whole}
use Rattle.saber_ring.proofs.laws.needs_are_whole.Goals as goal

pub returns : goal.returns
returns g c = λ size. needs_are_whole g.W.Work.is_told g.W.Work.upto g.W.Work.first g.W.Work.is_rows g.W.Work.is_piece g.W.Work.is_stage size g.W.Work.rises
