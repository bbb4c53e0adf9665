use Rattle.saber_ring.proofs.Readers.{block_words_are}
use Rattle.saber_ring.proofs.laws.block_words_are.Goals as goal

pub returns : goal.returns
returns g c = λ size. block_words_are g.W.Work.is_told g.W.Work.upto g.W.Work.first g.W.Work.is_rows g.W.Work.is_piece g.W.Work.is_stage size
