use Rattle.saber_pipe.specs.Pipes.{id_of}
use Rattle.saber_edge_tests.proofs.pipes.cut_off.Given as goal

abbrev pub ghosts-hand_over : goal.ghosts-hand_over
ghosts-hand_over g a = record { id = id_of a.pipe.now }
