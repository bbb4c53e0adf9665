use Rattle.saber_partition.proofs.operator.PartitionOperator.take_in.Given as goal

abbrev pub ghosts-take_piece : goal.ghosts-take_piece
ghosts-take_piece a = record { name = a.blank.name; parts = a.blank.parts }
