use Rattle.saber_group.proofs.operator.GroupOperatorOperator.start.Given as goal

abbrev pub ghosts-piece_uncounted : goal.ghosts-piece_uncounted
ghosts-piece_uncounted a = record { name = a.blank.name; parts = a.blank.parts }
