use Rattle.saber_group.proofs.operator.GroupOperatorOperator.take_in.Given as goal

abbrev pub ghosts-take_uncounted : goal.ghosts-take_uncounted
ghosts-take_uncounted a = record { name = a.blank.name; parts = a.blank.parts }
