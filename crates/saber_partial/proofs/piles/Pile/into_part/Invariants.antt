use Rattle.saber_partial.proofs.piles.Pile.into_part.Given as goal

abbrev pub ghosts-join_all : goal.ghosts-join_all
ghosts-join_all a = record { name = a.blank.name; parts = a.blank.parts }
