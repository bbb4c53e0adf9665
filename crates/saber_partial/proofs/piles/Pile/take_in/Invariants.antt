use Rattle.saber_partial.proofs.piles.Pile.take_in.Given as goal

abbrev pub ghosts-put_behind : goal.ghosts-put_behind
ghosts-put_behind a = record { name = a.blank.name; parts = a.blank.parts }
