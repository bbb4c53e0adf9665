use Rattle.saber_edge_tests.proofs.panes.check_window.Given as goal

abbrev pub ghosts-lines_of_window : goal.ghosts-lines_of_window
ghosts-lines_of_window g a = record { name = a.blank.name; parts = a.blank.parts }
