use Rattle.segment_tests.proofs.set_tests.are_raw_cells.Given as goal

abbrev pub ghosts-first_raw_cells : goal.ghosts-first_raw_cells
ghosts-first_raw_cells a = record { name = a.blank.name; parts = a.blank.parts }
