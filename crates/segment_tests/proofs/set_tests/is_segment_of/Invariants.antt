use Rattle.segment_tests.proofs.set_tests.is_segment_of.Given as goal

abbrev pub ghosts-cells_in : goal.ghosts-cells_in
ghosts-cells_in a = record { name = a.blank.name; parts = a.blank.parts }
