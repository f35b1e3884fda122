use Rattle.archive_core.proofs.answers.cells_asked.Given as goal

abbrev pub ghosts-cells_in : goal.ghosts-cells_in
ghosts-cells_in a = record { name = a.blank.name; parts = a.blank.parts }
