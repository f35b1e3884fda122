use Rattle.make_command.proofs.summary.print_summary.Given as goal

abbrev pub ghosts-cell_counts : goal.ghosts-cell_counts
ghosts-cell_counts g a = record { name = a.blank.name; parts = a.blank.parts }
