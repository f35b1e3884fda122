use Rattle.dump_commands.proofs.values.work.Given as goal

abbrev pub ghosts-print : goal.ghosts-print
ghosts-print g a = record { name = a.blank.name; parts = a.blank.parts }
