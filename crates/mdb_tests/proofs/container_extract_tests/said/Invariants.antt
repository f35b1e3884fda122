use Rattle.mdb_tests.proofs.container_extract_tests.said.Given as goal

abbrev pub ghosts-extracted : goal.ghosts-extracted
ghosts-extracted a = record { name = a.blank.name; parts = a.blank.parts }
