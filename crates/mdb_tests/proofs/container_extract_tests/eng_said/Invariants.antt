use Rattle.mdb_tests.proofs.container_extract_tests.eng_said.Given as goal

abbrev pub ghosts-eng_by : goal.ghosts-eng_by
ghosts-eng_by a = record { name = a.blank.name; parts = a.blank.parts }
