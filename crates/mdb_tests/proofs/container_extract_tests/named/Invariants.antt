use Rattle.mdb_tests.proofs.container_extract_tests.named.Given as goal

abbrev pub ghosts-named_by : goal.ghosts-named_by
ghosts-named_by a = record { name = a.blank.name; parts = a.blank.parts }
