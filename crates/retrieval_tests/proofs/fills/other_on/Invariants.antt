use Rattle.retrieval_tests.proofs.fills.other_on.Given as goal

abbrev pub ghosts-other_in : goal.ghosts-other_in
ghosts-other_in g a = record { name = a.blank.name; parts = a.blank.parts }
