use Rattle.retrieval_tests.proofs.parts.answer_by.Given as goal

abbrev pub ghosts-answered : goal.ghosts-answered
ghosts-answered a = record { name = a.blank.name; parts = a.blank.parts }
