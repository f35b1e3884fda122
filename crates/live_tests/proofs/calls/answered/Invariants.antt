use Rattle.live_tests.proofs.calls.answered.Given as goal

abbrev pub ghosts-answered_with : goal.ghosts-answered_with
ghosts-answered_with g a = record { name = a.blank.name; parts = a.blank.parts }
