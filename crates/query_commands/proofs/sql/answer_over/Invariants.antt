use Rattle.query_commands.proofs.sql.answer_over.Given as goal

abbrev pub ghosts-print_answers : goal.ghosts-print_answers
ghosts-print_answers g a = record { name = a.blank.name; parts = a.blank.parts }
