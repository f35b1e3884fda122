use Rattle.query_commands.proofs.query.answer_sheet.Given as goal

abbrev pub ghosts-answer_asks : goal.ghosts-answer_asks
ghosts-answer_asks g a = record { name = a.blank.name; parts = a.blank.parts }
