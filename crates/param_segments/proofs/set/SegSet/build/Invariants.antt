use Rattle.param_segments.proofs.set.SegSet.build.Given as goal

abbrev pub ghosts-put_extracted : goal.ghosts-put_extracted
ghosts-put_extracted a = record { name = a.blank.name; parts = a.blank.parts }
