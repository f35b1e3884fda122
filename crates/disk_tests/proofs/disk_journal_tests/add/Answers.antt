use Rattle.disk_journal.proofs.Appending.{some_same}
use Rattle.disk_tests.proofs.disk_journal_tests.add.Goals as goal

pub append-requires-clause-sound : goal.append-requires-clause-sound
append-requires-clause-sound g c is_transparent = some_same g.D.Disk.device c.args.journal.now c.reserve.new.self c.args.disk.now c.reserve.ensures.same (c.requires.kept is_transparent)
