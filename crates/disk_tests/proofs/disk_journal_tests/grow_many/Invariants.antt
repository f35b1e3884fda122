use Rattle.std.specs.Prelude.{IsTrue}
use Rattle.disk_journal.specs.State.{IsOnDisk}
use Rattle.disk_tests.proofs.disk_journal_tests.grow_many.Given as goal

abbrev pub invariant-loop-i : goal.invariant-loop-i
invariant-loop-i g l = IsTrue g.D.Disk.device.is_transparent → IsOnDisk g.D.Disk.device l.journal l.disk
