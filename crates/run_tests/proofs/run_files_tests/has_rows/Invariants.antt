use Rattle.std.specs.Prelude.{IsTrue}
use Rattle.run_files.specs.Run.{IsRunOn}
use Rattle.run_tests.proofs.run_files_tests.has_rows.Given as goal

abbrev pub invariant-loop-page : goal.invariant-loop-page
invariant-loop-page g l = IsTrue g.D.Disk.device.is_transparent → IsRunOn g.D.Disk.device l.run l.disk
