use Rattle.std.proofs.Common.{◌≡◌, ◌-◌}
use Rattle.arch_disk.specs.Disk.{NoFault, OnlyReads}
use Rattle.run_files.specs.Opening.{StandsInRun, file_opened, index_pages, pages_read}
use Rattle.run_files.proofs.opening.open_run.Given as goal

abbrev pub invariant-pages : goal.invariant-pages
invariant-pages g l = record {
  file : file_opened l.opening ≡ file_opened l.initial.opening;
  looked : OnlyReads g.D.Disk.device l.initial.disk l.disk;
  no_fault : NoFault g.D.Disk.device l.initial.disk l.disk;
  reading : StandsInRun g.D.Disk.device l.opening l.disk;
}

abbrev pub decreases-pages : goal.decreases-pages
decreases-pages g l = index_pages l.opening - pages_read l.opening
