use Rattle.std.proofs.Common.{◌≡◌, ◌*◌, ◌++◌, take}
use Rattle.std.specs.Prelude.{IsTrue}
use Rattle.std.specs.List.{AllByRecursion}
use Rattle.arch_disk.specs.Disk.{NoFault, OnlyReads}
use Rattle.run_files.specs.Run.{run_file}
use Rattle.sealed_rows.specs.Rows.{rows_in}
use Rattle.sealed_rows.specs.Wanted.{IsRowWanted, rows_wanted}
use Rattle.sealed_rows.proofs.reading.add_pages.Given as goal

abbrev pub invariant-loop-page : goal.invariant-loop-page
invariant-loop-page g l = record {
  looked : OnlyReads g.D.Disk.device l.fn.disk l.disk;
  no_fault : NoFault g.D.Disk.device l.fn.disk l.disk;
  each : AllByRecursion (IsRowWanted l.wanted) l.rows.items;
  rows : IsTrue g.D.Disk.device.is_transparent → l.rows.items ≡ l.fn.rows.items ++ rows_wanted l.wanted (take (64 * l.page) (rows_in (g.D.Disk.device.reads l.fn.disk (run_file l.run)) l.run));
}
