use Rattle.std.proofs.Common.{◌≡◌, take}
use Rattle.std.specs.Prelude.{IsTrue}
use Rattle.std.specs.List.{AllByRecursion}
use Rattle.arch_disk.specs.Disk.{NoFault, OnlyReads}
use Rattle.sealed_rows.specs.Gathered.{gathered_of}
use Rattle.sealed_rows.specs.Wanted.{IsRowWanted}
use Rattle.sealed_rows.proofs.reading.gather.Given as goal

abbrev pub invariant-loop-run : goal.invariant-loop-run
invariant-loop-run g l = record {
  looked : OnlyReads g.D.Disk.device l.fn.disk l.disk;
  no_fault : NoFault g.D.Disk.device l.fn.disk l.disk;
  each : AllByRecursion (IsRowWanted l.wanted) l.rows.items;
  rows : IsTrue g.D.Disk.device.is_transparent → l.rows.items ≡ gathered_of l.wanted (g.D.Disk.device.reads l.fn.disk) (take l.run-index l.runs);
}
