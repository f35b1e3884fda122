use Rattle.std.proofs.Common.{take, None}
use Rattle.std.specs.Prelude.{IsTrue}
use Rattle.arch_disk.specs.Disk.{NoFault, OnlyReads}
use Rattle.sealed_rows.specs.Rows.{rows_of_runs}
use Rattle.sealed_rows.specs.Calls.{IsPlaceOf}
use Rattle.sealed_rows.proofs.places.find_position.Given as goal

abbrev pub invariant-loop-run : goal.invariant-loop-run
invariant-loop-run g l = record {
  looked : OnlyReads g.D.Disk.device l.fn.disk l.disk;
  no_fault : NoFault g.D.Disk.device l.fn.disk l.disk;
  none : IsTrue g.D.Disk.device.is_transparent → IsPlaceOf (rows_of_runs (g.D.Disk.device.reads l.fn.disk) (take l.run-index l.runs)) l.table l.key None;
}
