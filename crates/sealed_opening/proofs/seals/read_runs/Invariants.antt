use Rattle.std.proofs.Common.{take}
use Rattle.arch_disk.specs.Disk.{NoFault, OnlyReads}
use Rattle.sealed_opening.specs.Seals.{AreRunsNoted}
use Rattle.sealed_opening.proofs.seals.read_runs.Given as goal

abbrev pub invariant-runs : goal.invariant-runs
invariant-runs g l = record {
  looked : OnlyReads g.D.Disk.device l.initial.disk l.disk;
  no_fault : NoFault g.D.Disk.device l.initial.disk l.disk;
  noted : AreRunsNoted g.D.Disk.device l.initial.disk l.head (take l.named-index l.runs) l.initial.so_far l.so_far;
}
