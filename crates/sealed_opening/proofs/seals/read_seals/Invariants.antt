use Rattle.std.proofs.Common.{take}
use Rattle.arch_disk.specs.Disk.{NoFault, OnlyReads}
use Rattle.sealed_opening.specs.Seals.{AreSealsRead}
use Rattle.sealed_opening.proofs.seals.read_seals.Given as goal

abbrev pub invariant-seals : goal.invariant-seals
invariant-seals g l = record {
  looked : OnlyReads g.D.Disk.device l.initial.disk l.disk;
  no_fault : NoFault g.D.Disk.device l.initial.disk l.disk;
  read : AreSealsRead g.D.Disk.device l.initial.disk l.head (take l.seal-index l.seals) l.initial.so_far l.so_far;
}
