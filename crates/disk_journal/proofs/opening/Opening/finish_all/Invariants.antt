use Rattle.std.proofs.Common.{◌≡◌, ℕ, ◌-◌, ◌^◌, List}
use Rattle.std.specs.Prelude.{IsTrue}
use Rattle.arch_disk.specs.Disk.{NoFault, OnlyReads}
use Rattle.disk_journal.specs.Reading.{IsAt, file_read}
use Rattle.disk_journal.proofs.opening.Opening.finish_all.Given as goal

abbrev pub invariant-records : goal.invariant-records
invariant-records g l = record {
  file : file_read l.self ≡ file_read l.initial.self;
  looked : OnlyReads g.D.Disk.device l.initial.disk l.disk;
  no_fault : NoFault g.D.Disk.device l.initial.disk l.disk;
  so_far : IsTrue g.D.Disk.device.is_transparent → (bodies : List (List ℕ)) × IsAt l.self (g.D.Disk.device.reads l.initial.disk (file_read l.initial.self)) bodies;
}

abbrev pub decreases-records : goal.decreases-records
decreases-records g l = 2 ^ 64 - l.self.at
