use Rattle.std.proofs.Common.{◌≡◌, ◌++◌, ◌-◌, ◌^◌, ℕ, List}
use Rattle.std.specs.Prelude.{IsTrue}
use Rattle.arch_disk.specs.Disk.{NoFault, OnlyReads}
use Rattle.disk_journal.specs.Calls.{content_read, read_so_far}
use Rattle.disk_journal.specs.Reading.{IsAt, file_read, gate_of}
use Rattle.sealed_images.specs.Records.{ReadsTo}
use Rattle.sealed_opening.proofs.records.read_records.Given as goal

abbrev pub invariant-records : goal.invariant-records
invariant-records g l = record {
  file : file_read l.opening ≡ file_read l.initial.opening;
  looked : OnlyReads g.D.Disk.device l.initial.disk l.disk;
  no_fault : NoFault g.D.Disk.device l.initial.disk l.disk;
  kept : g.R.RecordRules.is_kept l.so_far;
  so_far : (bodies : List (List ℕ)) × ReadsTo g.R.RecordRules.follows l.initial.so_far bodies l.so_far
      × (IsTrue g.D.Disk.device.is_transparent → IsAt l.opening (content_read g.D.Disk.device l.initial.opening l.initial.disk)
      (read_so_far g.D.Disk.device l.initial.opening l.initial.disk ++ bodies));
}

abbrev pub decreases-records : goal.decreases-records
decreases-records g l = 2 ^ 64 - gate_of l.opening
