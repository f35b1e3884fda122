use Rattle.std.proofs.Common.{◌≡◌, ◌++◌, ◌-◌, ◌^◌, List, map}
use Rattle.std.specs.Prelude.{IsTrue}
use Rattle.arch_disk.specs.Disk.{NoFault, OnlyReads}
use Rattle.disk_journal.specs.Calls.{content_read, read_so_far}
use Rattle.disk_journal.specs.Reading.{IsAt, file_read, gate_of}
use Rattle.field_codec.specs.declared.entry.Entry.{Entry}
use Rattle.field_codec.specs.Spelling.{entry_octets}
use Rattle.archive_images.specs.Entries.{HasArchivedRows, Replays, dones_of}
use Rattle.archive_reading.specs.PartialArchive.{archive_made, fills_made, HasMarks, IsReadHistory}
use Rattle.archive_reading.proofs.records.read_archive.Given as goal

abbrev pub invariant-entries : goal.invariant-entries
invariant-entries g l = record {
  file : file_read l.opening ≡ file_read l.initial.opening;
  tables : IsReadHistory l.made;
  marks : HasMarks l.made;
  rows : HasArchivedRows (archive_made l.made);
  looked : OnlyReads g.D.Disk.device l.initial.disk l.disk;
  no_fault : NoFault g.D.Disk.device l.initial.disk l.disk;
  so_far : IsTrue g.D.Disk.device.is_transparent → (es : List Entry)
      × IsAt l.opening (content_read g.D.Disk.device l.initial.opening l.initial.disk) (read_so_far g.D.Disk.device l.initial.opening l.initial.disk ++ map entry_octets es)
      × Replays (archive_made l.initial.made) es (archive_made l.made) × (fills_made l.made ≡ fills_made l.initial.made ++ dones_of es);
}

abbrev pub decreases-entries : goal.decreases-entries
decreases-entries g l = 2 ^ 64 - gate_of l.opening
