use Rattle.std.proofs.Common.{◌≡◌, ◌-◌, [], List}
use Rattle.std.specs.Prelude.{IsTrue}
use Rattle.std.specs.List.{AllByRecursion}
use Rattle.arch_disk.specs.Disk.{NoFault, OnlyReads}
use Rattle.archive_images.specs.Entries.{IsPlaced}
use Rattle.run_files.specs.Opening.{IsReadingRun, file_opened, index_pages, pages_read, rows_of_pages}
use Rattle.run_pages.specs.Placed.{Placed, rows_of_placed}
use Rattle.sealed_opening.specs.SoFar.{ArePlacedIf, AreRowsNoted}
use Rattle.sealed_opening.proofs.runs.note_pages.Given as goal

abbrev pub invariant-pages : goal.invariant-pages
invariant-pages g l = record {
  file : file_opened l.opening ≡ file_opened l.initial.opening;
  looked : OnlyReads g.D.Disk.device l.initial.disk l.disk;
  no_fault : NoFault g.D.Disk.device l.initial.disk l.disk;
  runs : l.so_far.runs.items ≡ l.initial.so_far.runs.items;
  noted : (pages : List (List Placed)) × AreRowsNoted (rows_of_pages pages) l.initial.so_far l.so_far
      × ArePlacedIf (AllByRecursion (IsPlaced l.head []) (rows_of_placed (rows_of_pages pages))) l.initial.so_far l.so_far
      × (IsTrue g.D.Disk.device.is_transparent → IsReadingRun l.opening (g.D.Disk.device.reads l.initial.disk (file_opened l.initial.opening)) pages);
}

abbrev pub decreases-pages : goal.decreases-pages
decreases-pages g l = index_pages l.opening - pages_read l.opening
