use Rattle.std.proofs.Common.{◌-◌, List, length}
use Rattle.run_pages.specs.Placed.{Placed, placed_rows}
use Rattle.run_files.proofs.Written.{WrittenSoFar}
use Rattle.run_files.proofs.writing.write_pages.Given as goal

abbrev pub invariant-pages : goal.invariant-pages
invariant-pages g l = (done : List (List Placed)) × WrittenSoFar g.D.Disk.device l.file l.initial.disk l.disk (placed_rows l.positions l.rows) done l.entries.items l.end l.from

abbrev pub decreases-pages : goal.decreases-pages
decreases-pages g l = length l.rows - l.from
