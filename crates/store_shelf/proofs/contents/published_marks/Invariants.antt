use Rattle.std.proofs.Common.{◌≡◌, ◌++◌, drop}
use Rattle.std.specs.List.{AllByRecursion}
use Rattle.archive_store.specs.Marks.{IsMarkIn, marked_intervals}
use Rattle.glance_board.specs.Listings.{IsMarkOf, intervals_of}
use Rattle.store_shelf.specs.Publications.{staying_of}
use Rattle.store_shelf.proofs.contents.published_marks.Given as goal

-- the marks so far, and those that are left
abbrev pub invariant-loop-mark : goal.invariant-loop-mark
invariant-loop-mark g l = record {
  each : AllByRecursion (IsMarkOf (staying_of g.D.Disk.device l.store) l.store.history l.store.fills) l.published;
  intervals : intervals_of l.published ++ marked_intervals (drop l.mark-index l.marks) ≡ marked_intervals l.marks;
  left : AllByRecursion (IsMarkIn l.store.exponent l.store.history l.store.fills) (drop l.mark-index l.marks);
}
