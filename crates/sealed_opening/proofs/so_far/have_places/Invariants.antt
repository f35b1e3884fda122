use Rattle.std.proofs.Common.{[], take}
use Rattle.std.specs.List.{AllByRecursion}
use Rattle.archive_images.specs.Entries.{IsPlaced}
use Rattle.sealed_opening.proofs.so_far.have_places.Given as goal

abbrev pub invariant-loop-row : goal.invariant-loop-row
invariant-loop-row l = AllByRecursion (IsPlaced l.head []) (take l.row-index l.rows)
