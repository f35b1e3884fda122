use Rattle.std.proofs.Common.{take}
use Rattle.std.specs.List.{AllByRecursion}
use Rattle.archive_store.specs.Pages.{TellsRows}
use Rattle.archive_store.specs.StoreView.{filled_of}
use Rattle.archive_store.specs.UnreadRows.{ReadsRows}
use Rattle.archive_verify.specs.Verified.{HoldsWhereCurrent}
use Rattle.archive_verify.proofs.verified.first_difference_among.Given as goal

abbrev pub invariant-loop-interval : goal.invariant-loop-interval
invariant-loop-interval g l = record {
  read : ReadsRows g.D.Disk.device l.fn.store l.store;
  held : TellsRows g.D.Disk.device l.fn.store → AllByRecursion (HoldsWhereCurrent (filled_of l.fn.store)) (take l.interval-index l.intervals);
}
