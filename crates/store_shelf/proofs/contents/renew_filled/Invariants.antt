use Rattle.std.proofs.Common.{◌++◌, List, drop}
use Rattle.intervals.specs.declared.interval.Interval.{Interval}
use Rattle.store_shelf.specs.Renewing.{AreStoreMarksBut, filled_intervals}
use Rattle.store_shelf.proofs.contents.renew_filled.Given as goal

-- the fills that are behind are still left
abbrev pub invariant-loop-fill : goal.invariant-loop-fill
invariant-loop-fill g l = record {
  rest : (others : List Interval) → AreStoreMarksBut g.D.Disk.device l.store (filled_intervals l.fills ++ others) l.fn.marks
      → AreStoreMarksBut g.D.Disk.device l.store (filled_intervals (drop l.fill-index l.fills) ++ others) l.marks;
}
