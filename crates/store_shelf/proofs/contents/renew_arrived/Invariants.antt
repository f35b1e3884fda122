use Rattle.std.proofs.Common.{◌++◌, List, drop}
use Rattle.std.specs.Option.{option_to_list}
use Rattle.intervals.specs.declared.interval.Interval.{Interval}
use Rattle.store_shelf.specs.Renewing.{AreStoreMarksBut, arrived_intervals}
use Rattle.store_shelf.proofs.contents.renew_arrived.Given as goal

-- what waits and what is behind it are still left
abbrev pub invariant-loop-arrival : goal.invariant-loop-arrival
invariant-loop-arrival g l = record {
  rest : (others : List Interval) → AreStoreMarksBut g.D.Disk.device l.store (arrived_intervals l.store.exponent l.arrivals ++ others) l.fn.marks
      → AreStoreMarksBut g.D.Disk.device l.store (option_to_list l.waiting ++ (arrived_intervals l.store.exponent (drop l.arrival-index l.arrivals) ++ others)) l.marks;
}
