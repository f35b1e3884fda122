use Rattle.std.proofs.Common.{◌≡◌, ◌++◌, drop}
use Rattle.std.specs.Prelude.{IsSome}
use Rattle.std.specs.List.{AllByRecursion}
use Rattle.history_items.specs.Late.{last_in}
use Rattle.archive_store.specs.Plans.{IsPlanPart, plan_intervals}
use Rattle.archive_store.specs.UnreadRows.{ReadsRows}
use Rattle.archive_store.proofs.store.Store.parts_of.Given as goal

-- the parts so far, and the intervals that are left
abbrev pub invariant-loop-interval : goal.invariant-loop-interval
invariant-loop-interval g l = record {
  same : ReadsRows g.D.Disk.device l.fn.self l.self;
  each : AllByRecursion (IsPlanPart g.D.Disk.device l.fn.self) l.parts.items;
  intervals : plan_intervals l.parts.items ++ drop l.interval-index l.intervals ≡ l.intervals;
  left : AllByRecursion (λ i. IsSome (last_in l.fn.self.exponent i l.fn.self.history)) (drop l.interval-index l.intervals);
}
