use Rattle.std.proofs.Common.{◌≡◌, ◌++◌, drop}
use Rattle.std.specs.Prelude.{IsSome}
use Rattle.std.specs.List.{AllByRecursion}
use Rattle.history_items.specs.Late.{last_in}
use Rattle.archive_store.specs.Marks.{IsMarkIn, marked_intervals}
use Rattle.archive_store.proofs.store.Store.marks.Given as goal

-- the marks so far, and the intervals that are left
abbrev pub invariant-loop-interval : goal.invariant-loop-interval
invariant-loop-interval g l = record {
  each : AllByRecursion (IsMarkIn l.self.exponent l.self.history l.self.fills) l.marks.items;
  intervals : marked_intervals l.marks.items ++ drop l.interval-index l.interval-items ≡ l.interval-items;
  left : AllByRecursion (λ i. IsSome (last_in l.self.exponent i l.self.history)) (drop l.interval-index l.interval-items);
}
