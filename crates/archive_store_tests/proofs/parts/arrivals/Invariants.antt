use Rattle.std.proofs.Common.{◌≡◌, length, List}
use Rattle.history_items.specs.declared.items.Item.{Item}
use Rattle.std.specs.List.{AllByRecursion}
use Rattle.archive_store.specs.Batches.{IsArrival}
use Rattle.archive_store_tests.proofs.parts.arrivals.Given as goal

abbrev pub invariant-loop-number : goal.invariant-loop-number
invariant-loop-number l = (length l.arrivals ≡ l.number-index) × ((history : List Item) → AllByRecursion (IsArrival l.head history l.rectime) l.arrivals)
