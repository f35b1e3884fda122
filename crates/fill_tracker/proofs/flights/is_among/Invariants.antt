use Rattle.std.proofs.Common.{◌≡◌, false, take}
use Rattle.std.specs.List.{list_any}
use Rattle.history_items.specs.Fills.{is_same}
use Rattle.fill_tracker.proofs.flights.is_among.Given as goal

abbrev pub invariant-loop-flight : goal.invariant-loop-flight
invariant-loop-flight l = list_any (is_same l.interval) (take l.flight-index l.flights) ≡ false
