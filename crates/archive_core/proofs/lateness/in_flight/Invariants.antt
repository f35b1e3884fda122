use Rattle.std.proofs.Common.{◌≡◌, drop}
use Rattle.std.specs.Prelude.{fold}
use Rattle.history_items.specs.Fills.{flight_after, in_flight}
use Rattle.archive_core.proofs.lateness.in_flight.Given as goal

abbrev pub invariant-loop-fill : goal.invariant-loop-fill
invariant-loop-fill l = fold (flight_after l.interval) l.base (drop l.fill-index l.fills) ≡ in_flight l.interval l.fills
