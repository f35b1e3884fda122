use Rattle.std.proofs.Common.{◌≡◌, drop}
use Rattle.std.specs.Prelude.{fold}
use Rattle.history_items.specs.Fills.{base_after, base_in}
use Rattle.archive_core.proofs.lateness.base_in.Given as goal

abbrev pub invariant-loop-fill : goal.invariant-loop-fill
invariant-loop-fill l = fold (base_after l.interval) l.base (drop l.fill-index l.fills) ≡ base_in l.interval l.fills
