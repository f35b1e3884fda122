use Rattle.std.proofs.Common.{length}
use Rattle.interval_walks.specs.Counts.{late_intervals}
use Rattle.load_session.proofs.FilledTasks.{IsFilling}
use Rattle.load_session.proofs.filling.fill_late.Given as goal

abbrev pub invariant-fills : goal.invariant-fills
invariant-fills g l = IsFilling g.D.Disk.device l.fn.store l.store l.filled

-- each fill leaves one late interval less
abbrev pub decreases-fills : goal.decreases-fills
decreases-fills g l = length (late_intervals l.store.exponent l.store.history l.store.fills)
