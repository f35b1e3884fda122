use Rattle.std.proofs.Common.{◌≡◌, ◌≤◌, length, take}
use Rattle.std.specs.Prelude.{filter}
use Rattle.history_items.specs.Late.{is_late_in}
use Rattle.archive_verify.proofs.verified.late_among.Given as goal

abbrev pub invariant-loop-interval : goal.invariant-loop-interval
invariant-loop-interval g l = record {
  counted : l.late ≡ length (filter (λ i. is_late_in l.store.exponent i l.store.history l.store.fills) (take l.interval-index l.intervals));
  few : l.late ≤ l.interval-index;
}
