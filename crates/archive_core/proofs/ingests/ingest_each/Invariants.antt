use Rattle.std.proofs.Common.{◌≡◌, ◌≤◌, ◌++◌, drop, take, length}
use Rattle.arch_types.specs.History.{ingested}
use Rattle.history_items.specs.Items.{items_of}
use Rattle.history_items.specs.Outcomes.{outcomes_of}
use Rattle.archive_core.proofs.ingests.ingest_each.Given as goal

abbrev pub invariant-loop-row : goal.invariant-loop-row
invariant-loop-row l = record {
  outcomes : l.outcomes.items ++ outcomes_of (items_of l.rows.items) (drop l.row-index l.batch) ≡ l.fn.outcomes.items ++ outcomes_of (items_of l.fn.rows.items) l.batch;
  rows : ingested l.rows.items (drop l.row-index l.batch) ≡ ingested l.fn.rows.items l.batch;
  first : take (length l.fn.rows.items) l.rows.items ≡ l.fn.rows.items;
  within : length l.fn.rows.items ≤ length l.rows.items;
}
