use Rattle.std.proofs.Common.{◌≡◌, ◌<◌, ◌≤◌, ℕ, length}
use Rattle.archive_history.specs.Tables.{table_in}
use Rattle.archive_history.proofs.tables.reserve_tables.Given as goal

abbrev pub invariant-loop-t : goal.invariant-loop-t
invariant-loop-t l = record {
  len : length l.tables.items ≡ length l.initial.tables.items;
  stored : (u : ℕ) → (table_in l.tables.items u).stored ≡ (table_in l.initial.tables.items u).stored;
  more : (u : ℕ) → (table_in l.initial.tables.items u).room ≤ (table_in l.tables.items u).room;
  enough : (u : ℕ) → u < l.t → l.rows ≤ (table_in l.tables.items u).room;
}
