use Rattle.std.proofs.Common.{◌≡◌, ◌≤◌, ◌++◌, length}
use Rattle.history_items.specs.Items.{after_rows, items_of}
use Rattle.archive_history.proofs.history.History.add_all.Given as goal

abbrev pub invariant-loop-row : goal.invariant-loop-row
invariant-loop-row l = record {
  left : l.yielded ++ l.row-iterator.rest.items ≡ l.fn.rows;
  items : l.self.items ≡ l.fn.self.items ++ items_of l.yielded;
  fresh : after_rows l.fn.self.items l.yielded ≡ l.fn.self.items ++ items_of l.yielded;
  tables : l.self.tables ≡ l.fn.self.tables;
  exponent : l.self.exponent ≡ l.fn.self.exponent;
  room : length l.row-iterator.rest.items ≤ l.self.room;
}
