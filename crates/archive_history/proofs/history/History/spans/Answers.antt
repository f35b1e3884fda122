use Rattle.std.proofs.Common.{◌≡◌, ◌<◌, length, sym, ◌∙◌, ap, arith}
use Rattle.std.specs.Prelude.{filter}
use Rattle.arch_types.specs.History.{is_in_table}
use Rattle.history_items.proofs.ItemLists.{rows_of_rows}
use Rattle.yarch_table.specs.Stored.{rows_of}
use Rattle.archive_history.specs.History.{HistoryView, rows_in_table}
use Rattle.archive_history.specs.Tables.{noted_rows}
use Rattle.archive_history.proofs.Partitioned.{rows_of-placed}
use Rattle.archive_history.proofs.PlacedRows.{table_rows}
use Rattle.archive_history.proofs.history.History.spans.Goals as goal

pub returns : goal.returns
returns c =
    let s = c.self.inside in
    let t = c.args.table in
    let within : t < length s.tables.items = omega (arith, c.requires, ap (λ (x : HistoryView). x.tables) c.self.view_is) in
    let stored = table_rows s.tables.items s.order s.room t c.index.result.now c.self.invariant.tables_hold within c.index.ensures in
    let rows : rows_of c.index.result.now.stored ≡ rows_in_table t c.args.self.now.items =
    ap rows_of stored ∙ rows_of-placed t (noted_rows s.order.items) ∙ ap (filter (is_in_table t)) (sym (rows_of_rows (noted_rows s.order.items))) ∙ ap (λ (x : HistoryView). rows_in_table t x.items) c.self.view_is in
    rw rows at c.spans.ensures
