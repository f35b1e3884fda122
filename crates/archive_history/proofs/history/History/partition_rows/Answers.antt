use Rattle.std.proofs.Common.{◌≡◌, ◌<◌, List, length, sym, ◌∙◌, ap, arith}
use Rattle.arch_types.specs.Table.{table_of}
use Rattle.history_items.specs.Items.{prefix, rows_in}
use Rattle.yarch_table.specs.declared.table.Stored.{Stored}
use Rattle.yarch_table.specs.Stored.{seen_at}
use Rattle.yarch_table.proofs.Histories.{seen_at-placed}
use Rattle.archive_history.specs.History.{HistoryView}
use Rattle.archive_history.specs.Tables.{noted_rows}
use Rattle.archive_history.proofs.PlacedRows.{rows_cut, table_rows}
use Rattle.archive_history.proofs.history.History.partition_rows.Goals as goal

pub returns : goal.returns
returns c =
    let s = c.self.inside in
    let t = c.args.table in
    let front = c.args.front in
    let within : t < length s.tables.items = omega (arith, c.requires, ap (λ (x : HistoryView). x.tables) c.self.view_is) in
    let rows = table_rows s.tables.items s.order s.room t c.index.result.now c.self.invariant.tables_hold within c.index.ensures in
    let seen : seen_at front c.index.result.now.stored ≡ table_of t (rows_in (prefix front c.args.self.now.items)) =
    ap (λ (l : List Stored). seen_at front l) rows ∙ seen_at-placed front t (noted_rows s.order.items) ∙ ap (table_of t) (sym (rows_cut front (noted_rows s.order.items))) ∙ ap (λ (x : HistoryView). table_of t (rows_in (prefix front x.items))) c.self.view_is in
    rw seen at c.partition_rows.ensures
