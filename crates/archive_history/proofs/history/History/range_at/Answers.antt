use Rattle.std.proofs.Common.{◌<◌, List, length, w64, sym, ◌∙◌, ap, arith}
use Rattle.std.proofs.lemmas.Int.{to_z-of_z}
use Rattle.arch_types.specs.Table.{range_of}
use Rattle.history_items.specs.Items.{prefix, rows_in}
use Rattle.yarch_table.specs.declared.table.Stored.{Stored}
use Rattle.yarch_table.specs.Stored.{seen_between}
use Rattle.yarch_table.proofs.Histories.{seen_between-placed}
use Rattle.archive_history.specs.History.{HistoryView}
use Rattle.archive_history.specs.Tables.{noted_rows}
use Rattle.archive_history.proofs.PlacedRows.{rows_cut, table_rows}
use Rattle.archive_history.proofs.history.History.range_at.Goals as goal

pub returns : goal.returns
returns c =
    let s = c.self.inside in
    let t = c.args.table in
    let front = c.args.front in
    let from = c.args.from in
    let to = c.args.to in
    let noted = noted_rows s.order.items in
    let low = to_z-of_z w64 from c.ranges.from in
    let high = to_z-of_z w64 to c.ranges.to in
    let within : t < length s.tables.items = omega (arith, c.requires, ap (λ (x : HistoryView). x.tables) c.self.view_is) in
    let rows = table_rows s.tables.items s.order s.room t c.index.result.now c.self.invariant.tables_hold within c.index.ensures in
    rw (low, high) at c.range_at.ensures
    ∙ ap (λ (l : List Stored). seen_between front from to l) rows
    ∙ seen_between-placed front t from to noted
    ∙ ap (range_of t from to) (sym (rows_cut front noted))
    ∙ ap (λ (x : HistoryView). range_of t from to (rows_in (prefix front x.items))) c.self.view_is
