use Rattle.std.proofs.Common.{◌≡◌, length, ◌∙◌, ap, subst, arith}
use Rattle.history_items.specs.Items.{rows_in}
use Rattle.history_items.proofs.ItemLists.{length-items_of, rows_of_rows}
use Rattle.archive_history.specs.History.{HistoryView}
use Rattle.archive_history.specs.Tables.{noted_rows}
use Rattle.archive_history.proofs.PlacedRows.{length-items}
use Rattle.archive_history.proofs.history.History.len.Goals as goal

pub returns-clause-len : goal.returns-clause-len
returns-clause-len c =
    let noted = noted_rows c.self.inside.order.items in
    subst (λ (x : HistoryView). c.len.result ≡ length x.items) c.self.view_is
    (omega (arith, c.len.ensures, length-items c.self.inside.order.items, length-items_of noted))

pub returns-clause-rows : goal.returns-clause-rows
returns-clause-rows c =
    let noted = noted_rows c.self.inside.order.items in
    subst (λ (x : HistoryView). c.len.result ≡ length (rows_in x.items)) c.self.view_is
    (omega (arith, c.len.ensures, length-items c.self.inside.order.items, ap length (rows_of_rows noted)))
