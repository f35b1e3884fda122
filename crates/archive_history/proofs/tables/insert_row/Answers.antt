use Rattle.std.proofs.Common.{◌≡◌, ◌++◌, ◌∷◌, [], ◌+◌, length, refl, sym, ◌∙◌, ap, arith}
use Rattle.history_items.specs.Items.{items_of}
use Rattle.history_items.proofs.ItemLists.{items_of-append, items_with_row}
use Rattle.archive_history.specs.Tables.{noted_rows, no_table, table_in}
use Rattle.archive_history.proofs.PlacedRows.{items_more, tables_with_known, tables_with_new}
use Rattle.archive_history.proofs.Steps.{default_free}
use Rattle.archive_history.proofs.tables.insert_row.Goals as goal

pub returns-in-New-clause-hold : goal.returns-in-New-clause-hold
returns-in-New-clause-hold c room hold =
    let tables = c.args.tables.now.items in
    let order = c.args.order.now in
    let t = c.args.row.table in
    let here : table_in tables t ≡ c.index_mut.result.now = default_free tables t no_table c.index_mut.result.now c.requires.table ∙ sym c.index_mut.ensures.value in
    let position : c.len-position.result ≡ length order.items = omega (arith, c.len-position.ensures) in
    let grown : noted_rows c.push_reserved.new.self.items ≡ noted_rows order.items ++ c.args.row ∷ [] = ap noted_rows c.push_reserved.ensures.items ∙ items_more order.items c.of-noted.result c.args.row c.of-noted.ensures in
    (tables_with_new tables c.insert.new.self c.index_mut.result.now order c.push_reserved.new.self (room + 1) room c.args.row c.len-position.result c.in-New.field-0 c.requires.table hold
    here position c.in-New.ensures.inserted c.insert.ensures.left grown refl (omega (arith, c.push_reserved.ensures.len, c.push_reserved.ensures.capacity, hold.order_has_room))).0

pub returns-in-New-clause-items : goal.returns-in-New-clause-items
returns-in-New-clause-items c =
    let tables = c.args.tables.now.items in
    let order = c.args.order.now in
    let t = c.args.row.table in
    let room = c.requires.hold.0 in
    let hold = c.requires.hold.1 in
    let here : table_in tables t ≡ c.index_mut.result.now = default_free tables t no_table c.index_mut.result.now c.requires.table ∙ sym c.index_mut.ensures.value in
    let position : c.len-position.result ≡ length order.items = omega (arith, c.len-position.ensures) in
    let grown : noted_rows c.push_reserved.new.self.items ≡ noted_rows order.items ++ c.args.row ∷ [] = ap noted_rows c.push_reserved.ensures.items ∙ items_more order.items c.of-noted.result c.args.row c.of-noted.ensures in
    let done = tables_with_new tables c.insert.new.self c.index_mut.result.now order c.push_reserved.new.self (room + 1) room c.args.row c.len-position.result c.in-New.field-0 c.requires.table hold
    here position c.in-New.ensures.inserted c.insert.ensures.left grown refl (omega (arith, c.push_reserved.ensures.len, c.push_reserved.ensures.capacity, hold.order_has_room)) in
    ap items_of (grown ∙ sym done.1) ∙ items_with_row (noted_rows order.items) c.args.row

pub returns-in-New-clause-fresh : goal.returns-in-New-clause-fresh
returns-in-New-clause-fresh c is =
    ap items_of (ap noted_rows c.push_reserved.ensures.items ∙ items_more c.args.order.now.items c.of-noted.result c.args.row c.of-noted.ensures)
    ∙ items_of-append (noted_rows c.args.order.now.items) (c.args.row ∷ [])

pub returns-in-Duplicate-clause-hold : goal.returns-in-Duplicate-clause-hold
returns-in-Duplicate-clause-hold c room hold =
    let tables = c.args.tables.now.items in
    let order = c.args.order.now in
    let t = c.args.row.table in
    let here : table_in tables t ≡ c.index_mut.result.now = default_free tables t no_table c.index_mut.result.now c.requires.table ∙ sym c.index_mut.ensures.value in
    let position : c.len-position.result ≡ length order.items = omega (arith, c.len-position.ensures) in
    (tables_with_known tables c.insert.new.self c.index_mut.result.now order (room + 1) room c.args.row c.len-position.result c.in-Duplicate.field-0 c.requires.table hold
    here position c.in-Duplicate.ensures.inserted refl).0

pub returns-in-Duplicate-clause-items : goal.returns-in-Duplicate-clause-items
returns-in-Duplicate-clause-items c =
    let tables = c.args.tables.now.items in
    let order = c.args.order.now in
    let t = c.args.row.table in
    let here : table_in tables t ≡ c.index_mut.result.now = default_free tables t no_table c.index_mut.result.now c.requires.table ∙ sym c.index_mut.ensures.value in
    let position : c.len-position.result ≡ length order.items = omega (arith, c.len-position.ensures) in
    let known = (tables_with_known tables c.insert.new.self c.index_mut.result.now order (c.requires.hold.0 + 1) c.requires.hold.0 c.args.row c.len-position.result c.in-Duplicate.field-0 c.requires.table c.requires.hold.1
    here position c.in-Duplicate.ensures.inserted refl).1 in
    ap items_of (sym known) ∙ items_with_row (noted_rows order.items) c.args.row
