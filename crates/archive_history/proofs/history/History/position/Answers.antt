use Rattle.std.proofs.Common.{◌≡◌, ◌<◌, length, true, false, ap, subst, arith}
use Rattle.std.specs.Prelude.{IfSome, IfNone, slice_get, Some}
use Rattle.std.specs.List.{list_any}
use Rattle.arch_types.specs.History.{has_key}
use Rattle.history_items.specs.declared.items.Item.{Item}
use Rattle.yarch_table.specs.Stored.{IsKeptAt, rows_of}
use Rattle.archive_history.specs.History.{HistoryView, is_at_key}
use Rattle.history_items.specs.Items.{items_of}
use Rattle.archive_history.specs.Tables.{noted_rows}
use Rattle.archive_history.proofs.PlacedRows.{no_row_of_key, row_of_key, table_rows}
use Rattle.archive_history.proofs.Steps.{if_some, if_none}
use Rattle.archive_history.proofs.history.History.position.Goals as goal

pub returns-clause-some : goal.returns-clause-some
returns-clause-some c =
    let s = c.self.inside in
    let t = c.args.table in
    let noted = noted_rows s.order.items in
    let within : t < length s.tables.items = omega (arith, c.requires, ap (λ (x : HistoryView). x.tables) c.self.view_is) in
    let rows = table_rows s.tables.items s.order s.room t c.index.result.now c.self.invariant.tables_hold within c.index.ensures in
    subst (λ (x : HistoryView). IfSome c.position.result (λ p. (there : Item) × (slice_get x.items p ≡ Some there) × (is_at_key t c.args.key there ≡ true))) c.self.view_is
    (if_some c.position.result (IsKeptAt c.index.result.now.stored c.args.key) (λ p. (there : Item) × (slice_get (items_of noted) p ≡ Some there) × (is_at_key t c.args.key there ≡ true))
    (λ p kept. row_of_key c.index.result.now.stored noted t c.args.key p rows kept) c.position.ensures.some)

pub returns-clause-none : goal.returns-clause-none
returns-clause-none c =
    let s = c.self.inside in
    let t = c.args.table in
    let noted = noted_rows s.order.items in
    let within : t < length s.tables.items = omega (arith, c.requires, ap (λ (x : HistoryView). x.tables) c.self.view_is) in
    let rows = table_rows s.tables.items s.order s.room t c.index.result.now c.self.invariant.tables_hold within c.index.ensures in
    subst (λ (x : HistoryView). IfNone c.position.result (list_any (is_at_key t c.args.key) x.items ≡ false)) c.self.view_is
    (if_none c.position.result (list_any (has_key c.args.key) (rows_of c.index.result.now.stored) ≡ false) (list_any (is_at_key t c.args.key) (items_of noted) ≡ false)
    (λ none. no_row_of_key c.index.result.now.stored noted t c.args.key rows none) c.position.ensures.none)
