-- The rows of a batch, classified as new ones and duplicates.
use Rattle.std.specs.Prelude.{◌≡◌, ℕ, List, [], length, Bool, Option, Some, None, slice_get, true, false}
use Rattle.std.specs.List.{list_any, AllByRecursion}
use Rattle.std.specs.Ordering.{nat_cmp, ordering_then, is_gt}
use Rattle.std.specs.declared.cmp.Ordering.{Ordering}
use Rattle.arch_types.specs.Order.{key_cmp}
use Rattle.arch_types.specs.declared.row.Row.{Row}
use Rattle.octet_fields.specs.Exact.{IsOctets}
use Rattle.history_items.specs.declared.items.Item.{Item}
use Rattle.history_items.specs.Items.{items_of, row_item}
use Rattle.history_items.specs.Outcomes.{outcomes_of, fresh_of}
use Rattle.archive_history.specs.History.{is_at_key}
use Rattle.replay_merge.specs.RowSource.{RowSourceState}
use Rattle.archive_store.specs.declared.classifying.ClassifiedBatch.{ClassifiedBatch}
use Rattle.archive_store.specs.declared.classifying.TableKey.{TableKey}
use Rattle.archive_store.specs.Replays.{rows_below}

-- the table and key of a row
abbrev pub table_key_of : Row → TableKey
table_key_of row = record { key = row.key; table = row.table }

-- by key, and then by table
abbrev pub table_key_cmp : TableKey → TableKey → Ordering
table_key_cmp a b = ordering_then (key_cmp a.key b.key) (nat_cmp a.table b.table)

-- whether a table's key is above the last one, if there is one
abbrev pub is_above : TableKey → Option TableKey → Bool
is_above at None = true
is_above at (Some last) = is_gt (table_key_cmp at last)

-- none of these rows is above the last key, and without one there is no row
abbrev pub NoneAbove : Option TableKey → List Row → Type 0
NoneAbove None rows = rows ≡ []
NoneAbove (Some last) rows = AllByRecursion (λ row. is_above (table_key_of row) (Some last) ≡ false) rows

-- the row of that table and key stands at this place, or there is none
abbrev pub IsFoundAt : List Row → TableKey → Option ℕ → Type 0
IsFoundAt rows at (Some i) =
    (there : Row) × (slice_get rows i ≡ Some there) × (is_at_key at.table at.key (row_item there) ≡ true)
IsFoundAt rows at None = list_any (is_at_key at.table at.key) (items_of rows) ≡ false

-- a source tells the rows of items, of which there are so many
pub record TellsItems (source : RowSourceState) (items : List Item) (count : ℕ) : Type 0 where
  pub told : source.history ≡ Some (rows_below items)
  pub all : count ≡ length items

-- what became of rows that came to a history, and those of them that are new, with the last of their keys; their
-- packets are octets
pub record IsClassified (history : List Item) (rows : List Row) (classified : ClassifiedBatch) : Type 0 where
  pub outcomes : classified.outcomes ≡ outcomes_of history rows
  pub fresh : classified.fresh ≡ fresh_of history rows
  pub last : NoneAbove classified.last classified.fresh
  pub octets : AllByRecursion (λ row. IsOctets row.packet) classified.fresh
