-- A table with its partitions.
use Rattle.std.specs.Prelude.{◌≡◌, ℕ, ◌≤◌, List, ◌++◌, map, filter_map, slice_get, None}
use Rattle.std.specs.List.{IsDistinct}
use Rattle.std.specs.Ordering.{eq_by_cmp}
use Rattle.arch_types.specs.declared.row.Row.{Row}
use Rattle.arch_types.specs.Order.{key_cmp}
use Rattle.histogram.specs.declared.histogram.NamedTime.{NamedTime}
use Rattle.histogram.specs.Times.{spans_of, spans_of_times, times_of, HistogramView, IsHistogramOf}
use Rattle.partitions.specs.Partitions.{PartitionsView}
use Rattle.partitions.specs.Rows.{partitions_of}
use Rattle.yarch_table.specs.declared.table.Stored.{Stored}
use Rattle.yarch_table.specs.Stored.{TableView, rows_of}
use Rattle.yarch_table.specs.Index.{seen_row}

-- the packet name and the time of each row, in order
abbrev pub named_times_of : List Row → List NamedTime
named_times_of rows = map (λ row. record { pname = row.pname; time = row.key.time }) rows

-- no two rows have one key
abbrev pub HaveOwnKeys : List Row → Type 0
HaveOwnKeys rows = IsDistinct (eq_by_cmp key_cmp) (map (λ row. row.key) rows)

-- the records of a packet name are those of the times that another histogram is of, and of these
abbrev pub IsHistogramWith : HistogramView → ℕ → HistogramView → List NamedTime → Type 0
IsHistogramWith other pname histogram times =
    (past : List NamedTime) → IsHistogramOf other past →
    spans_of pname histogram ≡ spans_of_times (times_of pname (past ++ times))

-- the partitions noted are those of the rows of the table, and there is room for as many more; the histogram is that of
-- the times of rows that are in memory no longer
pub record IsPartitioned (past : List NamedTime) (table : TableView) (partitions : PartitionsView)
    (gone : HistogramView) : Type 0 where
  pub own_keys : HaveOwnKeys (rows_of table.stored)
  pub noted : partitions.noted ≡ partitions_of (rows_of table.stored)
  pub has_room : table.room ≤ partitions.room
  pub kept : IsHistogramOf gone past

-- the rows at places with a position below a front, in the order of the places
abbrev pub rows_at_places : List Stored → ℕ → List ℕ → List Row
rows_at_places stored front places = filter_map (λ place. seen_row front None (slice_get stored place)) places
