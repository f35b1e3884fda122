-- What an archive answers to the statements of a script.
use Rattle.std.specs.Prelude.{◌≡◌, ℕ, List, [], ◌∷◌, ◌++◌, flat_map, length, map}
use Rattle.std.specs.List.{range_with_len}
use Rattle.std.specs.declared.cmp.Ordering.{Ordering}
use Rattle.std.specs.declared.cmp.Ordering.TheVariants.{Less, Equal, Greater}
use Rattle.arch_types.specs.declared.row.Row.{Row}
use Rattle.histogram.specs.Times.{spans_of_times, times_of}
use Rattle.partitions.specs.declared.bounds.Bounds.{Bounds}
use Rattle.partitions.specs.declared.partition.Partition.{Partition}
use Rattle.partitions.specs.Partition.{partition_cmp, partition_of}
use Rattle.history_items.specs.declared.items.Item.{Item}
use Rattle.history_items.specs.Databases.{names_in}
use Rattle.history_items.specs.Items.{rows_in}
use Rattle.archive_history.specs.PartitionedTable.{named_times_of}
use Rattle.archive_history.specs.History.{rows_in_table}
use Rattle.archive_store.specs.Head.{Head}
use Rattle.archive_store.specs.Entries.{Archive}
use Rattle.archive_store.specs.Replays.{ArePartitions}
use Rattle.replay_merge.specs.Replay.{rows_asked}
use Rattle.ssql_conditions.specs.ConditionBounds.{bounds_of}
use Rattle.ssql_select.specs.declared.show.ShowLine.{ShowLine}
use Rattle.ssql_select.specs.declared.show.ShowLine.TheVariants.{Histogram}
use Rattle.ssql_select.specs.SelectionText.{selection_text}
use Rattle.ssql_select.specs.ShowText.{partition_lines, show_line, show_text}
use Rattle.ssql_types.specs.declared.statement.TypedStatement.{TypedStatement}
use Rattle.ssql_types.specs.declared.statement.TypedStatement.TheVariants as ts

-- the packet names of a history, in the order of their numbers
abbrev pub packet_names : Head → List Item → List (List ℕ)
packet_names head history = names_in head.mdb history

-- ---- queries

-- the partitions that are read for some tables in some bounds: those of a table that may hold a row there, and behind
-- them those of the next
abbrev pub AreSourceParts : List Item → Bounds → List ℕ → List Partition → Type 0
AreSourceParts history bounds [] parts = parts ≡ []
AreSourceParts history bounds (table ∷ tables) parts =
    (own : List Partition) × (others : List Partition) × ArePartitions history table bounds own
    × AreSourceParts history bounds tables others × (parts ≡ own ++ others)

-- ---- SHOW PARTITIONS

-- a partition and others that rise, by how it compares with the first of these; behind the first the rest stands with
-- the partition
abbrev pub placed_by : Ordering → Partition → Partition → List Partition → List Partition → List Partition
placed_by Less partition first rest with_rest = partition ∷ first ∷ rest
placed_by Equal partition first rest with_rest = first ∷ rest
placed_by Greater partition first rest with_rest = first ∷ with_rest

-- partitions that rise, and one at its place among them, unless it is there
abbrev pub with_partition : Partition → List Partition → List Partition
with_partition partition [] = partition ∷ []
with_partition partition (first ∷ rest) =
    placed_by (partition_cmp partition first) partition first rest (with_partition partition rest)

-- the partitions of rows, each once, by day and then by the packet name's number
abbrev pub parts_of_rows : List Row → List Partition
parts_of_rows [] = []
parts_of_rows (row ∷ rows) = with_partition (partition_of row.key.time row.pname) (parts_of_rows rows)

-- the partitions of a table with their rows
abbrev pub table_partitions : ℕ → List Item → List ShowLine
table_partitions table history =
    partition_lines table (rows_in history) (parts_of_rows (rows_in_table table history))

-- ---- SHOW HISTOGRAM

-- the records of a packet name's rows
abbrev pub name_spans : List Row → ℕ → List ShowLine
name_spans rows pname = map (Histogram pname) (spans_of_times (times_of pname (named_times_of rows)))

-- the records of a table, by the number of the packet name and then by time
abbrev pub table_spans : ℕ → ℕ → List Item → List ShowLine
table_spans names table history = flat_map (name_spans (rows_in_table table history)) (range_with_len 0 names)

-- the lines of these records
abbrev pub records_text : Archive → ℕ → List ℕ
records_text archive table =
    let names = packet_names archive.head archive.history in
    flat_map (show_line names) (table_spans (length names) table archive.history)

-- ---- statements

-- what is answered to a statement; nothing where it isn't a query or SHOW
abbrev pub statement_text : Archive → TypedStatement → List ℕ
statement_text archive (ts.CreateTable name) = []
statement_text archive (ts.CreateStream flow) = []
statement_text archive (ts.Insert table flow) = []
statement_text archive (ts.Select select) =
    selection_text (packet_names archive.head archive.history) select (rows_in archive.history)
statement_text archive (ts.ShowHistogram table) =
    let names = packet_names archive.head archive.history in
    show_text names (table_spans (length names) table archive.history)
statement_text archive (ts.ShowPartitions table) =
    show_text (packet_names archive.head archive.history) (table_partitions table archive.history)

-- the answers to statements, one behind the other
abbrev pub statements_text : Archive → List TypedStatement → List ℕ
statements_text archive statements = flat_map (statement_text archive) statements

-- ---- steps

-- the rows of a table in some bounds
abbrev pub rows_in_bounds : Bounds → List Row → ℕ → List Row
rows_in_bounds bounds rows table = rows_asked table bounds.from bounds.to bounds.names rows

-- the most steps that an answer takes: one for each row of a query's sources in the bounds of its condition
abbrev pub steps_of_statement : List Item → TypedStatement → ℕ
steps_of_statement history (ts.CreateTable name) = 0
steps_of_statement history (ts.CreateStream flow) = 0
steps_of_statement history (ts.Insert table flow) = 0
steps_of_statement history (ts.Select select) =
    length (flat_map (rows_in_bounds (bounds_of select.condition) (rows_in history)) select.sources)
steps_of_statement history (ts.ShowHistogram table) = 0
steps_of_statement history (ts.ShowPartitions table) = 0
