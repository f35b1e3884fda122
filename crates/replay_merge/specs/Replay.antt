-- A replay: the rows of a table in a range of times, of some packet names, in the order of their keys.
use Rattle.std.specs.Prelude.{◌≡◌, ℕ, ℤ, List, filter, Option, Some, None, Bool, true, nat_eq}
use Rattle.std.specs.List.{list_any, AllByRecursion}
use Rattle.asks.specs.declared.ask.ReplayRequest.{ReplayRequest}
use Rattle.asks.specs.Names.{packet_name_numbers}
use Rattle.arch_types.specs.declared.row.Row.{Row}
use Rattle.arch_types.specs.Directions.{truncated}
use Rattle.arch_types.specs.Table.{is_in_time_range, range_of}
use Rattle.mdb_items.specs.Texts.{Text}
use Rattle.partitions.specs.declared.partition.Partition.{Partition}
use Rattle.partitions.specs.Rows.{is_of_parts}
use Rattle.replay_merge.specs.RowSource.{IsKeyedRow}

-- whether a packet name is among those listed; where there is no list, each is
abbrev pub is_listed_name : Option (List ℕ) → ℕ → Bool
is_listed_name None pname = true
is_listed_name (Some names) pname = list_any (nat_eq pname) names

-- whether a row's packet name is
abbrev pub has_listed_name : Option (List ℕ) → Row → Bool
has_listed_name names row = is_listed_name names row.pname

-- the rows of a table with from <= time < to and one of these packet names, in the order of their keys
abbrev pub rows_asked : ℕ → ℤ → ℤ → Option (List ℕ) → List Row → List Row
rows_asked table from to names rows = filter (has_listed_name names) (range_of table from to rows)

-- the replay of a request, whose table has this number, over rows whose packet names stand at their numbers: the rows of the
-- table in its range of its packet names in key order, and of these the first `limit`
abbrev pub replay_of : List Text → ℕ → ReplayRequest → List Row → List Row
replay_of names table request rows =
    truncated request.limit (rows_asked table request.from request.to (packet_name_numbers names request.names) rows)

-- each of the rows stands in one of these partitions
abbrev pub HoldsEachRow : List Partition → List Row → Type 0
HoldsEachRow parts rows = AllByRecursion (λ row. is_of_parts parts row ≡ true) rows

-- a row that such a replay may give: of the table, the range and the names, with a whole packet that gives its key
pub record IsReplayedRow (table : ℕ) (from to : ℤ) (names : Option (List ℕ)) (row : Row) : Type 0 where
  pub keyed : IsKeyedRow row
  pub in_table : row.table ≡ table
  pub in_range : is_in_time_range from to row ≡ true
  pub listed : has_listed_name names row ≡ true
