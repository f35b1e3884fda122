-- What is read of a source for a replay.
use Rattle.std.specs.Prelude.{◌≡◌, ℕ, ℤ, ◌<ℤ◌, ◌≤ℤ◌, ◌<◌, ◌≤◌, ◌^◌, List, length, filter, Option}
use Rattle.std.specs.List.{AllByRecursion}
use Rattle.std.specs.List.Sorted.{IsPartitionPoint}
use Rattle.arch_types.specs.declared.row.Row.{Row}
use Rattle.asks.specs.declared.ask.ReplayRequest.{ReplayRequest}
use Rattle.partitions.specs.declared.partition.Partition.{Partition}
use Rattle.partitions.specs.Partitions.{AreRising}
use Rattle.partitions.specs.Rows.{is_of_parts}
use Rattle.replay_merge.specs.declared.wanted.Wanted.{Wanted}
use Rattle.replay_merge.specs.RowSource.{AreInKeyOrder}
use Rattle.replay_merge.specs.Replay.{is_listed_name, rows_asked, IsReplayedRow}

-- what a request asks of a table at a front, its packet names by their numbers
pub record IsAskedBy (request : ReplayRequest) (table front : ℕ) (names : Option (List ℕ)) (wanted : Wanted) : Type 0 where
  pub of_table : wanted.table ≡ table
  pub at_front : wanted.front ≡ front
  pub starts : wanted.from ≡ request.from
  pub ends : wanted.to ≡ request.to
  pub listed : (pname : ℕ) → is_listed_name wanted.names pname ≡ is_listed_name names pname

-- the rows of a history that are wanted
abbrev pub rows_wanted : Wanted → (ℕ → List Row) → List Row
rows_wanted wanted history = rows_asked wanted.table wanted.from wanted.to wanted.names (history wanted.front)

-- those of some partitions
abbrev pub wanted_in : Wanted → List Partition → (ℕ → List Row) → List Row
wanted_in wanted parts history = filter (is_of_parts parts) (rows_wanted wanted history)

-- a row that may be wanted
abbrev pub IsWanted : Wanted → Row → Type 0
IsWanted wanted row = IsReplayedRow wanted.table wanted.from wanted.to wanted.names row

-- the first so many partitions are those of the days up to some day
abbrev pub EndsDay : List Partition → ℕ → Type 0
EndsDay parts count = (day : ℤ) × IsPartitionPoint (λ (partition : Partition). partition.day ≤ℤ day) (λ (partition : Partition). day <ℤ partition.day) parts count

-- a cursor's partitions rise, and it has read so many of them; the rows ahead are wanted, in the order of their keys
pub record IsUnderway (wanted : Wanted) (parts : List Partition) (at : ℕ) (ahead : List Row) : Type 0 where
  pub within : at ≤ length parts
  pub rising : AreRising parts
  pub each : AllByRecursion (IsWanted wanted) ahead
  pub in_order : AreInKeyOrder ahead
  pub short : length ahead < 2 ^ 64
