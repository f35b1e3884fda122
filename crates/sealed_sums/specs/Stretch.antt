-- Neighbouring rows that are told at once.
use Rattle.std.specs.Prelude.{◌≡◌, ℕ, ℤ, ◌*◌, ◌<◌, ◌≤◌, List, length, map}
use Rattle.std.specs.List.{AllByRecursion}
use Rattle.arch_types.specs.declared.row.Row.{Row}
use Rattle.intervals.specs.declared.interval.Interval.{Interval}
use Rattle.intervals.specs.Interval.{interval_of}
use Rattle.histogram.specs.Times.{AreOneSpan}
use Rattle.partitions.specs.declared.partition.Partition.{Partition}
use Rattle.partitions.specs.Partition.{partition_of}
use Rattle.archive_history.specs.Limits.{octets_of}
use Rattle.sealed_sums.specs.declared.stretch.Stretch.{Stretch}

-- the time of each row
abbrev pub times_of_rows : List Row → List ℤ
times_of_rows rows = map (λ row. row.key.time) rows

-- a row of this table, interval and partition
pub record GoesWith (exponent table : ℕ) (interval : Interval) (partition : Partition) (row : Row) : Type 0 where
  pub of_table : row.table ≡ table
  pub of_interval : interval_of exponent row.key.time ≡ interval.0
  pub of_partition : partition_of row.key.time row.pname ≡ partition

-- rows of one table, interval and partition: how many they are, the record of their times, and their octets, of which no
-- packet has 2^32
pub record IsStretchOf (exponent : ℕ) (stretch : Stretch) (rows : List Row) : Type 0 where
  pub some : 0 < stretch.len
  pub len : stretch.len ≡ length rows
  pub each : AllByRecursion (GoesWith exponent stretch.table stretch.interval stretch.partition) rows
  pub span : AreOneSpan stretch.span (times_of_rows rows)
  pub octets : stretch.octets ≡ octets_of rows
  pub small : stretch.octets ≤ stretch.len * 4294967296
