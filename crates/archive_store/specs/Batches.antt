-- The rows of a batch.
use Rattle.std.specs.Prelude.{◌≡◌, ℕ, ℤ, ◌<◌, ◌≤◌, List, length, map, false}
use Rattle.std.specs.List.{flat_map, AllByRecursion}
use Rattle.arch_types.specs.declared.row.Row.{Row}
use Rattle.arch_types.specs.Packet.{IsPacket, is_idle}
use Rattle.arch_types.specs.GenerationTime.{key_of}
use Rattle.text_forms.specs.ClockTime.{IsClockTime}
use Rattle.refusals.specs.declared.refusal.Which.TheVariants.{Links, Tables}
use Rattle.refusals.specs.Limits.{limit_of}
use Rattle.history_items.specs.declared.items.Item.{Item}
use Rattle.history_items.specs.Databases.{names_in}
use Rattle.archive_images.specs.declared.head.Head.{Head}
use Rattle.archive_store.specs.declared.batch.Arrival.{Arrival}
use Rattle.archive_store.specs.declared.batch.Batch.{Batch}

-- a row as one of another table
abbrev pub in_table : Row → ℕ → Row
in_table row table = record row { table = table }

-- the rows of an arrival, in the order of its tables
abbrev pub arrival_rows : Arrival → List Row
arrival_rows arrival = map (in_table arrival.row) arrival.tables

-- the rows of a batch, in the order of its arrivals
abbrev pub batch_rows : Batch → List Row
batch_rows batch = flat_map arrival_rows batch.arrivals

-- the row of a packet that isn't idle, received then by a link from 1 to the limit of links, with a packet name that
-- the history has and tables that the head has, not too many
pub record IsArrival (head : Head) (history : List Item) (rectime : ℤ) (arrival : Arrival) : Type 0 where
  pub link_low : 1 ≤ arrival.row.link
  pub link_high : arrival.row.link ≤ limit_of Links
  pub packet : IsPacket arrival.row.packet
  pub carries : is_idle arrival.row.packet ≡ false
  pub received : arrival.row.rectime ≡ rectime
  pub key : arrival.row.key ≡ key_of arrival.row.packet rectime
  pub pname : arrival.row.pname < length (names_in head.mdb history)
  pub few_tables : length arrival.tables ≤ limit_of Tables
  pub tables : AllByRecursion (λ table. table < length head.tables) arrival.tables

-- at most 64 arrivals, received at a time in the clock's range
pub record IsBatch (head : Head) (history : List Item) (batch : Batch) : Type 0 where
  pub few : length batch.arrivals ≤ 64
  pub rectime : IsClockTime batch.rectime
  pub each : AllByRecursion (IsArrival head history batch.rectime) batch.arrivals
