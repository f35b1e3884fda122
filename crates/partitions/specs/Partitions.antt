-- What contracts see of the partitions of rows, and what is true of the fields.
use Rattle.std.specs.Prelude.{◌≡◌, ◌↔◌, ℕ, ◌+◌, ◌^◌, ◌<◌, ◌≤◌, List, length, vec_len, vec_capacity, Contains}
use Rattle.std.specs.Global.{Vec}
use Rattle.std.specs.Map.{lookup, keys_of}
use Rattle.std.specs.BTreeMap.{is_at}
use Rattle.std.specs.List.Sorted.{IsStrictlySortedBy}
use Rattle.block_map.specs.Index.{Listing}
use Rattle.block_map.specs.Rising.{IsRising}
use Rattle.partitions.specs.declared.partition.Partition.{Partition}
use Rattle.partitions.specs.declared.name_day.NameDay.{NameDay}
use Rattle.partitions.specs.declared.links.Link.{Link}
use Rattle.partitions.specs.Partition.{partition_cmp}
use Rattle.partitions.specs.NameDay.{name_day_cmp, name_day}
use Rattle.partitions.specs.Places.{last_place_below}
use Rattle.partitions.specs.Links.{noted_in, AreChained}

-- the partition of each row that was noted, in order, and how many more are noted without memory
pub record PartitionsView : Type 0 where
  pub noted : List Partition
  pub room : ℕ

-- each partition is below those after it, by day and then by number; so each stands once
abbrev pub AreRising : List Partition → Type 0
AreRising parts = IsStrictlySortedBy partition_cmp parts

-- two indexes of the partitions that hold a row, each in its order; the first has the last place of each
pub record AreIndexed (by_day : Listing Partition ℕ) (by_name : Listing NameDay Unit) (noted : List Partition) : Type 0 where
  pub by_day_rises : IsRising partition_cmp by_day.entries
  pub by_name_rises : IsRising name_day_cmp by_name.entries
  pub last : (p : Partition) → lookup (is_at (partition_cmp p)) by_day.entries ≡ last_place_below (length noted) p noted
  pub names : (p : Partition) → Contains (keys_of by_name.entries) (name_day p) ↔ Contains noted p

-- rows are noted in links and in indexes, with room in each for as many more; places have 32 bits
pub record AreNoted (by_day : Listing Partition ℕ) (by_name : Listing NameDay Unit) (links : Vec Link) (room : ℕ) : Type 0 where
  pub indexed : AreIndexed by_day by_name (noted_in links.items)
  pub chained : AreChained links.items
  pub room_by_day : room ≤ by_day.room
  pub room_by_name : room ≤ by_name.room
  pub room_in_links : vec_len links + room ≤ vec_capacity links
  pub has_places : vec_len links + room < 2 ^ 32
