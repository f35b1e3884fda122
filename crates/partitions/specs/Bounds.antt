-- Which partitions may hold a row in the bounds.
use Rattle.std.specs.Prelude.{◌≡◌, ℕ, ℤ, ◌<ℤ◌, ◌≤ℤ◌, List, Option, Some, None, Contains}
use Rattle.partitions.specs.declared.partition.Partition.{Partition}
use Rattle.partitions.specs.declared.bounds.Bounds.{Bounds}
use Rattle.time_text.specs.Day.{day_of}

-- a packet name is among those listed; where there is no list, each is
abbrev pub IsAmong : Option (List ℕ) → ℕ → Type 0
IsAmong None pname = Unit {0}
IsAmong (Some names) pname = Contains names pname

-- a row's time and packet name lie in the bounds
pub record IsInBounds (bounds : Bounds) (time : ℤ) (pname : ℕ) : Type 0 where
  pub from : bounds.from ≤ℤ time
  pub to : time <ℤ bounds.to
  pub name : IsAmong bounds.names pname

-- some time with from <= time < to has this day
abbrev pub HasTimeOn : ℤ → ℤ → ℤ → Type 0
HasTimeOn from to day = (time : ℤ) × (from ≤ℤ time) × (time <ℤ to) × (day_of time ≡ day)

-- a row in the bounds may stand in a partition: some time of the bounds has its day, and its packet name is among theirs
pub record MayHold (bounds : Bounds) (partition : Partition) : Type 0 where
  pub day : HasTimeOn bounds.from bounds.to partition.day
  pub name : IsAmong bounds.names partition.pname
