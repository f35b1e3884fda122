-- A disk that is handed back in order.
use Rattle.std.specs.Prelude.{ℕ, ◌+◌, ◌^◌, ◌<◌, ◌≤◌, List}
use Rattle.arch_disk.specs.Image.{Image}
use Rattle.arch_disk.specs.Disk.{Device}
use Rattle.history_items.specs.declared.items.Item.{Item}
use Rattle.archive_store.specs.Head.{Head}
use Rattle.archive_store.specs.Entries.{FilledArchive, archive}
use Rattle.archive_store.specs.Stands.{StandsFilled, StandsFor}

-- the disk's count of faults stands at most one above its value at entry, and below its last value
pub record FailedAtMostOnce {D : Type 0} (device : Device D) (old new : D) : Type 0 where
  pub most : device.fault_count new ≤ device.fault_count old + 1
  pub below : device.fault_count new + 1 < 2 ^ 64

-- every image that a crash now leaves stands for this history, and so does the disk as it reads
pub record IsDurableAs {D : Type 0} (device : Device D) (new : D) (head : Head) (exponent : ℕ)
    (history : List Item) : Type 0 where
  pub reads : StandsFor (device.reads new) (archive head exponent history)
  pub now : (c : Image) → device.images new c → StandsFor c (archive head exponent history)

-- every image that a crash now leaves stands for this archive with its fills, and so does the disk as it reads
pub record IsDurableWithFills {D : Type 0} (device : Device D) (new : D) (filled : FilledArchive) : Type 0 where
  pub reads : StandsFilled (device.reads new) filled
  pub now : (c : Image) → device.images new c → StandsFilled c filled
