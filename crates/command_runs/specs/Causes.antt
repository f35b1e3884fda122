-- What the disk that is handed back shows of why a call was refused.
use Rattle.std.specs.Prelude.{ℕ, ◌+◌, ◌≤◌, IsTrue, Option, Some, None}
use Rattle.arch_disk.specs.Disk.{Device}
use Rattle.refusals.specs.declared.refusal.Which.TheVariants.{Records}
use Rattle.refusals.specs.Limits.{limit_of}
use Rattle.history_items.specs.Fills.{above}
use Rattle.archive_store.specs.Stands.{HasRecordCount}

-- where a number is told, the log of a disk that is known reaches the limit with so many records more
abbrev pub IsLogNear : {D : Type 0} → Device D → D → Option ℕ → Type 0
IsLogNear device disk None = Unit {0}
IsLogNear device disk (Some more) =
    IsTrue device.is_transparent →
    (records : ℕ) × HasRecordCount (device.reads disk) records × (limit_of Records ≤ records + more)

-- where a count of faults is told, the disk came to it during the call
abbrev pub IsCountedSince : {D : Type 0} → Device D → D → D → Option ℕ → Type 0
IsCountedSince device old new None = Unit {0}
IsCountedSince device old new (Some faults) =
    (above (device.fault_count old) ≤ faults) × (faults ≤ device.fault_count new)
