-- What a fault of the disk says.
use Rattle.std.specs.Prelude.{◌≡◌, ℕ, ◌≤◌, Bool, true, false, Result, OnOk, IfErr}
use Rattle.arch_disk.specs.Disk.{Device, NoFault, NoWriteFailed, raised}
use Rattle.disk_journal.specs.declared.fault.JournalFault.{JournalFault}
use Rattle.disk_journal.specs.declared.fault.JournalFault.TheVariants.{DiskFault, OutOfMemory}

-- whether a write failed where more than one may: the count of failed writes rose, or is as before
abbrev pub TellsWrites : {D : Type 0} → Device D → D → D → Bool → Type 0
TellsWrites device before after true = raised (device.failed_writes before) ≤ device.failed_writes after
TellsWrites device before after false = NoWriteFailed device before after

-- none of these calls failed, unless it is answered that the disk failed
abbrev pub IsToldBy : {D : Type 0} → Device D → D → D → JournalFault → Type 0
IsToldBy device before after (DiskFault wrote) = Unit {0}
IsToldBy device before after _ = NoFault device before after

-- No failed call of the disk is passed over: whatever is answered but that the disk failed, the count of faults is as before.
pub record TellsFaults {D T : Type 0} (device : Device D) (before after : D) (result : Result T JournalFault)
    : Type 0 where
  pub done : OnOk result (NoFault device before after)
  pub refused : IfErr result (IsToldBy device before after)

-- whether a fault is one of a write
abbrev pub wrote_of : JournalFault → Bool
wrote_of (DiskFault wrote) = wrote
wrote_of _ = false

-- a fault that may come whatever a file holds: of the disk, or want of memory
abbrev pub IsFailure : JournalFault → Type 0
IsFailure (DiskFault wrote) = Unit {0}
IsFailure OutOfMemory = Unit {0}
IsFailure _ = ⊥
