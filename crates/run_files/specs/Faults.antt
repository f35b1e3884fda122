-- What a refusal says that may come whatever a file holds.
use Rattle.std.specs.Prelude.{◌≡◌, ◌≤◌, true, false}
use Rattle.arch_disk.specs.Disk.{Device, NoFault, raised}
use Rattle.run_files.specs.declared.fault.RunFault.{RunFault}
use Rattle.run_files.specs.declared.fault.RunFault.TheVariants.{DiskFault, OutOfMemory}

-- a look failed, which the count of faults tells; or memory is wanting, and no call failed
abbrev pub IsLookFault : {D : Type 0} → Device D → D → D → RunFault → Type 0
IsLookFault device before after (DiskFault false) = raised (device.fault_count before) ≤ device.fault_count after
IsLookFault device before after OutOfMemory = NoFault device before after
IsLookFault device before after _ = ⊥

-- one write failed, which both counts tell; or memory is wanting, and no call failed
abbrev pub IsWriteFault : {D : Type 0} → Device D → D → D → RunFault → Type 0
IsWriteFault device before after (DiskFault true) =
    (raised (device.fault_count before) ≤ device.fault_count after) × (device.failed_writes after ≡ raised (device.failed_writes before))
IsWriteFault device before after OutOfMemory =
    NoFault device before after × (device.failed_writes after ≡ device.failed_writes before)
IsWriteFault device before after _ = ⊥
