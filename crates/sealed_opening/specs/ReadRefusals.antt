-- Why a reading is refused.
use Rattle.std.specs.Prelude.{ℕ, ◌≤◌, IsTrue}
use Rattle.arch_disk.specs.Disk.{Device, NoFault, raised}
use Rattle.refusals.specs.declared.refusal.Refusal.{Refusal}
use Rattle.refusals.specs.declared.refusal.Refusal.TheVariants as refused

-- The octet of a file is one at which it is damaged, by what the disk tells; or a read failed; or memory is wanting.
abbrev pub IsReadRefusal : {D : Type 0} → (ℕ → ℕ → Type 0) → Device D → D → D → Refusal → Type 0
IsReadRefusal IsDamage device before after (refused.Damaged file at) =
    (IsTrue device.is_transparent → IsDamage file at) × NoFault device before after
IsReadRefusal IsDamage device before after refused.DiskFault =
    raised (device.fault_count before) ≤ device.fault_count after
IsReadRefusal IsDamage device before after refused.OutOfMemory = NoFault device before after
IsReadRefusal IsDamage device before after _ = ⊥
