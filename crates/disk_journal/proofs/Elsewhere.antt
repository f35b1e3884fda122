-- A journal keeps its records while other files change, and while the disk is only looked at.
use Rattle.std.proofs.Common.{◌≡◌, ◌≢◌, ℕ, List, refl, sym, ◌∙◌, ap, subst}
use Rattle.arch_disk.specs.Image.{Image, AgreesBut}
use Rattle.arch_disk.specs.Disk.{Device, IsOldBut, OnlyReads}
use Rattle.disk_journal.specs.Format.{HasRecords, HasStaged}
use Rattle.disk_journal.specs.State.{HasOnDisk, StateIs}
use Rattle.disk_journal.specs.declared.journal.Journal.{Journal}
use Rattle.disk_journal.specs.declared.journal.PendingFault.{PendingFault}
use Rattle.disk_journal.specs.declared.journal.PendingFault.TheVariants.{Absent, GateClosed, GateWritten}

-- the file reads as before, and each image has one of before in it
module _ {D : Type 0} (device : Device D) (file : ℕ) (bodies : List (List ℕ)) (pending : List ℕ) (old new : D) (reads : device.reads new file ≡ device.reads old file) (within : (c : Image) → device.images new c → (d : Image) × device.images old d × (c file ≡ d file)) where
  state_within : (t : PendingFault) → StateIs device t file bodies pending old → StateIs device t file bodies pending new
  state_within Absent state = (
    subst (λ (l : List ℕ). HasRecords l bodies) (sym reads) state.0,
    λ c left. let from = within c left in from.2 ∙ state.1 from.0 from.1 ∙ sym reads,
  )
  state_within (GateClosed faults) state = λ c left. let from = within c left in subst (λ (l : List ℕ). HasRecords l bodies) (sym from.2) (state from.0 from.1)
  state_within (GateWritten faults) state = λ c left. let from = within c left in subst (λ (l : List ℕ). HasStaged l bodies pending) (sym from.2) (state from.0 from.1)

-- work in another file
pub keeps_elsewhere : {D : Type 0} (device : Device D) (journal : Journal) (other : ℕ) → journal.file ≢ other → (bodies : List (List ℕ)) (pending : List ℕ) (old new : D) → AgreesBut other (device.reads old) (device.reads new) → ((c : Image) → device.images new c → IsOldBut device other old c)
    → HasOnDisk device journal bodies pending old → HasOnDisk device journal bodies pending new
keeps_elsewhere device journal other differs bodies pending old new reads elsewhere keeps = record {
  extents = keeps.extents;
  end = keeps.end;
  state = state_within device journal.file bodies pending old new (reads journal.file differs) (λ c left. let from = elsewhere c left in (from.0, from.1, from.2 journal.file differs)) journal.pending_fault keeps.state;
}

-- looks at any file
pub keeps_looked : {D : Type 0} (device : Device D) (journal : Journal) (bodies : List (List ℕ)) (pending : List ℕ) (old new : D) → OnlyReads device old new → HasOnDisk device journal bodies pending old → HasOnDisk device journal bodies pending new
keeps_looked device journal bodies pending old new looked keeps = record {
  extents = keeps.extents;
  end = keeps.end;
  state = state_within device journal.file bodies pending old new (ap (λ (x : Image). x journal.file) looked.reads_same) (λ c left. (c, looked.images c left, refl)) journal.pending_fault keeps.state;
}
