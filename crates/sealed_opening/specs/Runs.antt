-- Runs that seals name, as they are read.
use Rattle.std.specs.Prelude.{◌≡◌, ℕ, ◌≤◌, List, [], ◌∷◌, ◌++◌, false, IsTrue}
use Rattle.std.specs.List.{AllByRecursion}
use Rattle.arch_disk.specs.Disk.{Device, NoFault, raised}
use Rattle.arch_disk.specs.Image.{Image}
use Rattle.run_files.specs.Run.{IsRunInMemory, run_file, run_table}
use Rattle.run_files.specs.declared.fault.RunFault.{RunFault}
use Rattle.run_files.specs.declared.fault.RunFault.TheVariants as faults
use Rattle.run_files.specs.declared.run.Run.{Run}
use Rattle.run_pages.specs.Damage.{IsRunDamagedAt}
use Rattle.run_pages.specs.Placed.{Placed, rows_of_placed}
use Rattle.refusals.specs.declared.refusal.Refusal.{Refusal}
use Rattle.refusals.specs.declared.refusal.Refusal.TheVariants as refused
use Rattle.seal_codec.specs.declared.seal.SealedRun.{SealedRun}
use Rattle.archive_images.specs.declared.head.Head.{Head}
use Rattle.archive_images.specs.Entries.{IsPlaced}
use Rattle.sealed_opening.specs.SoFar.{ArePlacedIf, AreRowsNoted}
use Rattle.sealed_opening.specs.declared.so_far.SealedSoFar.{SealedSoFar}

-- the file is this run, and its rows were noted
pub record AreRunRowsNoted {D : Type 0} (device : Device D) (disk : D) (head : Head) (file : ℕ) (run : Run)
    (was now : SealedSoFar) : Type 0 where
  pub rows : List Placed
  pub noted : AreRowsNoted rows was now
  pub placed : ArePlacedIf (AllByRecursion (IsPlaced head []) (rows_of_placed rows)) was now
  pub runs : now.runs.items ≡ was.runs.items
  pub in_file : run_file run ≡ file
  pub is_run : IsTrue device.is_transparent → IsRunInMemory (device.reads disk file) run rows

-- the file that a seal names is a run, its rows were noted, and the run stands behind those before
pub record IsRunNoted {D : Type 0} (device : Device D) (disk : D) (head : Head) (named : SealedRun)
    (was now : SealedSoFar) : Type 0 where
  pub rows : List Placed
  pub run : Run
  pub noted : AreRowsNoted rows was now
  pub placed : ArePlacedIf ((run_table run ≡ named.table) × AllByRecursion (IsPlaced head []) (rows_of_placed rows)) was now
  pub runs : now.runs.items ≡ was.runs.items ++ run ∷ []
  pub in_file : run_file run ≡ named.file
  pub is_run : IsTrue device.is_transparent → IsRunInMemory (device.reads disk named.file) run rows

-- why a run wasn't read: it is damaged there; a read failed; or memory is wanting
abbrev pub IsRunNoteFault : {D : Type 0} → Device D → ℕ → D → D → RunFault → Type 0
IsRunNoteFault device file before after (faults.Damaged f at) =
    (f ≡ file) × (IsTrue device.is_transparent → IsRunDamagedAt (device.reads before file) at) × NoFault device before after
IsRunNoteFault device file before after (faults.DiskFault false) =
    raised (device.fault_count before) ≤ device.fault_count after
IsRunNoteFault device file before after faults.OutOfMemory = NoFault device before after
IsRunNoteFault device file before after _ = ⊥

-- a run is damaged at this octet
abbrev pub IsDamagedRun : Image → ℕ → ℕ → ℕ → Type 0
IsDamagedRun image run file at = (file ≡ run) × IsRunDamagedAt (image run) at

-- the refusal for a fault of a run
abbrev pub run_refusal : RunFault → Refusal
run_refusal (faults.Damaged file at) = refused.Damaged file at
run_refusal (faults.DiskFault wrote) = refused.DiskFault
run_refusal faults.Limit = refused.OutOfMemory
run_refusal faults.OutOfMemory = refused.OutOfMemory
