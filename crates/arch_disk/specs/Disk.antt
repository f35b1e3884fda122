-- A disk of numbered files: what its values mean, and how a call changes that.
use Rattle.std.specs.Prelude.{◌≡◌, ◌⊎◌, ℕ, ◌+◌, ◌-◌, ◌^◌, ◌<◌, ◌≤◌, min, max, Bool, true, false, IsTrue, List, length, Result, OnErr, OnOk, is_ok, if◌then◌else◌}
use Rattle.arch_disk.specs.Image.{AgreesBut, Image}

-- Everything that is known of the disks of a type: the meanings of their values, and the laws of these meanings.
pub record Device (D : Type 0) : Type 1 where
  -- whether these disks are transparent: what they hold is known; else they are opaque
  pub is_transparent : Bool
  -- what the files read as, where that is known
  pub reads : D → Image
  -- the images that a crash at this moment may leave
  pub images : D → Image → Type 0
  -- the clock of calls
  pub moment : D → ℕ
  -- the images that a crash at some moment since that one may have left, inside a call or between two
  pub images_since : D → ℕ → Image → Type 0
  -- how often a call has failed
  pub fault_count : D → ℕ
  -- how often a write, a cut or a sync has failed
  pub failed_writes : D → ℕ
  -- this moment is one of those since an earlier one,
  pub now_counts : (disk : D) (t : ℕ) (c : Image) → t ≤ moment disk → images disk c → images_since disk t c
  -- and the only one since itself
  pub only_now : (disk : D) (c : Image) → images_since disk (moment disk) c → images disk c
  -- a disk as it reads is one of its images
  pub reads_as_image : (disk : D) → IsTrue is_transparent → images disk (reads disk)
  -- no file is longer than a place can say
  pub lengths_fit : (disk : D) (file : ℕ) → IsTrue is_transparent → length (reads disk file) < 2 ^ 64

-- each image that a crash may leave now is an image of before, after the step
abbrev pub Follows : {D : Type 0} → Device D → (Image → Image → Type 0) → D → D → Type 0
Follows device step old new = (c : Image) → device.images new c → (d : Image) × device.images old d × step d c

-- a crash leaves no image that could not have been left before
abbrev pub AddsNoImage : {D : Type 0} → Device D → D → D → Type 0
AddsNoImage device old new = (c : Image) → device.images new c → device.images old c

-- a crash leaves this content of the file and no other
abbrev pub IsDurable : {D : Type 0} → Device D → ℕ → List ℕ → D → Type 0
IsDurable device file content disk = (c : Image) → device.images disk c → c file ≡ content

-- Time goes on over a call: a crash since t may have left what it may have left before the call, or what it may leave now.
pub record Elapses {D : Type 0} (device : Device D) (old new : D) : Type 0 where
  pub later : device.moment old ≤ device.moment new
  pub nothing_else : (t : ℕ) (c : Image) → t ≤ device.moment old → device.images_since new t c → device.images_since old t c ⊎ device.images new c
  pub keeps : (t : ℕ) (c : Image) → t ≤ device.moment old → device.images_since old t c → device.images_since new t c

-- a crash at any moment of a run of calls leaves an image that has P
pub record LeavesOnly {D : Type 0} (device : Device D) (old new : D) (P : Image → Type 0) : Type 0 where
  pub later : device.moment old ≤ device.moment new
  pub each : (c : Image) → device.images_since new (device.moment old) c → P c
  -- for a run that began earlier
  pub before : (t : ℕ) (c : Image) → t ≤ device.moment old → device.images_since new t c → device.images_since old t c ⊎ P c

-- one more, where the counter is not at its last value
abbrev pub raised : ℕ → ℕ
raised count = max count (min (count + 1) (2 ^ 64 - 1))

-- no write, cut or sync failed
abbrev pub NoWriteFailed : {D : Type 0} → Device D → D → D → Type 0
NoWriteFailed device before after = device.failed_writes after ≡ device.failed_writes before

-- no call failed
abbrev pub NoFault : {D : Type 0} → Device D → D → D → Type 0
NoFault device before after = device.fault_count after ≡ device.fault_count before

-- The count of faults never falls, and rises where the call failed and nowhere else: what it counts is told to the caller.
pub record HasCause {D T E : Type 0} (device : Device D) (old new : D) (result : Result T E) : Type 0 where
  pub later : device.fault_count old ≤ device.fault_count new
  pub failed : OnErr result (raised (device.fault_count old) ≤ device.fault_count new)
  pub told : OnOk result (NoFault device old new)

-- the count of failed writes rises exactly where the call failed
abbrev pub CountsFailure : {D T E : Type 0} → Device D → D → D → Result T E → Type 0
CountsFailure device old new result = device.failed_writes new ≡ (if is_ok result then device.failed_writes old else raised (device.failed_writes old))

-- A run of calls that only looked: the disk reads as before, no write failed, and a crash leaves what it could have left before.
pub record OnlyReads {D : Type 0} (device : Device D) (old new : D) : Type 0 where
  pub reads_same : device.reads new ≡ device.reads old
  pub moments : LeavesOnly device old new (device.images old)
  pub images : AddsNoImage device old new
  pub later : device.fault_count old ≤ device.fault_count new
  pub no_write : NoWriteFailed device old new

-- the disk reads as before, and a crash leaves what it could have left before
pub record IsUntouched {D : Type 0} (device : Device D) (old new : D) : Type 0 where
  pub reads_same : device.reads new ≡ device.reads old
  pub moments : LeavesOnly device old new (device.images old)
  pub images : AddsNoImage device old new

-- in every other file the image is one of those from before
abbrev pub IsOldBut : {D : Type 0} → Device D → ℕ → D → Image → Type 0
IsOldBut device file old c = (d : Image) × device.images old d × AgreesBut file d c

-- every file but this one reads as before, and power lost at any moment leaves of it what could have been left before
pub record LeavesOthers {D : Type 0} (device : Device D) (file : ℕ) (before after : D) : Type 0 where
  pub reads : IsTrue device.is_transparent → AgreesBut file (device.reads before) (device.reads after)
  pub crash : LeavesOnly device before after (IsOldBut device file before)

-- the count of failed writes after a call in which one failed, or none
abbrev pub writes_after : Bool → ℕ → ℕ
writes_after true count = raised count
writes_after false count = count

-- a call of the disk failed, which the count of faults tells; that of failed writes tells whether it was a write
pub record IsDiskFault {D : Type 0} (device : Device D) (before after : D) (wrote : Bool) : Type 0 where
  pub rose : raised (device.fault_count before) ≤ device.fault_count after
  pub writes : device.failed_writes after ≡ writes_after wrote (device.failed_writes before)
