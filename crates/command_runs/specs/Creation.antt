-- What `create` prints, and what it leaves on a disk.
use Rattle.std.specs.Prelude.{◌⊎◌, ℕ, List, [], ◌++◌, length, codes, decimal}
use Rattle.arch_disk.specs.Image.{Image}
use Rattle.arch_disk.specs.Disk.{Device, LeavesOnly}
use Rattle.disk_journal.specs.Calls.{BeginsOpen}
use Rattle.disk_journal.specs.Format.{HoldsNone}
use Rattle.intervals.specs.Interval.{format_1_exponent}
use Rattle.archive_store.specs.Head.{Head}
use Rattle.archive_store.specs.Calls.{IsCreateImage}
use Rattle.archive_store.specs.Entries.{archive}
use Rattle.archive_store.specs.Stands.{IsSoundImage, StandsFor}
use Rattle.command_runs.specs.ReadOnly.{IsReadAsBefore}
use Rattle.command_runs.specs.Durable.{FailedAtMostOnce}

-- the one line of `create`: how many tables, parameters and containers there are
abbrev pub create_line : Head → List ℕ
create_line head =
    codes "created tables " ++ decimal (length head.tables) ++ codes " parameters "
    ++ decimal (length head.mdb.parameters) ++ codes " containers "
    ++ decimal (length head.mdb.containers) ++ codes "\n"

-- An archive was made where there was none: the disk stands for the head without rows, and so does each image that a
-- crash now leaves; a crash during the call leaves no archive or the head, or what it could have left before. The
-- fills of these images, of which there may be none, are sound.
pub record IsMade {D : Type 0} (device : Device D) (old new : D) (head : Head) : Type 0 where
  pub none : HoldsNone (device.reads old 0)
  pub stands : StandsFor (device.reads new) (archive head format_1_exponent [])
  pub now : (c : Image) → device.images new c → StandsFor c (archive head format_1_exponent [])
  pub sound : (c : Image) → device.images new c → IsSoundImage c
  pub images : LeavesOnly device old new (IsCreateImage (device.images old) head)

-- each image that a crash now leaves holds no archive, or could have been left before
abbrev pub IsStillNone : {D : Type 0} → Device D → D → D → Type 0
IsStillNone device old new = (c : Image) → device.images new c → device.images old c ⊎ HoldsNone (c 0)

-- The making of an archive of this head failed: a disk that holds one is left as it was, and on one that holds none a
-- crash leaves what a making leaves. Where it failed once a crash now leaves no archive, or what it could have left
-- before.
pub record IsMakingFailed {D : Type 0} (device : Device D) (old new : D) (head : Head) : Type 0 where
  pub kept : BeginsOpen (device.reads old 0) → IsReadAsBefore device old new
  pub images : HoldsNone (device.reads old 0) → LeavesOnly device old new (IsCreateImage (device.images old) head)
  pub closed : HoldsNone (device.reads old 0) → FailedAtMostOnce device old new → IsStillNone device old new
