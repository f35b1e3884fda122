-- What the commands that work on an archive say of the disk that they are handed.
use Rattle.std.specs.Prelude.{◌≡◌}
use Rattle.arch_disk.specs.Image.{Image}
use Rattle.arch_disk.specs.Disk.{Device, LeavesOnly}
use Rattle.archive_store.specs.Entries.{FilledArchive}
use Rattle.archive_store.specs.Stands.{IsSoundImage, StandsFilled}

-- The disk of a call that opened no archive: it reads as before, and a crash leaves what it could have left before.
pub record IsReadAsBefore {D : Type 0} (device : Device D) (old new : D) : Type 0 where
  pub reads : device.reads new ≡ device.reads old
  pub images : LeavesOnly device old new (device.images old)

-- The disk of a call that opened an archive: up to the opening's syncs a crash leaves what it could have left before,
-- and from then on an image with P; where the fills of the disk that was handed in were sound, those of each image
-- from then on are.
pub record IsOpenedThen {D : Type 0} (device : Device D) (old new : D) (P : Image → Type 0) : Type 0 where
  pub opened : D
  pub before : LeavesOnly device old opened (device.images old)
  pub since : LeavesOnly device opened new P
  pub sound : IsSoundImage (device.reads old) → LeavesOnly device opened new IsSoundImage

-- An archive that was opened and left as it was: each image from the opening's syncs on stands for it with its fills,
-- and so does each that a crash now leaves.
pub record IsReadOnly {D : Type 0} (device : Device D) (old new : D) (filled : FilledArchive) : Type 0 where
  pub stands : StandsFilled (device.reads old) filled
  pub reads : device.reads new ≡ device.reads old
  pub images : IsOpenedThen device old new (λ c. StandsFilled c filled)
  pub now : (c : Image) → device.images new c → StandsFilled c filled
