-- What a command does with the archive that stands on a disk.
use Rattle.std.specs.Prelude.{◌≡◌, ◌⊎◌, ℕ, false, IsTrue}
use Rattle.arch_disk.specs.Disk.{Device}
use Rattle.archive_store.specs.Entries.{FilledArchive}
use Rattle.command_plans.specs.Plan.{OfInputs, OfMemory, CommandPlan, May, Way, and_then}
use Rattle.command_runs.specs.Command.{Effects, Progress, Ran, failed_at, nothing_done, opening_plan, sources_at}
use Rattle.command_runs.specs.FillingPlan.{IsRecordCount}

-- what is known of the disk of an archive that was opened: whether it tells what it holds, and the number of the
-- journal's records
pub record KnownOfDisk : Type 1 where
  pub Tells : Type 0
  pub Recorded : ℕ → Type 0

-- that is known of a disk
abbrev pub known_of : {D : Type 0} → Device D → D → KnownOfDisk
known_of device disk = record { Tells = IsTrue device.is_transparent; Recorded = IsRecordCount device disk }

-- takes room for a line, opens the archive after so many sources were given, and does a work with it, whose plan goes by
-- what is known of the disk and by what was found
abbrev pub opened_plan : {D : Type 0} → ℕ → Device D → D → (KnownOfDisk → FilledArchive → CommandPlan Progress ⊥)
    → CommandPlan Progress ⊥
opened_plan sources device disk work =
    May OfMemory (nothing_done sources) (and_then (opening_plan sources device disk) (work (known_of device disk)))

-- a call took a way through its plan, did what is said where that ended, and used by it what it was given besides
pub record RanWith {D : Type 0} (device : Device D) (plan : CommandPlan Progress ⊥) (e : Effects D)
    (Used : Way Progress ⊥ → Type 0) : Type 0 where
  pub ran : Ran device plan e
  pub used : Used ran.way

-- What became of the input of a work, before which so many sources were given: it is as it was, since the way ended before
-- the work began; or the work used it so.
abbrev pub UsedByWork : {Input : Type 0} → ℕ → Input → Input → (Way Progress ⊥ → Type 0) → Way Progress ⊥ → Type 0
UsedByWork sources old new Used way =
    ((sources_at way ≡ sources) × (failed_at way OfInputs ≡ false) × (new ≡ old)) ⊎ Used way
