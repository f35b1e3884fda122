-- How a command fills what is late.
use Rattle.std.specs.Prelude.{◌≡◌, ℕ, ◌+◌, nat_lt, List, Bool, true, false, IsTrue, Some}
use Rattle.arch_disk.specs.Disk.{Device}
use Rattle.refusals.specs.declared.refusal.Refusal.{Refusal}
use Rattle.refusals.specs.declared.refusal.Refusal.TheVariants.{Limit}
use Rattle.refusals.specs.declared.refusal.Which.TheVariants.{Records}
use Rattle.refusals.specs.Limits.{limit_of}
use Rattle.command_plans.specs.Plan.{OfMemory, OfDisk, CommandPlan, Stop, May, Choose, with_failed_call}
use Rattle.history_items.specs.declared.items.Item.{Item}
use Rattle.archive_store.specs.Entries.{FilledArchive}
use Rattle.archive_store.specs.Stands.{HasRecordCount}
use Rattle.command_runs.specs.Command.{Progress, AllFilled, FillingFailed}
use Rattle.command_runs.specs.Reading.{RowsPlace, reading_plan}

-- how many records the log of a disk has, where it is known
abbrev pub IsRecordCount : {D : Type 0} → Device D → D → ℕ → Type 0
IsRecordCount device disk number = IsTrue device.is_transparent → HasRecordCount (device.reads disk) number

-- ---- what is done by then

-- the disk failed at a fill of an archive that had been extended to this
abbrev pub fill_failed : FilledArchive → List Item → Progress → Progress
fill_failed before reached s = record s { disk = FillingFailed before reached }

-- each late interval was filled
abbrev pub all_filled : FilledArchive → List Item → Progress → Progress
all_filled before reached s = record s { disk = AllFilled before reached }

-- ---- a filling whose refusal is told

-- a log of so many records has no room for so many fills, each of which is a record; `Recorded` says what is known of
-- the number of records
abbrev pub IsFullFor : (ℕ → Type 0) → ℕ → Bool → Type 0
IsFullFor Recorded late is_full =
    (records : ℕ) × Recorded records × (is_full ≡ nat_lt (limit_of Records) (records + late))

-- what it leads to that the log can take the fills, or can't: then it has reached its limit
abbrev pub after_filling : Progress → CommandPlan Progress ⊥ → Bool → CommandPlan Progress ⊥
after_filling s next false = next
after_filling s next true = Stop (record s { log = Some 0 }) (Some (Limit Records (limit_of Records)))

-- Fills each late interval of an archive that was extended to this, and goes on: want of memory; DiskFault or Damaged,
-- where rows on pages aren't read; DiskFault at a fill; Limit Records. `IsFull` says what is known of whether the log
-- can't take the fills.
abbrev pub filling_plan : RowsPlace → (Bool → Type 0) → FilledArchive → List Item → Progress → CommandPlan Progress ⊥
    → CommandPlan Progress ⊥
filling_plan rows IsFull before reached s next =
    May OfMemory s
    (reading_plan rows s
    (May OfDisk (fill_failed before reached s)
    (Choose IsFull (after_filling s next))))

-- ---- a filling behind a refusal, which is what is told

-- how a filling ended
pub data FillingEnd : Type 0 where
  -- each late interval was filled
  Whole : FillingEnd
  -- a fill wasn't written
  Unwritten : FillingEnd
  -- a read of rows failed
  Unread : FillingEnd
  -- it was refused for something else, and no call of the disk failed
  Refused : FillingEnd

-- what was done once it ended so
abbrev pub filled_to : FilledArchive → List Item → Progress → FillingEnd → Progress
filled_to before reached s Whole = all_filled before reached s
filled_to before reached s Unwritten =
    record (fill_failed before reached s) { failed = with_failed_call OfDisk s.failed }
filled_to before reached s Unread = record s { failed = with_failed_call OfDisk s.failed }
filled_to before reached s Refused = s

-- Fills each late interval of an archive that was extended to this, behind a refusal: that is what is told, whatever the
-- filling comes to.
abbrev pub filling_behind_plan : FilledArchive → List Item → Progress → Refusal → CommandPlan Progress ⊥
filling_behind_plan before reached s refusal =
    Choose (λ (end : FillingEnd). Unit {0}) (λ end. Stop (filled_to before reached s end) (Some refusal))
