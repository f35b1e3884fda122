-- The command `recover`.
use Rattle.std.specs.Prelude.{ℕ, zero, suc, List, ◌++◌, length, codes, decimal}
use Rattle.arch_disk.specs.Disk.{Device}
use Rattle.history_items.specs.Items.{rows_in}
use Rattle.archive_store.specs.Entries.{FilledArchive}
use Rattle.command_plans.specs.Plan.{OfMemory, CommandPlan, May}
use Rattle.command_runs.specs.ArchiveWork.{KnownOfDisk, opened_plan}
use Rattle.command_runs.specs.Command.{Progress, Extended, archive_opened, printing_plan}
use Rattle.command_runs.specs.FillingPlan.{IsFullFor, all_filled, filling_plan}
use Rattle.command_runs.specs.Reading.{OnPages}
use Rattle.archive_store.specs.LateFills.{late_in_archive}

-- how many rows an archive has, and how many of its intervals were late and are filled
abbrev pub recover_line : FilledArchive → List ℕ
recover_line filled =
    codes "recovered rows " ++ decimal (length (rows_in filled.plain.history)) ++ codes " filled "
    ++ decimal (length (late_in_archive filled)) ++ codes "\n"

-- an archive some of whose intervals are late was opened, and may have got fills: its rows are those that there were
abbrev pub archive_with_fills : FilledArchive → Progress
archive_with_fills filled = record (archive_opened 0 filled) { disk = Extended filled filled.plain.history }

-- prints the line of an archive, by how many of its intervals are late: where none is it is left as it was, and else
-- each is filled
abbrev pub late_plan : KnownOfDisk → FilledArchive → ℕ → CommandPlan Progress ⊥
late_plan known filled zero =
    let s = archive_opened 0 filled in
    May OfMemory s (printing_plan s (recover_line filled))
late_plan known filled (suc late) =
    let s = archive_with_fills filled in
    filling_plan (OnPages known.Tells) (IsFullFor known.Recorded (suc late)) filled filled.plain.history s
    (printing_plan (all_filled filled filled.plain.history s) (recover_line filled))

-- fills each late interval of an archive, and prints its line
abbrev pub recovering_plan : KnownOfDisk → FilledArchive → CommandPlan Progress ⊥
recovering_plan known filled = late_plan known filled (length (late_in_archive filled))

-- opens the archive, fills what is late, and prints its line
abbrev pub recover_plan : {D : Type 0} → Device D → D → CommandPlan Progress ⊥
recover_plan device disk = opened_plan 0 device disk recovering_plan
