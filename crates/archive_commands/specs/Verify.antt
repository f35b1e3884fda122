-- The command `verify`.
use Rattle.std.specs.Prelude.{◌≡◌, ◌⊎◌, ℕ, List, ◌++◌, length, codes, decimal, Option, Some, None, IsSomeAnd}
use Rattle.arch_disk.specs.Disk.{Device}
use Rattle.refusals.specs.declared.refusal.Refusal.{Refusal}
use Rattle.refusals.specs.declared.refusal.Refusal.TheVariants.{Mismatch}
use Rattle.history_items.specs.Items.{rows_in}
use Rattle.interval_walks.specs.Counts.{intervals_in}
use Rattle.outer_traits.specs.States.{OutputState}
use Rattle.archive_store.specs.Entries.{FilledArchive}
use Rattle.archive_store.specs.LateFills.{late_in_archive}
use Rattle.archive_store.specs.Pages.{TellsRows}
use Rattle.archive_store.specs.StoreView.{StoreView, filled_of}
use Rattle.archive_verify.specs.Verified.{HoldCurrentFills, ReportsMismatch}
use Rattle.command_plans.specs.Plan.{CommandPlan}
use Rattle.command_runs.specs.ArchiveWork.{opened_plan}
use Rattle.command_runs.specs.Checking.{IsCheckReply, after_check, checking_plan}
use Rattle.command_runs.specs.Command.{Progress, archive_opened}
use Rattle.command_runs.specs.Reading.{AreUnread, OnPages, reading_plan}

-- the line of a sound archive: how many rows it has, how many intervals, and how many of these are late
abbrev pub sound_line : ℕ → ℕ → ℕ → List ℕ
sound_line rows intervals late =
    codes "sound rows " ++ decimal rows ++ codes " intervals " ++ decimal intervals ++ codes " late " ++ decimal late
    ++ codes "\n"

-- how many rows a sound archive has, how many intervals have rows of `tm`, and how many of these are late
abbrev pub verify_line : FilledArchive → List ℕ
verify_line filled =
    sound_line (length (rows_in filled.plain.history)) (length (intervals_in filled.plain.exponent filled.plain.history))
    (length (late_in_archive filled))

-- what comparing finds, where these rows are told: that each fill that stands for an interval holds what the interval's
-- rows give, or the first mismatch
abbrev pub IsCompared : Type 0 → FilledArchive → Option Refusal → Type 0
IsCompared AreTold filled None = AreTold → HoldCurrentFills filled
IsCompared AreTold filled (Some (Mismatch interval name key stored replayed)) =
    AreTold → ReportsMismatch filled (Mismatch interval name key stored replayed)
IsCompared AreTold filled (Some other) = ⊥

-- what comparing leads to: the line, or the mismatch and no text
abbrev pub after_comparing : FilledArchive → Option Refusal → CommandPlan Progress ⊥
after_comparing filled = after_check (archive_opened 0 filled) (verify_line filled)

-- reads the rows of an archive, and compares what is stored of its intervals with what they give; `Tells` says that the
-- disk tells what it holds
abbrev pub compare_plan : Type 0 → FilledArchive → CommandPlan Progress ⊥
compare_plan Tells filled =
    reading_plan (OnPages Tells) (archive_opened 0 filled)
    (checking_plan 0 filled (IsCompared Tells filled) (verify_line filled))

-- opens the archive, and compares
abbrev pub verify_plan : {D : Type 0} → Device D → D → CommandPlan Progress ⊥
verify_plan device disk = opened_plan 0 device disk (λ known. compare_plan known.Tells)

-- how comparing is answered: it found nothing, or a mismatch, or rows of the store weren't read, and nothing was
-- printed
abbrev pub IsCompareReply : {D : Type 0} → Device D → StoreView D → Option Refusal → OutputState → OutputState → Type 0
IsCompareReply device store refusal before after =
    IsCheckReply (IsCompared (TellsRows device store) (filled_of store)) (verify_line (filled_of store)) refusal before
    after
    ⊎ (IsSomeAnd refusal (AreUnread device store) × (after ≡ before))
