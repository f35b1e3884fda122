-- The command `make`.
use Rattle.std.specs.Prelude.{◌-◌, ℕ, ℤ, length, false, Option, Some, None}
use Rattle.arch_disk.specs.Disk.{Device}
use Rattle.refusals.specs.declared.refusal.Refusal.{Refusal}
use Rattle.archive_store.specs.Entries.{FilledArchive}
use Rattle.archive_commands.specs.Create.{making_plan}
use Rattle.archive_commands.specs.Verify.{IsCompared}
use Rattle.command_plans.specs.Plan.{OfMemory, OfOutput, CommandPlan, Stop, May, Question, Choose, map_done}
use Rattle.command_runs.specs.Command.{Progress, behind_making}
use Rattle.command_runs.specs.Extension.{filled_at}
use Rattle.command_runs.specs.FillingPlan.{all_filled}
use Rattle.command_runs.specs.Moment.{IsMomentOf}
use Rattle.command_runs.specs.Reading.{InMemory}
use Rattle.command_runs.specs.declared.report.Report.{Report}
use Rattle.command_runs.specs.Report.{loaded}
use Rattle.live_session.specs.Outcome.{JobsOutcome, counts_of, reported_of}
use Rattle.load_command.specs.Load.{after_session, history_extended}
use Rattle.make_command.specs.Made.{IsFilledBy, IsMadeOutcome, made_archive, made_head}
use Rattle.make_command.specs.Summary.{summary_text}

-- ---- behind the load

-- all packets were loaded, and each late interval filled
abbrev pub made_and_filled : JobsOutcome → Progress
made_and_filled c = all_filled made_archive c.reached (history_extended 0 made_archive None c)

-- the report once all is printed
abbrev pub made_report : JobsOutcome → Report
made_report c =
    let counts = counts_of c.ends in
    loaded None None 0 (length c.reached) counts.packets (counts.routed - length c.reached) counts.idle

-- prints the lines of an archive that was compared; its counts are reported once all is printed
abbrev pub summary_printing_plan : ℕ → JobsOutcome → FilledArchive → CommandPlan Progress ⊥
summary_printing_plan seed c filled =
    let report = made_report c in
    let text = summary_text seed report.packets report.duplicates filled in
    let printing = record (made_and_filled c) { text = text; is_whole = false } in
    May OfMemory printing
    (May OfOutput printing (Stop (record (made_and_filled c) { text = text; report = report }) None))

-- what comparing leads to: the lines, or the mismatch and no text
abbrev pub summary_or_mismatch : ℕ → JobsOutcome → FilledArchive → Option Refusal → CommandPlan Progress ⊥
summary_or_mismatch seed c filled None = summary_printing_plan seed c filled
summary_or_mismatch seed c filled (Some refusal) = Stop (made_and_filled c) (Some refusal)

-- compares what is stored of the intervals with what their rows give
abbrev pub comparing_plan : ℕ → JobsOutcome → FilledArchive → CommandPlan Progress ⊥
comparing_plan seed c filled =
    May OfMemory (made_and_filled c) (Question (IsCompared (Unit {0}) filled) (summary_or_mismatch seed c filled))

-- what follows where nothing was refused: the fills that the archive has got are compared, and all is printed
abbrev pub summary_plan : {D : Type 0} → Device D → ℕ → JobsOutcome → CommandPlan Progress ⊥
summary_plan device seed c =
    Choose (IsFilledBy device c.reached) (λ fillings.
    comparing_plan seed c (filled_at made_archive c.reached fillings))

-- ---- the load

-- loads the dumps into the archive that was made, by two links and two fillers, at the clock's moment
abbrev pub made_load_plan : {D : Type 0} → Device D → Option ℤ → ℕ → CommandPlan Progress ⊥
made_load_plan device next seed =
    Choose (IsMomentOf next) (λ moment.
    Choose (IsMadeOutcome seed moment) (λ c.
    after_session InMemory 0 made_archive c (summary_plan device seed c) (reported_of 1 c.ends c.others) c.failed))

-- ---- the whole

-- what is done behind the making
abbrev pub behind_plan : {D : Type 0} → Device D → Option ℤ → ℕ → CommandPlan Progress ⊥
behind_plan device next seed = map_done (behind_making made_head) (made_load_plan device next seed)

-- makes an archive for made packets: DiskFault; Exists, where the disk says so; then loads them, compares and prints
unfoldable pub make_plan : {D : Type 0} → Device D → D → Option ℤ → ℕ → CommandPlan Progress ⊥
make_plan device disk next seed = making_plan 0 device disk made_head (behind_plan device next seed)
