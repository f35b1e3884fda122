-- The steps of a summary: what is counted, and how it is printed and reported.
use Rattle.std.specs.Prelude.{◌≡◌, ◌⊎◌, ◌-◌, ℕ, List, ◌++◌, length, codes, decimal, Option, Some, None, IsSome}
use Rattle.std.specs.List.{AllByRecursion}
use Rattle.asks.specs.Names.{parameter_number}
use Rattle.history_items.specs.Items.{rows_in}
use Rattle.interval_walks.specs.Counts.{intervals_in}
use Rattle.mdb_items.specs.Database.{Database}
use Rattle.outer_traits.specs.States.{OutputState}
use Rattle.refusals.specs.declared.refusal.Refusal.{Refusal}
use Rattle.refusals.specs.declared.refusal.Refusal.TheVariants.{DiskFault, OutOfMemory, WriteFault}
use Rattle.line_buffer.specs.Printed.{IsCutOff, IsPartPrinted, IsWritten}
use Rattle.archive_store.specs.Entries.{FilledArchive}
use Rattle.archive_store.specs.LateFills.{late_in_archive}
use Rattle.archive_verify.specs.declared.verified.Sound.{Sound}
use Rattle.archive_verify.specs.Verified.{HoldCurrentFills, ReportsMismatch}
use Rattle.command_runs.specs.declared.report.LoadCounts.{LoadCounts}
use Rattle.command_runs.specs.declared.report.Report.{Report}
use Rattle.command_runs.specs.Report.{loaded}
use Rattle.live_session.specs.declared.reported.DumpCounts.{DumpCounts}
use Rattle.make_command.specs.declared.summary.CellCounts.{CellCounts}
use Rattle.make_command.specs.Summary.{MadeCounts, cell_count, counted_parameters, summary_text}

-- a database has the parameters whose values are counted
abbrev pub KnowsParameters : Database → Type 0
KnowsParameters db = AllByRecursion (λ name. IsSome (parameter_number db name)) counted_parameters

-- the values of each were counted
pub record AreCellCounts (filled : FilledArchive) (counts : CellCounts) : Type 0 where
  pub apid : counts.apid ≡ cell_count filled (codes "apid")
  pub temp : counts.temp ≡ cell_count filled (codes "temp")
  pub level : counts.level ≡ cell_count filled (codes "level")

-- what comparing counted of an archive
pub record AreCountsOf (filled : FilledArchive) (sound : Sound) : Type 0 where
  pub rows : sound.rows ≡ length (rows_in filled.plain.history)
  pub intervals : sound.intervals ≡ length (intervals_in filled.plain.exponent filled.plain.history)
  pub late : sound.late ≡ length (late_in_archive filled)

-- all was counted
pub record IsSummedUp (filled : FilledArchive) (sound : Sound) (cells : CellCounts) : Type 0 where
  pub counts : AreCountsOf filled sound
  pub values : AreCellCounts filled cells

-- the counts of the first line, by those of the load and of the comparing
abbrev pub made_counts_of : LoadCounts → Sound → MadeCounts
made_counts_of counts sound = record {
  packets = counts.packets;
  rows = sound.rows;
  duplicates = counts.duplicates;
  intervals = sound.intervals;
  late = sound.late;
}

-- the lines of the parameters
abbrev pub count_lines : CellCounts → List ℕ
count_lines counts =
    codes "cells apid " ++ decimal counts.apid ++ codes "\ncells temp " ++ decimal counts.temp
    ++ codes "\ncells level " ++ decimal counts.level ++ codes "\n"

-- How a summary is answered of rows that are told: nothing was found, and all was printed, or not to its end; or a
-- mismatch was found, or, where rows stand on pages, the read of one failed, and nothing was. Memory may be wanting at
-- any place.
abbrev pub IsSummaryReply : Type 0 → ℕ → LoadCounts → FilledArchive → Option Refusal → OutputState → OutputState
    → Type 0
IsSummaryReply OnPages seed counts filled None before after =
    HoldCurrentFills filled × IsWritten before after (summary_text seed counts.packets counts.duplicates filled)
IsSummaryReply OnPages seed counts filled (Some WriteFault) before after =
    HoldCurrentFills filled × IsCutOff before after (summary_text seed counts.packets counts.duplicates filled)
IsSummaryReply OnPages seed counts filled (Some OutOfMemory) before after =
    (after ≡ before)
    ⊎ (HoldCurrentFills filled × IsPartPrinted before after (summary_text seed counts.packets counts.duplicates filled))
IsSummaryReply OnPages seed counts filled (Some DiskFault) before after = OnPages × (after ≡ before)
IsSummaryReply OnPages seed counts filled (Some refusal) before after =
    ReportsMismatch filled refusal × (after ≡ before)

-- the counts of a load into an archive that was empty, by what its dumps had together and how many rows came
abbrev pub counts_behind : DumpCounts → ℕ → LoadCounts
counts_behind dumps rows =
    record { packets = dumps.packets; duplicates = dumps.routed - rows; idle = dumps.idle }

-- the report of a summary that was printed, or not
abbrev pub summary_report : Option Refusal → ℕ → LoadCounts → Report
summary_report None rows counts = loaded None None 0 rows counts.packets counts.duplicates counts.idle
summary_report (Some refusal) rows counts = loaded (Some refusal) None 0 rows 0 0 0
