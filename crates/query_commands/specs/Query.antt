-- The command `query --ask`.
use Rattle.std.specs.Prelude.{List, ℕ, Option, Some, Result}
use Rattle.arch_disk.specs.Disk.{Device}
use Rattle.asks.specs.declared.ask.Ask.{Ask}
use Rattle.refusals.specs.declared.refusal.Refusal.{Refusal}
use Rattle.outer_traits.specs.Outside.{Files}
use Rattle.archive_store.specs.Entries.{FilledArchive}
use Rattle.command_plans.specs.Plan.{CommandPlan, and_then}
use Rattle.ask_answers.specs.Asks.{archive_asks_text, asked_plan, asks_check_plan}
use Rattle.command_runs.specs.ArchiveWork.{opened_plan}
use Rattle.command_runs.specs.Command.{Progress, archive_opened}
use Rattle.command_runs.specs.Reading.{printing_rows_plan}

-- prints the answers of an archive with its fills to asks, none of which is refused, while its rows are read; `Tells`
-- says that the disk tells what it holds
abbrev pub answers_plan : Type 0 → FilledArchive → List Ask → CommandPlan Progress ⊥
answers_plan Tells filled asks = printing_rows_plan Tells (archive_opened 0 filled) (archive_asks_text filled 1 asks)

-- checks the asks of a sheet over an archive, and answers them
abbrev pub answering_plan : Type 0 → Result (List Ask) Refusal → FilledArchive → CommandPlan Progress ⊥
answering_plan Tells asks filled =
    and_then (asks_check_plan (archive_opened 0 filled) filled.plain asks) (answers_plan Tells filled)

-- opens the archive, and answers the asks of a sheet that was read
abbrev pub archive_asks_plan : {D : Type 0} → Device D → D → Result (List Ask) Refusal → CommandPlan Progress ⊥
archive_asks_plan device disk asks = opened_plan 0 device disk (λ known. answering_plan known.Tells asks)

-- reads the sheet of asks, opens the archive, and answers them
abbrev pub query_plan : {D : Type 0} → Device D → D → Option Files → List ℕ → CommandPlan Progress ⊥
query_plan device disk files name = asked_plan files (Some name) (archive_asks_plan device disk)
