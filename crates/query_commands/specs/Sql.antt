-- The command `query --sql`.
use Rattle.std.specs.Prelude.{ℕ, List, Option}
use Rattle.arch_disk.specs.Disk.{Device}
use Rattle.outer_traits.specs.Outside.{Files}
use Rattle.archive_store.specs.Entries.{FilledArchive}
use Rattle.command_plans.specs.Plan.{CommandPlan, and_then, map_done}
use Rattle.ssql_types.specs.declared.place.ScriptPlace.TheVariants.{Sql}
use Rattle.ssql_types.specs.declared.statement.TypedStatement.{TypedStatement}
use Rattle.command_runs.specs.ArchiveWork.{opened_plan}
use Rattle.command_runs.specs.Command.{Progress, archive_opened, nothing_done}
use Rattle.command_runs.specs.Reading.{printing_rows_plan}
use Rattle.script_answers.specs.Scripts.{script_octets_plan, script_plan}
use Rattle.script_answers.specs.Statements.{packet_names, statements_text}

-- prints the answers of an archive to statements, while its rows are read; `Tells` says that the disk tells what it
-- holds
abbrev pub statements_plan : Type 0 → FilledArchive → List TypedStatement → CommandPlan Progress ⊥
statements_plan Tells filled statements =
    printing_rows_plan Tells (archive_opened 1 filled) (statements_text filled.plain statements)

-- answers a text over an archive, unless it is refused as a script over its tables and packet names
abbrev pub text_plan : Type 0 → List ℕ → FilledArchive → CommandPlan Progress ⊥
text_plan Tells text filled =
    let names = packet_names filled.plain.head filled.plain.history in
    and_then (script_plan (archive_opened 1 filled) Sql filled.plain.head.tables names text)
    (statements_plan Tells filled)

-- opens the archive, and answers a text that was read
abbrev pub archive_text_plan : {D : Type 0} → Device D → D → List ℕ → CommandPlan Progress ⊥
archive_text_plan device disk text = opened_plan 1 device disk (λ known. text_plan known.Tells text)

-- reads the script, opens the archive, and answers it
abbrev pub sql_plan : {D : Type 0} → Device D → D → Option Files → List ℕ → CommandPlan Progress ⊥
sql_plan device disk files name =
    and_then (map_done nothing_done (script_octets_plan files name 0)) (archive_text_plan device disk)
