-- The command `create`.
use Rattle.std.specs.Prelude.{◌≡◌, ◌⊎◌, ◌<◌, ◌≤◌, ℕ, ◌+◌, List, [], ◌∷◌, length, codes, Bool, true, false, IsTrue, Option, Some, None, Result, Ok, Err}
use Rattle.arch_disk.specs.Image.{Image}
use Rattle.arch_disk.specs.Disk.{Device}
use Rattle.refusals.specs.declared.refusal.Refusal.{Refusal}
use Rattle.refusals.specs.declared.refusal.Refusal.TheVariants.{Exists, Limit}
use Rattle.refusals.specs.declared.refusal.Which.TheVariants.{Tables}
use Rattle.refusals.specs.Limits.{limit_of}
use Rattle.disk_journal.specs.Calls.{BeginsOpen}
use Rattle.disk_journal.specs.Format.{HoldsNone}
use Rattle.mdb_items.specs.declared.sheet.RawMdb.{RawMdb}
use Rattle.mdb_model.specs.Sheets.{sheets_database}
use Rattle.mdb_sheets.specs.Plans.{sheets_plan}
use Rattle.outer_traits.specs.Outside.{Files}
use Rattle.outer_traits.specs.States.{InputsState}
use Rattle.command_plans.specs.Inputs.{AnsweredByPlan}
use Rattle.command_plans.specs.Plan.{OfMemory, OfDisk, no_failed_calls, CommandPlan, Return, Stop, May, Question, and_then, map_done}
use Rattle.command_words.specs.Job.{CreateWords}
use Rattle.archive_store.specs.Head.{Head}
use Rattle.retrieval.specs.Parameter.{sheets_refusal}
use Rattle.ssql_types.specs.declared.place.ScriptPlace.TheVariants as ScriptPlace
use Rattle.ssql_types.specs.declared.statement.TypedStatement.{TypedStatement}
use Rattle.command_runs.specs.Command.{Progress, MakingFailed, Made, archive_sought, nothing_done, printing_plan}
use Rattle.command_runs.specs.Creation.{create_line}
use Rattle.command_runs.specs.Report.{read_only, unopened}
use Rattle.script_answers.specs.Scripts.{IsScriptAnswer, after_answer, script_octets_plan}
use Rattle.ssql_types.specs.CreatedTables.{created_tables}

-- the tables of a new archive: `tm`, and those that a script creates, in its order
abbrev pub tables_with : List TypedStatement → List (List ℕ)
tables_with script = codes "tm" ∷ created_tables script

-- ---- the head

-- An answer about the text of a script: it creates these tables beside `tm`, and they are not too many; or why it is
-- refused: as a script of `create`, or as they are too many.
abbrev pub IsTablesAnswer : List ℕ → Result (List (List ℕ)) Refusal → Type 0
IsTablesAnswer text (Ok tables) =
    (script : List TypedStatement) × IsScriptAnswer ScriptPlace.Create (codes "tm" ∷ []) [] text (Ok script)
    × (tables ≡ tables_with script) × (length tables ≤ limit_of Tables)
IsTablesAnswer text (Err refusal) =
    IsScriptAnswer ScriptPlace.Create (codes "tm" ∷ []) [] text (Err refusal)
    ⊎ ((script : List TypedStatement) × IsScriptAnswer ScriptPlace.Create (codes "tm" ∷ []) [] text (Ok script)
    × (limit_of Tables < length (tables_with script))
    × (refusal ≡ Limit Tables (limit_of Tables)))

-- An answer about the records of the sheets and the text of a script: they give this head; or why they are refused:
-- the sheets by the first rule that they break, else by the first limit that they pass; then the script.
abbrev pub IsHeadAnswer : RawMdb → List ℕ → Result Head Refusal → Type 0
IsHeadAnswer raw text (Ok head) =
    (sheets_refusal raw ≡ None) × IsTablesAnswer text (Ok head.tables) × (head.mdb ≡ sheets_database raw)
IsHeadAnswer raw text (Err refusal) =
    (sheets_refusal raw ≡ Some refusal) ⊎ ((sheets_refusal raw ≡ None) × IsTablesAnswer text (Err refusal))

-- gives the head of sheets and a script, or ends by their refusal; memory may be wanting
abbrev pub checking_plan : ℕ → RawMdb → List ℕ → CommandPlan ℕ Head
checking_plan sources raw text = May OfMemory sources (Question (IsHeadAnswer raw text) (after_answer sources))

-- reads the script that is named; where none is its text is empty
abbrev pub named_script_plan : Option Files → Option (List ℕ) → ℕ → CommandPlan ℕ (List ℕ)
named_script_plan files None sources = Return []
named_script_plan files (Some name) sources = script_octets_plan files name sources

-- how many inputs are read for it
abbrev pub named_inputs : Option (List ℕ) → ℕ
named_inputs None = 0
named_inputs (Some name) = 1

-- the script that is named wasn't read for this refusal, by its plan, whatever had been read before it
abbrev pub IsScriptUnread : Option Files → Option (List ℕ) → InputsState → InputsState → Refusal → Type 0
IsScriptUnread files script old new refusal =
    AnsweredByPlan {X = List ℕ} 1 (named_script_plan files script) (Err refusal) old new

-- reads the script behind the sheets, and checks both
abbrev pub script_behind_plan : Option Files → Option (List ℕ) → ℕ → RawMdb → CommandPlan ℕ Head
script_behind_plan files script sources raw =
    and_then (named_script_plan files script sources) (checking_plan (sources + named_inputs script) raw)

-- reads the three sheets and then the script, and checks all
abbrev pub head_plan : Option Files → CreateWords → ℕ → CommandPlan ℕ Head
head_plan files words sources =
    and_then (sheets_plan files words.parameters words.calibrations words.containers sources)
    (script_behind_plan files words.script (sources + 3))

-- how many inputs the head is read from
abbrev pub head_inputs : CreateWords → ℕ
head_inputs words = 3 + named_inputs words.script

-- ---- the archive

-- whether the image holds an archive
abbrev pub HasArchiveAs : Image → Bool → Type 0
HasArchiveAs image true = BeginsOpen (image 0)
HasArchiveAs image false = HoldsNone (image 0)

-- so many sources were given, and the making of an archive of this head failed
abbrev pub making_failed : ℕ → Head → Progress
making_failed sources head = record {
  text = [];
  is_whole = true;
  report = unopened None;
  disk = MakingFailed head;
  sources = sources;
  failed = no_failed_calls;
  log = None;
  pending = None;
}

-- so many sources were given, and an archive of this head was made
abbrev pub made : ℕ → Head → Progress
made sources head = record {
  text = [];
  is_whole = true;
  report = read_only None 0;
  disk = Made head;
  sources = sources;
  failed = no_failed_calls;
  log = None;
  pending = None;
}

-- what a making leads to, by whether there was an archive: Exists, or this
abbrev pub after_sought : ℕ → CommandPlan Progress ⊥ → Bool → CommandPlan Progress ⊥
after_sought sources next true = Stop (archive_sought sources) (Some Exists)
after_sought sources next false = next

-- makes the archive of a head after so many sources were given: DiskFault; Exists, where the disk says so; and goes on
abbrev pub making_plan : {D : Type 0} → ℕ → Device D → D → Head → CommandPlan Progress ⊥ → CommandPlan Progress ⊥
making_plan sources device disk head next =
    May OfMemory (nothing_done sources)
    (May OfDisk (making_failed sources head)
    (Question (λ there. IsTrue device.is_transparent → HasArchiveAs (device.reads disk) there)
    (after_sought sources next)))

-- what the making of `create` leads to: Exists, or its line
abbrev pub after_making : ℕ → Head → Bool → CommandPlan Progress ⊥
after_making sources head = after_sought sources (printing_plan (made sources head) (create_line head))

-- makes the archive of a head, and prints its line
abbrev pub new_archive_plan : {D : Type 0} → ℕ → Device D → D → Head → CommandPlan Progress ⊥
new_archive_plan sources device disk head =
    making_plan sources device disk head (printing_plan (made sources head) (create_line head))

-- reads the head of the sheets and a script, and makes its archive
abbrev pub create_plan : {D : Type 0} → Device D → D → Option Files → CreateWords → CommandPlan Progress ⊥
create_plan device disk files words =
    and_then (map_done nothing_done (head_plan files words 0)) (new_archive_plan (head_inputs words) device disk)
