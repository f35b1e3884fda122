-- A refusal says that a file wasn't read only where one wasn't: of `query`, of `create`.
use Rattle.std.proofs.Common.{◌≡◌, inl, inr, ℕ, ℤ, ◌+◌, ◌≤◌, List, [], ◌∷◌, length, Bool, true, false, Option, Some, None, refl, sym, ap, subst, arith}
use Rattle.std.specs.Prelude.{IsTrue, Result, Ok, Err}
use Rattle.arch_disk.specs.Disk.{Device}
use Rattle.asks.specs.declared.ask.Ask.{Ask}
use Rattle.mdb_items.specs.declared.sheet.RawMdb.{RawMdb}
use Rattle.mdb_sheets.specs.Asks.{asks_of}
use Rattle.mdb_sheets.specs.Plans.{sheets_plan}
use Rattle.refusals.specs.declared.refusal.Refusal.{Refusal}
use Rattle.refusals.specs.declared.refusal.Refusal.TheVariants.{Damaged, DiskFault, Exists, NoArchive, OutOfMemory, WriteFault}
use Rattle.refusals.specs.declared.refusal.Which.{Which}
use Rattle.refusals.specs.declared.refusal.Which.TheVariants.{ScriptOctets, SheetOctets}
use Rattle.refusals.specs.Limits.{limit_of}
use Rattle.outer_traits.specs.Outside.{Files}
use Rattle.ssql_types.specs.declared.place.ScriptPlace.TheVariants as ScriptPlace
use Rattle.ssql_types.specs.declared.statement.TypedStatement.{TypedStatement}
use Rattle.archive_store.specs.Head.{Head}
use Rattle.archive_store.specs.Entries.{FilledArchive}
use Rattle.script_answers.specs.Scripts.{IsScriptAnswer, after_answer}
use Rattle.script_answers.specs.Statements.{packet_names, statements_text}
use Rattle.command_plans.specs.Plan.{CommandPlan, EachEnd, Way, and_then, is_interruption, map_done}
use Rattle.command_plans.proofs.Plans.{each_end, end_of}
use Rattle.command_words.specs.Job.{Create, CreateWords, Query, Sql}
use Rattle.command_runs.specs.declared.report.Report.{Report}
use Rattle.command_runs.specs.Command.{ArchiveFound, DamageFound, HasEffects, NoneFound, OpeningResult, Progress, after_opening, archive_opened, nothing_done, opening_plan}
use Rattle.ask_answers.specs.Asks.{after_asks_check, archive_asks_refusal, archive_asks_text, with_sources}
use Rattle.query_commands.specs.Query.{answering_plan, answers_plan, archive_asks_plan, query_plan}
use Rattle.query_commands.specs.Sql.{archive_text_plan, sql_plan, statements_plan, text_plan}
use Rattle.archive_commands.specs.Create.{IsHeadAnswer, after_making, checking_plan, create_plan, head_inputs, named_inputs, named_script_plan, new_archive_plan, script_behind_plan}
use Rattle.command_laws.specs.Calls.{Call, IsRun, effects}
use Rattle.command_laws.specs.Create.{create_files}
use Rattle.command_laws.specs.NamedFiles.{HasAsksSheet, HasFile, HasScript, HasSheets, IsFirstUnread, IsReadingRefusal, IsUnreadFor, named_file}
use Rattle.command_laws.proofs.FileRefusals.{TellsOfOutside, no_asks, no_asks_sheet, no_head, no_interruption, no_script, reading_tells}
use Rattle.command_laws.proofs.Pages.{printed_left}
use Rattle.command_laws.proofs.Readings.{IsUnreadAmong, among_all, at_first, behind_it, each_behind, each_read, each_sheets, sheet_files}
use Rattle.command_laws.proofs.Runs.{by_job, none_or_some, same_refusal}
use Rattle.command_laws.proofs.Ways.{each_in_turn}

-- where a call's refusal says that a file wasn't read, the first of these that wasn't is why
abbrev pub IsOnlyUnread : {D : Type 0} → Call D → Files → List (Which × List ℕ) → Type 0
IsOnlyUnread e files named = (refusal : Refusal) → e.report.refusal ≡ Some refusal → IsReadingRefusal refusal → IsFirstUnread files named refusal

-- of a single file
pub of_one : (files : Files) (which : Which) (name : List ℕ) (refusal : Refusal) → IsFirstUnread files ((which, name) ∷ []) refusal → IsUnreadFor files which name refusal
of_one files which name refusal (inl unread) = unread
of_one files which name refusal (inr others) = absurd others.2

module _ {D : Type 0} (device : Device D) (e : Call D) (files : Files) (named : List (Which × List ℕ)) where
  -- its refusal is another,
  pub other : (refusal : Refusal) → e.report.refusal ≡ Some refusal → (TellsOfOutside refusal → ⊥) → IsOnlyUnread e files named
  other refusal is apart = λ reported said reading. absurd (apart (reading_tells refusal (subst IsReadingRefusal (same_refusal e.report.refusal reported refusal said is) reading)))

  pub cut : (refusal : Refusal) → e.report.refusal ≡ Some refusal → is_interruption refusal ≡ true → IsOnlyUnread e files named
  cut refusal is off = other refusal is (no_interruption refusal off)

  -- or there's none,
  pub none : e.report.refusal ≡ None → IsOnlyUnread e files named
  none is = λ reported said reading. none_or_some e.report.refusal reported said is

  -- or one wasn't read
  pub unread : (refusal : Refusal) → e.report.refusal ≡ Some refusal → IsUnreadAmong files named refusal → IsOnlyUnread e files named
  unread refusal is (inl first) = λ reported said reading. subst (IsFirstUnread files named) (same_refusal e.report.refusal refusal reported is said) first
  unread refusal is (inr off) = cut refusal is off

-- the text of a script is short
pub script_short : (files : Files) (name : Option (List ℕ)) (text : List ℕ) → HasScript files name text → length text ≤ limit_of ScriptOctets
script_short files None text none = subst (λ (t : List ℕ). length t ≤ limit_of ScriptOctets) (sym none) (omega arith)
script_short files (Some name) text has = has.short

-- ---- `query --ask`

module _ {D : Type 0} (device : Device D) (e : Call D) (files : Files) (name : List ℕ) where
  abbrev Sheet : List (Which × List ℕ)
  Sheet = (SheetOctets, name) ∷ []

  abbrev OfSheet : Type 0
  OfSheet = IsOnlyUnread e files Sheet

  abbrev Asked : Way Progress ⊥ → Type 0
  Asked way = HasEffects device (effects e) way → OfSheet

  opening_asked : (held : OpeningResult) → EachEnd Asked (after_opening 0 held)
  opening_asked NoneFound = λ did. other device e files Sheet NoArchive (ap (λ (r : Report). r.refusal) did.report) (λ tells. tells)
  opening_asked (DamageFound file at) = λ did. other device e files Sheet (Damaged file at) (ap (λ (r : Report). r.refusal) did.report) (λ tells. tells)
  opening_asked (ArchiveFound filled) = tt

  abbrev Tells : Type 0
  Tells = IsTrue device.is_transparent

  checked_asked : Tells → (asks : List Ask) (filled : FilledArchive) (found : Option Refusal) → found ≡ archive_asks_refusal filled.plain asks
      → EachEnd Asked (and_then (after_asks_check (archive_opened 0 filled) asks found) (answers_plan Tells filled))
  checked_asked tells asks filled None is =
      printed_left Asked Tells tells (archive_opened 0 filled) (archive_asks_text filled 1 asks)
      (λ did. cut device e files Sheet OutOfMemory (ap (λ (r : Report). r.refusal) did.report) refl)
      (λ did. cut device e files Sheet DiskFault (ap (λ (r : Report). r.refusal) did.report) refl)
      (λ did. cut device e files Sheet WriteFault (ap (λ (r : Report). r.refusal) did.report) refl)
      (λ did. none device e files Sheet (ap (λ (r : Report). r.refusal) did.report))
  checked_asked tells asks filled (Some refusal) is = λ did. other device e files Sheet refusal (ap (λ (r : Report). r.refusal) did.report) (no_asks filled.plain asks refusal (sym is))

  answering_asked : Tells → (sheet : Result (List Ask) Refusal) → HasAsksSheet files name sheet → (filled : FilledArchive) → EachEnd Asked (answering_plan Tells sheet filled)
  answering_asked tells (Err refusal) has filled = λ did. other device e files Sheet refusal (ap (λ (r : Report). r.refusal) did.report) (no_asks_sheet has.octets refusal (sym has.sheet_is))
  answering_asked tells (Ok asks) has filled = (λ did. cut device e files Sheet OutOfMemory (ap (λ (r : Report). r.refusal) did.report) refl, λ found is. checked_asked tells asks filled found is)

  archive_asked : Tells → (sheet : Result (List Ask) Refusal) → HasAsksSheet files name sheet → EachEnd Asked (archive_asks_plan device e.disk sheet)
  archive_asked tells sheet has = (
    λ did. cut device e files Sheet OutOfMemory (ap (λ (r : Report). r.refusal) did.report) refl,
    each_end Asked (opening_plan 0 device e.disk) (answering_plan Tells sheet) (
      λ did. cut device e files Sheet OutOfMemory (ap (λ (r : Report). r.refusal) did.report) refl,
      (λ did. cut device e files Sheet DiskFault (ap (λ (r : Report). r.refusal) did.report) refl, λ held h. opening_asked held),
    ) (λ filled. answering_asked tells sheet has filled),
  )

  each_asked : Tells → EachEnd Asked (query_plan device e.disk (Some files) name)
  each_asked tells = each_read device e OfSheet files SheetOctets (λ octets. asks_of octets) name 0 (λ (sheet : Result (List Ask) Refusal). map_done (with_sources 1) (archive_asks_plan device e.disk sheet))
      (λ refusal is cause. unread device e files Sheet refusal (ap (λ (r : Report). r.refusal) is.report) (at_first files SheetOctets name [] refusal cause))
      (λ octets file. each_behind device e OfSheet files 1 (archive_asks_plan device e.disk (asks_of octets)) (archive_asked tells (asks_of octets) (record { octets = octets; file = file; sheet_is = refl })))

  pub only_asked : (clock : Option ℤ) → IsRun device e files clock (Query name) → OfSheet
  only_asked clock run = by_job device e files clock (Query name) run OfSheet (λ did. cut device e files Sheet OutOfMemory (ap (λ (r : Report). r.refusal) did.report) refl)
      (λ way allows end. end_of Asked (query_plan device e.disk (Some files) name) way (each_asked run.transparent) allows end.did)

-- ---- `query --sql`

module _ {D : Type 0} (device : Device D) (e : Call D) (files : Files) (name : List ℕ) where
  abbrev Script : List (Which × List ℕ)
  Script = (ScriptOctets, name) ∷ []

  abbrev OfScript : Type 0
  OfScript = IsOnlyUnread e files Script

  abbrev Stated : Way Progress ⊥ → Type 0
  Stated way = HasEffects device (effects e) way → OfScript

  opening_stated : (held : OpeningResult) → EachEnd Stated (after_opening 1 held)
  opening_stated NoneFound = λ did. other device e files Script NoArchive (ap (λ (r : Report). r.refusal) did.report) (λ tells. tells)
  opening_stated (DamageFound file at) = λ did. other device e files Script (Damaged file at) (ap (λ (r : Report). r.refusal) did.report) (λ tells. tells)
  opening_stated (ArchiveFound filled) = tt

  abbrev Told : Type 0
  Told = IsTrue device.is_transparent

  module _ (told : Told) (text : List ℕ) (file : HasFile files ScriptOctets name text) where
    answer_stated : (filled : FilledArchive) (answer : Result (List TypedStatement) Refusal)
        → IsScriptAnswer ScriptPlace.Sql filled.plain.head.tables (packet_names filled.plain.head filled.plain.history) text answer
        → EachEnd Stated (and_then (after_answer (archive_opened 1 filled) answer) (statements_plan Told filled))
    answer_stated filled (Err refusal) is = λ did. other device e files Script refusal (ap (λ (r : Report). r.refusal) did.report)
        (no_script ScriptPlace.Sql filled.plain.head.tables (packet_names filled.plain.head filled.plain.history) text refusal file.short is)
    answer_stated filled (Ok statements) is =
        printed_left Stated Told told (archive_opened 1 filled) (statements_text filled.plain statements)
        (λ did. cut device e files Script OutOfMemory (ap (λ (r : Report). r.refusal) did.report) refl)
        (λ did. cut device e files Script DiskFault (ap (λ (r : Report). r.refusal) did.report) refl)
        (λ did. cut device e files Script WriteFault (ap (λ (r : Report). r.refusal) did.report) refl)
        (λ did. none device e files Script (ap (λ (r : Report). r.refusal) did.report))

    archive_stated : EachEnd Stated (archive_text_plan device e.disk text)
    archive_stated = (
      λ did. cut device e files Script OutOfMemory (ap (λ (r : Report). r.refusal) did.report) refl,
      each_end Stated (opening_plan 1 device e.disk) (text_plan Told text) (
        λ did. cut device e files Script OutOfMemory (ap (λ (r : Report). r.refusal) did.report) refl,
        (λ did. cut device e files Script DiskFault (ap (λ (r : Report). r.refusal) did.report) refl, λ held h. opening_stated held),
      ) (λ filled. (λ did. cut device e files Script OutOfMemory (ap (λ (r : Report). r.refusal) did.report) refl, λ answer is. answer_stated filled answer is)),
    )

  each_stated : Told → EachEnd Stated (sql_plan device e.disk (Some files) name)
  each_stated told = each_read device e OfScript files ScriptOctets (λ octets. octets) name 0 (archive_text_plan device e.disk)
      (λ refusal is cause. unread device e files Script refusal (ap (λ (r : Report). r.refusal) is.report) (at_first files ScriptOctets name [] refusal cause)) (archive_stated told)

  pub only_stated : (clock : Option ℤ) → IsRun device e files clock (Sql name) → OfScript
  only_stated clock run = by_job device e files clock (Sql name) run OfScript (λ did. cut device e files Script OutOfMemory (ap (λ (r : Report). r.refusal) did.report) refl)
      (λ way allows end. end_of Stated (sql_plan device e.disk (Some files) name) way (each_stated run.transparent) allows end.did)

-- ---- `create`

module _ {D : Type 0} (device : Device D) (e : Call D) (files : Files) (words : CreateWords) where
  abbrev All : List (Which × List ℕ)
  All = create_files words

  abbrev OfAll : Type 0
  OfAll = IsOnlyUnread e files All

  abbrev Makes : Way Progress ⊥ → Type 0
  Makes way = HasEffects device (effects e) way → OfAll

  making_only : (head : Head) (there : Bool) → EachEnd Makes (after_making (head_inputs words) head there)
  making_only head true = λ did. other device e files All Exists (ap (λ (r : Report). r.refusal) did.report) (λ tells. tells)
  making_only head false = (λ did. cut device e files All WriteFault (ap (λ (r : Report). r.refusal) did.report) refl, λ did. none device e files All (ap (λ (r : Report). r.refusal) did.report))

  archive_only : (head : Head) → EachEnd Makes (new_archive_plan (head_inputs words) device e.disk head)
  archive_only head = (
    λ did. cut device e files All OutOfMemory (ap (λ (r : Report). r.refusal) did.report) refl,
    (λ did. cut device e files All DiskFault (ap (λ (r : Report). r.refusal) did.report) refl, λ there h. making_only head there),
  )

  abbrev making : Head → CommandPlan Progress ⊥
  making = new_archive_plan (head_inputs words) device e.disk

  abbrev checking : RawMdb → List ℕ → CommandPlan Progress ⊥
  checking raw text = and_then (map_done nothing_done (checking_plan (3 + named_inputs words.script) raw text)) making

  abbrev behind_sheets : RawMdb → CommandPlan Progress ⊥
  behind_sheets raw = and_then (map_done nothing_done (script_behind_plan (Some files) words.script 3 raw)) making

  answer_only : (raw : RawMdb) (text : List ℕ) → length text ≤ limit_of ScriptOctets → (answer : Result Head Refusal) → IsHeadAnswer raw text answer
      → EachEnd Makes (and_then (map_done nothing_done (after_answer (3 + named_inputs words.script) answer)) making)
  answer_only raw text short (Ok head) gives = archive_only head
  answer_only raw text short (Err refusal) gives = λ did. other device e files All refusal (ap (λ (r : Report). r.refusal) did.report) (no_head raw text refusal short gives)

  checking_only : (raw : RawMdb) (text : List ℕ) → HasScript files words.script text → EachEnd Makes (checking raw text)
  checking_only raw text has =
      (λ did. cut device e files All OutOfMemory (ap (λ (r : Report). r.refusal) did.report) refl, λ answer gives. answer_only raw text (script_short files words.script text has) answer gives)

  script_only : (name : Option (List ℕ)) (next : List ℕ → CommandPlan Progress ⊥) → ((refusal : Refusal) → IsUnreadAmong files (named_file ScriptOctets name) refusal → IsUnreadAmong files All refusal)
      → ((text : List ℕ) → HasScript files name text → EachEnd Makes (next text)) → EachEnd Makes (and_then (map_done nothing_done (named_script_plan (Some files) name 3)) next)
  script_only None next among then_on = then_on [] refl
  script_only (Some name) next among then_on = each_read device e OfAll files ScriptOctets (λ octets. octets) name 3 next
      (λ refusal is cause. unread device e files All refusal (ap (λ (r : Report). r.refusal) is.report) (among refusal (at_first files ScriptOctets name [] refusal cause))) (λ octets file. then_on octets file)

  behind_three : {raw : RawMdb} → HasSheets files words.parameters words.calibrations words.containers raw → (refusal : Refusal) → IsUnreadAmong files (named_file ScriptOctets words.script) refusal
      → IsUnreadAmong files All refusal
  behind_three sheets refusal cause =
      behind_it files SheetOctets words.parameters sheets.first.octets ((SheetOctets, words.calibrations) ∷ (SheetOctets, words.containers) ∷ named_file ScriptOctets words.script) refusal sheets.first.file
      (behind_it files SheetOctets words.calibrations sheets.second.octets ((SheetOctets, words.containers) ∷ named_file ScriptOctets words.script) refusal sheets.second.file
      (behind_it files SheetOctets words.containers sheets.third.octets (named_file ScriptOctets words.script) refusal sheets.third.file cause))

  each_made : EachEnd Makes (create_plan device e.disk (Some files) words)
  each_made = each_in_turn nothing_done Makes (sheets_plan (Some files) words.parameters words.calibrations words.containers 0) (script_behind_plan (Some files) words.script 3) making
      (each_sheets device e OfAll files words.parameters words.calibrations words.containers 0 behind_sheets
      (λ refusal is cause. unread device e files All refusal (ap (λ (r : Report). r.refusal) is.report)
      (among_all files (sheet_files words.parameters words.calibrations words.containers) (named_file ScriptOctets words.script) refusal cause))
      (λ raw sheets. each_in_turn nothing_done Makes (named_script_plan (Some files) words.script 3) (checking_plan (3 + named_inputs words.script) raw) making
      (script_only words.script (checking raw) (λ refusal cause. behind_three sheets refusal cause) (λ text script. checking_only raw text script))))

  pub only_made : (clock : Option ℤ) → IsRun device e files clock (Create words) → OfAll
  only_made clock run = by_job device e files clock (Create words) run OfAll (λ did. cut device e files All OutOfMemory (ap (λ (r : Report). r.refusal) did.report) refl)
      (λ way allows end. end_of Makes (create_plan device e.disk (Some files) words) way each_made allows end.did)
