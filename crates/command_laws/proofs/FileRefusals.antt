-- Refusals that don't tell of the outside: neither that a file wasn't read, nor that a dump has a rest, nor that a write of the disk failed.
use Rattle.std.proofs.Common.{◌≡◌, inl, inr, ℕ, ◌-◌, ◌≤◌, List, [], ◌∷◌, length, drop, Bool, true, false, Option, Some, None, refl, sym, subst, arith}
use Rattle.std.specs.Prelude.{Err, codes, nat_lt, option_map, if◌then◌else◌}
use Rattle.asks.specs.declared.ask.Ask.{Ask}
use Rattle.asks.specs.declared.refusal.AskRefusal.{AskRefusal}
use Rattle.asks.specs.declared.refusal.AskRefusal.TheVariants as unanswered
use Rattle.asks.specs.Refusals.{ask_refusal}
use Rattle.refusals.specs.declared.refusal.Refusal.{Refusal}
use Rattle.refusals.specs.declared.refusal.Refusal.TheVariants.{BadPacket, BadSheet, DiskFault, Limit, Missing, NeedsReopen, OutOfMemory, ReadFault, WriteFault}
use Rattle.refusals.specs.declared.refusal.SheetName.TheVariants as sheets
use Rattle.refusals.specs.declared.refusal.Which.TheVariants as which
use Rattle.refusals.specs.Limits.{limit_of}
use Rattle.mdb_items.specs.declared.fault.MdbLimit.{MdbLimit}
use Rattle.mdb_items.specs.declared.fault.MdbLimit.TheVariants as limits
use Rattle.mdb_items.specs.declared.sheet.RawMdb.{RawMdb}
use Rattle.mdb_items.specs.Checks.{or_else}
use Rattle.mdb_items.specs.Database.{Broken, limit_passed}
use Rattle.mdb_model.specs.Sheets.{sheets_database, sheets_fault}
use Rattle.mdb_sheets.specs.Asks.{ask_sheet_fault, ask_sheet_refusal, asks_of, asks_unless}
use Rattle.mdb_sheets.specs.Sheets.{Fields, sheet_of}
use Rattle.history_items.specs.Databases.{database_in}
use Rattle.archive_store.specs.Entries.{Archive}
use Rattle.archive_store.specs.Finding.{refusal_of_ask}
use Rattle.retrieval.specs.AskText.{asks_refusal}
use Rattle.retrieval.specs.Parameter.{broken_rule, limit_of_database, passed_limit, sheets_refusal}
use Rattle.ssql_parse.specs.declared.limits.ScriptQuantity.TheVariants as quantity
use Rattle.ssql_parse.specs.declared.not_a_script.NotAScript.{NotAScript}
use Rattle.ssql_parse.specs.declared.not_a_script.NotAScript.TheVariants as unread
use Rattle.ssql_parse.specs.Limits.{script_limit}
use Rattle.ssql_parse.specs.Parsing.{IsNotAScript}
use Rattle.ssql_types.specs.declared.not_typed.NotTyped.{NotTyped}
use Rattle.ssql_types.specs.declared.not_typed.NotTyped.TheVariants as untyped
use Rattle.ssql_types.specs.declared.place.ScriptPlace.{ScriptPlace}
use Rattle.ssql_types.specs.declared.place.ScriptPlace.TheVariants as places
use Rattle.ssql_types.specs.Typing.{typing_fault}
use Rattle.script_answers.specs.Scripts.{IsScriptAnswer, refusal_of_text, refusal_of_typing}
use Rattle.ask_answers.specs.Asks.{archive_asks_refusal}
use Rattle.archive_commands.specs.Create.{IsHeadAnswer, IsTablesAnswer}
use Rattle.command_plans.specs.Plan.{is_interruption}
use Rattle.command_runs.specs.DumpRest.{bad_kind_of, ending_of_rest}
use Rattle.command_laws.specs.NamedFiles.{IsReadingRefusal}

-- a refusal tells of files, or of a write of the disk that failed
abbrev pub TellsOfOutside : Refusal → Type 0
TellsOfOutside (NeedsReopen faults) = Unit {0}
TellsOfOutside (BadPacket at kind) = Unit {0}
TellsOfOutside (Missing name) = Unit {0}
TellsOfOutside (Limit which.SheetOctets number) = Unit {0}
TellsOfOutside (Limit which.ScriptOctets number) = Unit {0}
TellsOfOutside (Limit which.DumpOctets number) = Unit {0}
TellsOfOutside other = ⊥

pub reading_tells : (refusal : Refusal) → IsReadingRefusal refusal → TellsOfOutside refusal
reading_tells (Missing name) reading = tt
reading_tells (Limit which.SheetOctets number) reading = tt
reading_tells (Limit which.ScriptOctets number) reading = tt
reading_tells (Limit which.DumpOctets number) reading = tt
reading_tells other reading = absurd reading

-- ---- interruptions

pub no_interruption : (refusal : Refusal) → is_interruption refusal ≡ true → TellsOfOutside refusal → ⊥
no_interruption OutOfMemory cut tells = tells
no_interruption ReadFault cut tells = tells
no_interruption WriteFault cut tells = tells
no_interruption DiskFault cut tells = tells
no_interruption (Missing name) cut tells = cc (cut)
no_interruption (NeedsReopen faults) cut tells = cc (cut)
no_interruption (BadPacket at kind) cut tells = cc (cut)
no_interruption (Limit of number) cut tells = cc (cut)
no_interruption other cut tells = tells

-- ---- sheets of a database

pub no_limit : (limit : MdbLimit) (number : ℕ) → TellsOfOutside (Limit (limit_of_database limit) number) → ⊥
no_limit limits.Calibrations number tells = tells
no_limit limits.CalibrationRows number tells = tells
no_limit limits.Parameters number tells = tells
no_limit limits.Containers number tells = tells
no_limit limits.Entries number tells = tells

no_fault : (broken : Option Broken) (passed : Option (MdbLimit × ℕ)) (refusal : Refusal) → or_else (option_map broken_rule broken) (option_map passed_limit passed) ≡ Some refusal → TellsOfOutside refusal → ⊥
no_fault (Some broken) passed refusal is tells = let same : broken_rule broken ≡ refusal = cc (is) in subst TellsOfOutside (sym same) tells
no_fault None (Some passed) refusal is tells = let same : passed_limit passed ≡ refusal = cc (is) in no_limit passed.0 passed.1 (subst TellsOfOutside (sym same) tells)
no_fault None None refusal is tells = absurd (cc (is))

no_sheets : (raw : RawMdb) (refusal : Refusal) → sheets_refusal raw ≡ Some refusal → TellsOfOutside refusal → ⊥
unfolding sheets_refusal
no_sheets raw refusal is tells = no_fault (sheets_fault raw) (limit_passed (sheets_database raw)) refusal is tells

-- ---- the rest of a dump

pub no_ending : (dump rest : List ℕ) (refusal : Refusal) → ending_of_rest dump rest ≡ Some refusal → IsReadingRefusal refusal → ⊥
no_ending dump [] refusal is reading = cc (is)
no_ending dump (octet ∷ rest) refusal is reading =
    let same : BadPacket (length dump - length (octet ∷ rest)) (bad_kind_of octet) ≡ refusal = cc (is) in subst IsReadingRefusal (sym same) reading

-- ---- asks

unless_reported : (o : Option Refusal) (records : List Fields) (refusal : Refusal) → asks_unless o records ≡ Err refusal → o ≡ Some refusal
unless_reported None records refusal is = absurd (cc (is))
unless_reported (Some own) records refusal is = cc (is)

no_sheet_of_asks : (broken : Option (ℕ × ℕ)) (many : Bool) (refusal : Refusal)
    → or_else (option_map (λ (broken : ℕ × ℕ). BadSheet sheets.Asks broken.0 broken.1) broken) (if many then Some (Limit which.Asks (limit_of which.Asks)) else None) ≡ Some refusal → TellsOfOutside refusal → ⊥
no_sheet_of_asks (Some broken) many refusal is tells = let same : BadSheet sheets.Asks broken.0 broken.1 ≡ refusal = cc (is) in subst TellsOfOutside (sym same) tells
no_sheet_of_asks None true refusal is tells = let same : Limit which.Asks (limit_of which.Asks) ≡ refusal = cc (is) in subst TellsOfOutside (sym same) tells
no_sheet_of_asks None false refusal is tells = absurd (cc (is))

pub no_asks_sheet : (octets : List ℕ) (refusal : Refusal) → asks_of octets ≡ Err refusal → TellsOfOutside refusal → ⊥
unfolding asks_of
no_asks_sheet octets refusal is tells =
    let records = sheet_of octets in
    no_sheet_of_asks (ask_sheet_fault records) (nat_lt (limit_of which.Asks) (length (drop 1 records))) refusal (unless_reported (ask_sheet_refusal records) records refusal is) tells

no_ask : (own : AskRefusal) → TellsOfOutside (refusal_of_ask own) → ⊥
no_ask unanswered.UnknownParameter tells = tells
no_ask (unanswered.BadRange from to) tells = tells
no_ask (unanswered.UnknownTable name) tells = tells

pub no_asks : (archive : Archive) (asks : List Ask) (refusal : Refusal) → archive_asks_refusal archive asks ≡ Some refusal → TellsOfOutside refusal → ⊥
no_asks archive [] refusal is tells = absurd (cc (is))
no_asks archive (ask ∷ asks) refusal is tells =
    by (ask_refusal archive.head.tables (database_in archive.head.mdb archive.history) ask) (λ later. no_asks archive asks refusal later tells) is
  where
    by : (o : Option AskRefusal) → (asks_refusal archive.head archive.history asks ≡ Some refusal → ⊥) → or_else (option_map refusal_of_ask o) (asks_refusal archive.head archive.history asks) ≡ Some refusal → ⊥
    by None later own = later own
    by (Some first) later own = let same : refusal_of_ask first ≡ refusal = cc (own) in no_ask first (subst TellsOfOutside (sym same) tells)

-- ---- scripts whose text is within its limit

no_text : (text : List ℕ) (why : NotAScript) → length text ≤ limit_of which.ScriptOctets → IsNotAScript text why → TellsOfOutside (refusal_of_text why) → ⊥
no_text text (unread.Limit quantity.Octets) short long tells = let agree : script_limit quantity.Octets ≡ limit_of which.ScriptOctets = refl in absurd (omega (arith, short, long, agree))
no_text text (unread.Limit quantity.Statements) short passes tells = tells
no_text text (unread.Limit quantity.Depth) short passes tells = tells
no_text text (unread.BadSql at rule) short breaks tells = tells
no_text text unread.OutOfMemory short wanting tells = tells

no_typing : (o : Option NotTyped) (refusal : Refusal) → option_map refusal_of_typing o ≡ Some refusal → TellsOfOutside refusal → ⊥
no_typing None refusal is tells = absurd (cc (is))
no_typing (Some (untyped.BadSql at rule)) refusal is tells = let same : refusal_of_typing (untyped.BadSql at rule) ≡ refusal = cc (is) in subst TellsOfOutside (sym same) tells
no_typing (Some (untyped.UnknownTable name)) refusal is tells = let same : refusal_of_typing (untyped.UnknownTable name) ≡ refusal = cc (is) in subst TellsOfOutside (sym same) tells
no_typing (Some untyped.OutOfMemory) refusal is tells = let same : refusal_of_typing untyped.OutOfMemory ≡ refusal = cc (is) in subst TellsOfOutside (sym same) tells

pub no_script : (place : ScriptPlace) (tables names : List (List ℕ)) (text : List ℕ) (refusal : Refusal) → length text ≤ limit_of which.ScriptOctets → IsScriptAnswer place tables names text (Err refusal)
    → TellsOfOutside refusal → ⊥
no_script place tables names text refusal short (inl ((why, not_one, is), other)) tells = no_text text why short not_one (subst TellsOfOutside is tells)
no_script place tables names text refusal short (inr (script, spelled, is)) tells = no_typing (typing_fault place tables script) refusal is tells

-- ---- the head of an archive

no_tables : (text : List ℕ) (refusal : Refusal) → length text ≤ limit_of which.ScriptOctets → IsTablesAnswer text (Err refusal) → TellsOfOutside refusal → ⊥
no_tables text refusal short (inl answer) tells = no_script places.Create (codes "tm" ∷ []) [] text refusal short answer tells
no_tables text refusal short (inr (script, answer, many, is)) tells = subst TellsOfOutside is tells

pub no_head : (raw : RawMdb) (text : List ℕ) (refusal : Refusal) → length text ≤ limit_of which.ScriptOctets → IsHeadAnswer raw text (Err refusal) → TellsOfOutside refusal → ⊥
no_head raw text refusal short (inl sheets) tells = no_sheets raw refusal sheets tells
no_head raw text refusal short (inr (admitted, tables)) tells = no_tables text refusal short tables tells
