-- A sheet of asks: how a command reads it before all else, checks it over an archive's head, and prints the answers.
use Rattle.std.specs.Prelude.{◌≡◌, ◌⊎◌, ◌<◌, ℕ, ◌+◌, List, [], filter, length, Option, Some, None, Result, Ok, Err}
use Rattle.arch_types.specs.Table.{is_in_time_range}
use Rattle.asks.specs.declared.ask.Ask.{Ask}
use Rattle.refusals.specs.declared.refusal.Refusal.{Refusal}
use Rattle.refusals.specs.declared.refusal.Refusal.TheVariants.{OutOfMemory, WriteFault}
use Rattle.archive_store.specs.Entries.{Archive, FilledArchive}
use Rattle.archive_store.specs.Plans.{late_rows_of_range}
use Rattle.archive_store.specs.StoreView.{StoreView}
use Rattle.command_plans.specs.Plan.{OfMemory, CommandPlan, Return, Stop, May, Question, and_then, map_done}
use Rattle.line_buffer.specs.Printed.{IsCutOff, IsPartPrinted, IsWritten}
use Rattle.mdb_sheets.specs.Plans.{ask_sheet_plan}
use Rattle.outer_traits.specs.Outside.{Files}
use Rattle.outer_traits.specs.States.{OutputState}
use Rattle.retrieval.specs.AskText.{ask_text, asks_refusal, asks_text}
use Rattle.retrieval.specs.declared.found_asks.FoundAsk.{FoundAsk}
use Rattle.retrieval.specs.declared.found_asks.FoundAsk.TheVariants as found_ask
use Rattle.command_runs.specs.Command.{Progress, nothing_done}

-- ---- the sheet is read

-- so many sources were given before
abbrev pub with_sources : ℕ → Progress → Progress
with_sources before s = record s { sources = before + s.sources }

-- reads a sheet of asks, where one is given, and goes on with it; where none is there are no asks
abbrev pub asked_plan : Option Files → Option (List ℕ) → (Result (List Ask) Refusal → CommandPlan Progress ⊥)
    → CommandPlan Progress ⊥
asked_plan files None next = next (Ok [])
asked_plan files (Some name) next =
    and_then (map_done nothing_done (ask_sheet_plan files name 0)) (λ asks. map_done (with_sources 1) (next asks))

-- ---- the asks are checked

-- what it leads to that an ask is refused, or none is
abbrev pub after_asks_check : Progress → List Ask → Option Refusal → CommandPlan Progress (List Ask)
after_asks_check s asks None = Return asks
after_asks_check s asks (Some refusal) = Stop s (Some refusal)

-- the refusal of the first ask that an archive doesn't answer
abbrev pub archive_asks_refusal : Archive → List Ask → Option Refusal
archive_asks_refusal archive asks = asks_refusal archive.head archive.history asks

-- gives the asks of a sheet that an archive can answer: the refusal of the sheet, if it has one; else that of the
-- first ask that is refused, for which memory may be wanting
abbrev pub asks_check_plan : Progress → Archive → Result (List Ask) Refusal → CommandPlan Progress (List Ask)
asks_check_plan s archive (Ok asks) =
    May OfMemory s (Question (λ found. found ≡ archive_asks_refusal archive asks) (after_asks_check s asks))
asks_check_plan s archive (Err refusal) = Stop s (Some refusal)

-- the asks of a sheet are these, and an archive can answer them
abbrev pub AreAnswerable : Archive → Result (List Ask) Refusal → List Ask → Type 0
AreAnswerable archive sheet asks = (sheet ≡ Ok asks) × (archive_asks_refusal archive asks ≡ None)

-- a sheet of asks is refused over an archive: by its own refusal, or that of its first ask that is refused; or there
-- was no memory to say so
abbrev pub AreRefused : Archive → Result (List Ask) Refusal → Refusal → Type 0
AreRefused archive (Ok asks) refusal = (archive_asks_refusal archive asks ≡ Some refusal) ⊎ (refusal ≡ OutOfMemory)
AreRefused archive (Err refused) refusal = refusal ≡ refused

-- ---- the answers are printed

-- the answer of an archive to the ask with a number
abbrev pub archive_ask_text : FilledArchive → ℕ → Ask → List ℕ
archive_ask_text filled k ask =
    ask_text filled.plain.head filled.plain.exponent filled.plain.history filled.fillings k ask

-- the answers of an archive to asks, numbered from k on
abbrev pub archive_asks_text : FilledArchive → ℕ → List Ask → List ℕ
archive_asks_text filled k asks =
    asks_text filled.plain.head filled.plain.exponent filled.plain.history filled.fillings k asks

-- the most steps that an answer takes: one for each late row in the range of a request, and none for a replay
abbrev pub steps_of_ask : {D : Type 0} → StoreView D → FoundAsk → ℕ
steps_of_ask store (found_ask.Values asked) =
    length (filter (is_in_time_range asked.request.from asked.request.to)
    (late_rows_of_range store.exponent store.history store.fills asked.request.from asked.request.to))
steps_of_ask store (found_ask.Replay asked) = 0

-- how a text is printed in which asks are answered: all of it, or a prefix; memory may be wanting where there are asks
abbrev pub ArePrinted : List Ask → Option Refusal → OutputState → OutputState → List ℕ → Type 0
ArePrinted asks None before after text = IsWritten before after text
ArePrinted asks (Some WriteFault) before after text = IsCutOff before after text
ArePrinted asks (Some OutOfMemory) before after text = (0 < length asks) × IsPartPrinted before after text
ArePrinted asks (Some other) before after text = ⊥
