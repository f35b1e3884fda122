-- What `load` prints and reports.
use Rattle.std.specs.Prelude.{◌-◌, ℕ, List, ◌++◌, length, codes, decimal, None}
use Rattle.asks.specs.declared.ask.Ask.{Ask}
use Rattle.history_items.specs.Items.{rows_in}
use Rattle.archive_store.specs.Entries.{Archive}
use Rattle.command_runs.specs.declared.report.Report.{Report}
use Rattle.live_session.specs.Outcome.{JobsOutcome, counts_of}
use Rattle.ask_answers.specs.Collected.{collected_answers_text}
use Rattle.command_runs.specs.Report.{loaded}

-- the last line of a load: how many packets there were, how many rows are new, were there or are of idle packets, and
-- how many rows the history has
abbrev pub load_line : ℕ → ℕ → ℕ → ℕ → ℕ → List ℕ
load_line packets new duplicates idle rows =
    (codes "load packets " ++ decimal packets ++ codes " new " ++ decimal new)
    ++ (codes " duplicates " ++ decimal duplicates ++ codes " idle " ++ decimal idle)
    ++ (codes " rows " ++ decimal rows ++ codes "\n")

-- The line of a load that ingested all packets of its dumps, behind so many items. The rows that they are, one for each
-- packet and table, are new or were there.
abbrev pub line_of_load : ℕ → JobsOutcome → List ℕ
line_of_load before outcome =
    let counts = counts_of outcome.ends in
    let new = length outcome.reached - before in
    load_line counts.packets new (counts.routed - new) counts.idle (length (rows_in outcome.reached))

-- all that such a load prints: the answers that its jobs gave to asks of an archive, and its line
abbrev pub load_text : Archive → List Ask → JobsOutcome → List ℕ
load_text archive asks outcome =
    collected_answers_text archive 1 asks outcome.answers ++ line_of_load (length archive.history) outcome

-- the report of such a load, whose text was printed
abbrev pub whole_report : ℕ → JobsOutcome → Report
whole_report before outcome =
    let counts = counts_of outcome.ends in
    loaded None None before (length outcome.reached) counts.packets
    (counts.routed - (length outcome.reached - before)) counts.idle
