-- The command `load`.
use Rattle.std.specs.Prelude.{◌≡◌, ◌-◌, ℕ, ℤ, List, [], ◌∷◌, length, true, false, Option, Some, None, Result}
use Rattle.arch_disk.specs.Disk.{Device}
use Rattle.asks.specs.declared.ask.Ask.{Ask}
use Rattle.refusals.specs.declared.refusal.Refusal.{Refusal}
use Rattle.outer_traits.specs.Outside.{Files}
use Rattle.history_items.specs.declared.fills.Addition.{Addition}
use Rattle.archive_store.specs.Entries.{Archive, FilledArchive}
use Rattle.command_plans.specs.Plan.{OfMemory, OfOutput, OfDisk, with_failed_call, CommandPlan, Stop, May, Question, Choose, and_then, map_done}
use Rattle.command_plans.specs.Sources.{opening_all_plan}
use Rattle.command_words.specs.Job.{LoadWords}
use Rattle.command_words.specs.LoadLimits.{links_refusal, load_limit_refusal}
use Rattle.ask_answers.specs.Asks.{asked_plan, asks_check_plan, with_sources}
use Rattle.command_runs.specs.ArchiveWork.{opened_plan}
use Rattle.command_runs.specs.Command.{Progress, Extended, archive_opened, nothing_done}
use Rattle.command_runs.specs.FillingPlan.{all_filled, filling_behind_plan, filling_plan}
use Rattle.command_runs.specs.Reading.{OnPages, RowsPlace}
use Rattle.command_runs.specs.Report.{loaded}
use Rattle.script_answers.specs.Scripts.{after_answer, script_octets_plan}
use Rattle.live_asks.specs.LiveAsks.{DiskFacts, disk_facts}
use Rattle.live_session.specs.declared.reported.ReportedRefusal.{ReportedRefusal}
use Rattle.live_session.specs.Outcome.{IsJobsOutcome, JobsOutcome, reported_of}
use Rattle.stream_graph.specs.declared.statement.RouteStatement.{RouteStatement}
use Rattle.load_command.specs.LoadLine.{load_text, whole_report}
use Rattle.load_command.specs.Loading.{IsSettingOf, IsRouteAnswer, LoadAsked, failed_reads, dumps_of, load_asked, log_behind, outcome_of_failure, pending_behind}

-- ---- what was done

-- the history of an archive was extended as far as the jobs of so many dumps came; the report may name a link
abbrev pub history_extended : ℕ → FilledArchive → Option ℕ → JobsOutcome → Progress
history_extended dumps filled link outcome = record {
  text = [];
  is_whole = true;
  report = loaded None link (length filled.plain.history) (length outcome.reached) 0 0 0;
  disk = Extended filled outcome.reached;
  sources = dumps;
  failed = failed_reads outcome;
  log = None;
  pending = None;
}

-- it was, and a job was refused, of which this is reported; where by the log's limit, the log reaches it with a record
-- for each row that came
abbrev pub job_refused : ℕ → FilledArchive → JobsOutcome → ReportedRefusal → Progress
job_refused dumps filled outcome reported = record (history_extended dumps filled reported.link outcome) {
  log = log_behind reported.refusal (length outcome.reached - length filled.plain.history);
}

-- it was, until a write of the disk failed that was to add this; where a job was refused because of that write, the
-- disk had failed so often by then, and where by the log's limit, the log reaches it as above
abbrev pub write_failed : ℕ → FilledArchive → JobsOutcome → ReportedRefusal → Addition → Progress
write_failed dumps filled outcome reported addition = record (job_refused dumps filled outcome reported) {
  disk = outcome_of_failure filled outcome.reached addition;
  failed = with_failed_call OfDisk (failed_reads outcome);
  pending = pending_behind reported.refusal;
}

-- ---- behind the jobs

-- memory may be wanting while answers are printed, if there are any
abbrev pub answering_asks_plan : List Ask → Progress → CommandPlan Progress ⊥ → CommandPlan Progress ⊥
answering_asks_plan [] s plan = plan
answering_asks_plan (ask ∷ asks) s plan = May OfMemory s plan

-- prints the answers that the jobs gave to asks, in the asks' order, and then the line of a load; its counts are
-- reported once all is printed
abbrev pub load_printing_plan : ℕ → FilledArchive → List Ask → JobsOutcome → CommandPlan Progress ⊥
load_printing_plan dumps filled asks outcome =
    let text = load_text filled.plain asks outcome in
    let done = all_filled filled outcome.reached (history_extended dumps filled None outcome) in
    let printing = record done { text = text; is_whole = false } in
    answering_asks_plan asks printing
    (May OfOutput printing
    (Stop (record done { text = text; report = whole_report (length filled.plain.history) outcome }) None))

-- What the jobs lead to, by what is reported of them and what a failed write was to add. Where none was refused, what
-- is late still is filled, and this follows. Where one was, that is reported, whatever the filling comes to. Behind a
-- write that failed no fill comes: it is taken back last.
abbrev pub after_session : RowsPlace → ℕ → FilledArchive → JobsOutcome → CommandPlan Progress ⊥ → Option ReportedRefusal
    → Option Addition → CommandPlan Progress ⊥
after_session rows sources filled outcome next None failed =
    filling_plan rows (λ full. Unit {0}) filled outcome.reached (history_extended sources filled None outcome) next
after_session rows sources filled outcome next (Some reported) None =
    filling_behind_plan filled outcome.reached (job_refused sources filled outcome reported) reported.refusal
after_session rows sources filled outcome next (Some reported) (Some addition) =
    Stop (write_failed sources filled outcome reported addition) (Some reported.refusal)

-- what the jobs of a load lead to: where none was refused and all is filled, all is printed; `Tells` says that the disk
-- tells what it holds
abbrev pub after_jobs : Type 0 → ℕ → FilledArchive → List Ask → JobsOutcome → Option ReportedRefusal → Option Addition
    → CommandPlan Progress ⊥
after_jobs Tells dumps filled asks outcome =
    after_session (OnPages Tells) dumps filled outcome (load_printing_plan dumps filled asks outcome)

-- ---- the jobs

-- Runs the jobs of links, readers and fillers over an archive that was opened, at the clock's moment: what they come to
-- is chosen by the turns that they take. Of its disk this is known, by how many of its rows stand in runs.
abbrev pub jobs_plan : (ℕ → DiskFacts) → Option Files → Option ℤ → LoadWords → FilledArchive → List RouteStatement
    → List Ask → CommandPlan Progress ⊥
jobs_plan facts files next words filled route asks =
    Choose (λ (sealed : ℕ). Unit {0}) (λ sealed.
    Choose (IsSettingOf filled.plain next route asks) (λ setting.
    Choose (IsJobsOutcome (facts sealed) filled setting words.link (dumps_of files words.dumps)) (λ outcome.
    after_jobs (facts sealed).known (length words.dumps) filled asks outcome
    (reported_of words.link outcome.ends outcome.others) outcome.failed)))

-- ---- before them

-- gives the route of a load into an archive: BadSql of its script's first wrong token, UnknownTable, or a limit; memory
-- may be wanting
abbrev pub route_plan : Progress → Archive → Option (List ℕ) → CommandPlan Progress (List RouteStatement)
route_plan s archive text = May OfMemory s (Question (IsRouteAnswer archive text) (after_answer s))

-- what a route leads to: the asks are checked, and the jobs run
abbrev pub after_route : (ℕ → DiskFacts) → Option Files → Option ℤ → LoadWords → Result (List Ask) Refusal
    → FilledArchive → List RouteStatement → CommandPlan Progress ⊥
after_route facts files next words asks filled route =
    and_then (asks_check_plan (archive_opened (length words.dumps) filled) filled.plain asks)
    (jobs_plan facts files next words filled route)

-- what the number of the last link leads to: the text of the route is looked at
abbrev pub after_links : (ℕ → DiskFacts) → Option Files → Option ℤ → LoadAsked → FilledArchive → Option Refusal
    → CommandPlan Progress ⊥
after_links facts files next asked filled None =
    and_then (route_plan (archive_opened (length asked.words.dumps) filled) filled.plain asked.text)
    (after_route facts files next asked.words asked.sheet filled)
after_links facts files next asked filled (Some refusal) =
    Stop (archive_opened (length asked.words.dumps) filled) (Some refusal)

-- loads dumps that were opened into an archive that was: Limit Links; the refusal of the route; that of the asks; that
-- of the first job by number that is refused
abbrev pub loading_plan : (ℕ → DiskFacts) → Option Files → Option ℤ → LoadAsked → FilledArchive → CommandPlan Progress ⊥
loading_plan facts files next asked filled =
    Question (λ found. found ≡ links_refusal asked.words) (after_links facts files next asked filled)

-- opens the dumps in their order and then the archive, looks at the text of a route and checks the asks of a sheet,
-- which were read, runs the jobs, and prints the answers and what became of the packets
abbrev pub archive_load_plan : {D : Type 0} → Device D → D → Option Files → Option ℤ → LoadWords → Option (List ℕ)
    → Result (List Ask) Refusal → CommandPlan Progress ⊥
archive_load_plan device disk files next words text asks =
    and_then (map_done nothing_done (opening_all_plan files words.dumps 0))
    (λ done. opened_plan (length words.dumps) device disk
    (λ known. loading_plan (disk_facts device disk) files next (load_asked words text asks)))

-- reads the script of a route, where one is given, and goes on with its text; where none is there is none
abbrev pub routed_plan : Option Files → Option (List ℕ) → (Option (List ℕ) → CommandPlan Progress ⊥)
    → CommandPlan Progress ⊥
routed_plan files None next = next None
routed_plan files (Some name) next =
    and_then (map_done nothing_done (script_octets_plan files name 0))
    (λ text. map_done (with_sources 1) (next (Some text)))

-- reads the sheet of asks, where one is given, and loads the dumps by the route of a text
abbrev pub routed_load_plan : {D : Type 0} → Device D → D → Option Files → Option ℤ → LoadWords → Option (List ℕ)
    → CommandPlan Progress ⊥
routed_load_plan device disk files next words text =
    asked_plan files words.asks (archive_load_plan device disk files next words text)

-- reads the script of a route, where one is given, then the sheet of asks, and loads the dumps
abbrev pub read_load_plan : {D : Type 0} → Device D → D → Option Files → Option ℤ → LoadWords → CommandPlan Progress ⊥
read_load_plan device disk files next words =
    routed_plan files words.route (routed_load_plan device disk files next words)

-- what it leads to that there are too many dumps or fillers, or aren't
abbrev pub after_limits : {D : Type 0} → Device D → D → Option Files → Option ℤ → LoadWords → Option Refusal
    → CommandPlan Progress ⊥
after_limits device disk files next words None = read_load_plan device disk files next words
after_limits device disk files next words (Some refusal) = Stop (nothing_done 0) (Some refusal)

-- looks whether there are too many dumps or fillers, and then reads and loads
unfoldable pub load_plan : {D : Type 0} → Device D → D → Option Files → Option ℤ → LoadWords → CommandPlan Progress ⊥
load_plan device disk files next words =
    Question (λ found. found ≡ load_limit_refusal words) (after_limits device disk files next words)
