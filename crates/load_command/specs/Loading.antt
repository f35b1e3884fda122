-- The steps of a load: how its asks are checked, what its jobs are given, and what is reported of them.
use Rattle.std.specs.Prelude.{◌≡◌, ◌⊎◌, ℕ, ℤ, List, length, map, Bool, true, false, Option, Some, None, Result, Ok, Err}
use Rattle.std.specs.FinMap.{get}
use Rattle.std.specs.List.{list_any}
use Rattle.asks.specs.declared.ask.Ask.{Ask}
use Rattle.refusals.specs.declared.refusal.Refusal.{Refusal}
use Rattle.refusals.specs.declared.refusal.Refusal.TheVariants.{Limit, NeedsReopen}
use Rattle.refusals.specs.declared.refusal.Which.TheVariants.{Records}
use Rattle.outer_traits.specs.Outside.{Files}
use Rattle.outer_traits.specs.States.{SourceState}
use Rattle.history_items.specs.declared.fills.Addition.{Addition}
use Rattle.history_items.specs.declared.fills.Addition.TheVariants.{Rows}
use Rattle.history_items.specs.declared.items.Item.{Item}
use Rattle.history_items.specs.Databases.{database_in, names_in}
use Rattle.archive_store.specs.Entries.{Archive, FilledArchive}
use Rattle.ask_answers.specs.Asks.{AreAnswerable, AreRefused}
use Rattle.command_words.specs.Job.{LoadWords}
use Rattle.command_words.specs.LoadLimits.{links_refusal}
use Rattle.command_plans.specs.Plan.{FailedCalls, OfDisk, OfInputs, Way}
use Rattle.command_plans.specs.Sources.{UsedSources}
use Rattle.command_runs.specs.Command.{DiskOutcome, ExtensionFailed, FillingFailed, Progress, failed_at, sources_at}
use Rattle.command_runs.specs.Moment.{IsMomentOf}
use Rattle.live_asks.specs.declared.answered.AskAnswer.{AskAnswer}
use Rattle.live_session.specs.Jobs.{JobSetting}
use Rattle.live_session.specs.Outcome.{JobsOutcome, counts_of}
use Rattle.live_session.specs.declared.reported.DumpCounts.{DumpCounts}
use Rattle.live_session.specs.declared.reported.ReportedRefusal.{ReportedRefusal}
use Rattle.load_jobs.specs.declared.ending.LinkEnd.{LinkEnd}
use Rattle.load_jobs.specs.declared.ending.LinkEnd.TheVariants.{Unread}
use Rattle.retrieval.specs.FoundAsks.{AreFound, asks_found}
use Rattle.script_answers.specs.Scripts.{IsScriptAnswer, OrNoMemory}
use Rattle.script_answers.specs.Statements.{packet_names}
use Rattle.ssql_types.specs.declared.place.ScriptPlace.TheVariants as ScriptPlace
use Rattle.ssql_types.specs.declared.statement.TypedStatement.{TypedStatement}
use Rattle.stream_graph.specs.declared.statement.RouteStatement.{RouteStatement}
use Rattle.stream_graph.specs.Routes.{every_packet_route, route_statements}

-- ---- before the jobs

-- what a script of a route stands for over the tables and the packet names of an archive
abbrev pub IsRouteScript : Archive → List ℕ → Result (List TypedStatement) Refusal → Type 0
IsRouteScript archive =
    IsScriptAnswer ScriptPlace.Route archive.head.tables (packet_names archive.head archive.history)

-- An answer about the route of a load into an archive: where no script is given each packet goes into `tm`; else it is
-- that of the script's text, or this is why the text is refused.
abbrev pub IsRouteAnswer : Archive → Option (List ℕ) → Result (List RouteStatement) Refusal → Type 0
IsRouteAnswer archive None answer = answer ≡ Ok every_packet_route
IsRouteAnswer archive (Some text) (Ok route) =
    (script : List TypedStatement) × IsRouteScript archive text (Ok script) × (route ≡ route_statements script)
IsRouteAnswer archive (Some text) (Err refusal) = IsRouteScript archive text (Err refusal)

-- what a load was asked by its words, the text of its route, if there is one, and its sheet of asks
pub record LoadAsked : Type 0 where
  pub words : LoadWords
  pub text : Option (List ℕ)
  pub sheet : Result (List Ask) Refusal

-- that was asked
abbrev pub load_asked : LoadWords → Option (List ℕ) → Result (List Ask) Refusal → LoadAsked
load_asked words text sheet = record { words = words; text = text; sheet = sheet }

-- the links, the route and the asks are none that is refused
abbrev pub IsReady : Archive → LoadAsked → List RouteStatement → List Ask → Type 0
IsReady archive asked route asks =
    (links_refusal asked.words ≡ None) × IsRouteAnswer archive asked.text (Ok route)
    × AreAnswerable archive asked.sheet asks

-- the route is refused, or else the sheet of asks
abbrev pub IsRouteOrSheetRefused : Archive → Option (List ℕ) → Result (List Ask) Refusal → Refusal → Type 0
IsRouteOrSheetRefused archive text sheet refusal =
    OrNoMemory (IsRouteAnswer archive text) (Err refusal)
    ⊎ ((route : List RouteStatement) × IsRouteAnswer archive text (Ok route) × AreRefused archive sheet refusal)

-- a link is refused, or else one of these
abbrev pub IsUnready : Archive → LoadAsked → Refusal → Type 0
IsUnready archive asked refusal =
    (links_refusal asked.words ≡ Some refusal)
    ⊎ ((links_refusal asked.words ≡ None) × IsRouteOrSheetRefused archive asked.text asked.sheet refusal)

-- ---- the jobs

-- the octets of a dump, where the inputs are known
abbrev pub dump_of : Option Files → List ℕ → Option (List ℕ)
dump_of None name = None
dump_of (Some all) name = get all name

-- those of dumps
abbrev pub dumps_of : Option Files → List (List ℕ) → List (Option (List ℕ))
dumps_of files names = map (dump_of files) names

-- the setting of jobs has the head of an archive, this route, the moment that the clock tells, and these asks, as they
-- were found in it
pub record IsSettingOf (archive : Archive) (next : Option ℤ) (route : List RouteStatement) (asks : List Ask)
    (setting : JobSetting) : Type 0 where
  pub head : setting.head ≡ archive.head
  pub route_is : setting.route ≡ route
  pub moment : IsMomentOf next setting.moment
  pub found : AreFound archive.head archive.history setting.asks
  pub asked : asks_found setting.asks ≡ asks

-- a read of a link's source failed
abbrev pub is_unread : LinkEnd → Bool
is_unread (Unread refused) = true
is_unread other = false

-- which calls failed of the outside while jobs ran, though no write did: reads of links' sources, and of the disk's
-- pages
abbrev pub failed_reads : JobsOutcome → FailedCalls
failed_reads outcome OfInputs = list_any is_unread outcome.ends
failed_reads outcome OfDisk = outcome.unread
failed_reads outcome other = false

-- what became of the disk of an archive that was extended to this, where a write failed that was to add rows, or a fill
abbrev pub outcome_of_failure : FilledArchive → List Item → Addition → DiskOutcome
outcome_of_failure filled reached (Rows rows) = ExtensionFailed filled reached rows
outcome_of_failure filled reached other = FillingFailed filled reached

-- what is said of the log behind a refusal by its limit, where so many rows came
abbrev pub log_behind : Refusal → ℕ → Option ℕ
log_behind (Limit Records number) new = Some new
log_behind other new = None

-- what is said of the disk's count of faults behind a refusal that names one
abbrev pub pending_behind : Refusal → Option ℕ
pending_behind (NeedsReopen faults) = Some faults
pending_behind other = None

-- What was done to the sources of dumps, by the way that a load took behind their opening: each was given, and some
-- failed where the way says so.
pub record HaveUsedSources {S : Type 0} (state : S → SourceState) (olds news : List S) (way : Way Progress ⊥)
    : Type 0 where
  pub given : sources_at way ≡ length olds
  pub used : UsedSources state olds news (failed_at way OfInputs)

-- An archive stands behind the jobs of a load into another one: it has the history that they reached, and the same
-- database and packet names are in force. These are the counts of the dumps, and the answers to the asks.
pub record IsBehindJobs (opened : Archive) (outcome : JobsOutcome) (now : Archive) (counts : DumpCounts)
    (answers : List AskAnswer) : Type 0 where
  pub database : database_in now.head.mdb now.history ≡ database_in opened.head.mdb opened.history
  pub names : names_in now.head.mdb now.history ≡ names_in opened.head.mdb opened.history
  pub rows : now.history ≡ outcome.reached
  pub counts_are : counts ≡ counts_of outcome.ends
  pub answers_are : answers ≡ outcome.answers

-- ---- what is reported

-- What is reported of a load: what is of its jobs, and where none was refused, why what was late still isn't filled.
abbrev pub IsReported : Option ReportedRefusal → Result ℕ Refusal → ReportedRefusal → Type 0
IsReported (Some reported) filled one = one ≡ reported
IsReported None filled one = (filled ≡ Err one.refusal) × (one.link ≡ None)

-- nothing is: no job was refused, and each late interval is filled
abbrev pub IsNothingReported : Option ReportedRefusal → Result ℕ Refusal → Type 0
IsNothingReported (Some reported) filled = ⊥
IsNothingReported None filled = (late : ℕ) × (filled ≡ Ok late)
