use Rattle.std.proofs.Common.{◌≡◌, ◌∙◌, ℕ, w64, to_z, of_z, length, Some, refl, sym, ap, subst, arith}
use Rattle.std.proofs.lemmas.Int.{to_z-of_z}
use Rattle.history_items.specs.Databases.{database_in, names_in}
use Rattle.archive_store.specs.StoreView.{archive_of, filled_of}
use Rattle.archive_store.specs.Head.{Head}
use Rattle.command_words.specs.JobView.{load_words_of}
use Rattle.retrieval.specs.FoundAsks.{AreFound, asks_found}
use Rattle.ask_answers.proofs.CollectedTexts.{are_answers, each_answered}
use Rattle.command_runs.specs.Report.{loaded as of_load}
use Rattle.live_asks.specs.LiveAsks.{disk_facts}
use Rattle.live_session.specs.declared.loading.LoadJob.{LoadJob}
use Rattle.live_session.specs.Outcome.{IsLoadOutcome, load_setting}
use Rattle.load_command.specs.Loading.{IsBehindJobs, IsSettingOf}
use Rattle.load_command.proofs.FoundBehind.{found_behind}
use Rattle.load_command.proofs.JobRuns.{ran_reported, ran_whole}
use Rattle.load_command.proofs.SessionRuns.{nothing_reported}
use Rattle.load_command.proofs.running.run_jobs.Goals as goal

-- ---- the fills behind the jobs

pub fill_late-filled-requires : goal.fill_late-filled-requires
fill_late-filled-requires g c = c.load-store.ensures.outcome.loaded.idle

-- ---- what is printed or reported

pub print-report-requires-clause-answered : goal.print-report-requires-clause-answered
print-report-requires-clause-answered g c =
    let device = g.D.Disk.device in
    let store = c.args.store in
    let loaded = c.load-store.result in
    let came = rw c.as_slice.ensures at c.load-store.ensures.outcome in
    let none = sym came.reported ∙ nothing_reported loaded.reported c.fill_late-filled.result c.in-None.ensures.nothing in
    let each = each_answered (disk_facts device store.opened store.sealed) (filled_of store) store.history came.outcome.reached c.args.asks came.outcome.answers (came.possible.answered none) in
    rw (c.as_slice-in-None.ensures, c.as_slice-in-None-2.ensures, came.answers)
    (are_answers (disk_facts device store.opened store.sealed) (filled_of store) store.history came.outcome.reached c.args.asks came.outcome.answers each)

-- the asks that were found are found behind the jobs, which added no database
pub print-report-requires-clause-found : goal.print-report-requires-clause-found
print-report-requires-clause-found g c =
    let store = c.args.store in
    let behind = c.load-store.result.store in
    let mid = c.fill_late-filled.new.store in
    let left = c.fill_late-filled.ensures.left in
    let goes = c.load-store.ensures.outcome.loaded.goes in
    let same : database_in store.head.mdb mid.history ≡ database_in store.head.mdb store.history =
    ap (database_in store.head.mdb) left.rows ∙ ap (λ (h : Head). database_in h.mdb behind.history) (sym goes.appends.head) ∙ goes.database.in_force in
    subst (AreFound mid.head mid.history) (sym c.as_slice-in-None.ensures)
    (found_behind store.head store.history mid.history same mid.head (left.head ∙ goes.appends.head) c.args.asks c.requires.found)

pub print-report-requires-clause-counts : goal.print-report-requires-clause-counts
print-report-requires-clause-counts g c =
    let came = c.load-store.ensures.outcome in
    let more = came.no_more (nothing_reported c.load-store.result.reported c.fill_late-filled.result c.in-None.ensures.nothing) in
    let rows = ap length (c.fill_late-filled.ensures.left.rows ∙ came.loaded.history) in
    let first = c.front-before.ensures in
    omega (arith, more, rows, first)

-- what there is to print is printed
pub returns-in-None : goal.returns-in-None
returns-in-None g c = λ disk new files next on heals kept left told.
    let device = g.D.Disk.device in
    let store = c.args.store in
    let words = load_words_of c.args.words.now in
    let loaded = c.load-store.result in
    let job : LoadJob g.row.S.Denot = record { moment = c.args.moment; link = c.args.words.now.link; sources = c.args.sources; graph = c.args.graph; fillers = c.args.words.now.fillers } in
    let came : IsLoadOutcome device g.S.Source.state store job c.args.asks loaded =
    rw (to_z-of_z w64 c.args.moment c.ranges.moment, c.as_slice.ensures) at c.load-store.ensures.outcome in
    let mid = c.fill_late-filled.new.store in
    let fill = c.fill_late-filled.ensures in
    let given_is : IsSettingOf (archive_of store) next c.args.graph (asks_found c.args.asks) (load_setting store job c.args.asks) = record { head = refl; route_is = refl; moment = told; found = c.requires.found; asked = refl } in
    let goes = came.loaded.goes in
    let nothing = c.in-None.ensures.nothing in
    let behind : IsBehindJobs (archive_of store) came.outcome (archive_of mid) loaded.counts loaded.answers = record {
      database = ap (λ (h : Head). database_in h.mdb mid.history) fill.left.head ∙ ap (database_in loaded.store.head.mdb) fill.left.rows ∙ goes.database.in_force;
      names = ap (λ (h : Head). names_in h.mdb mid.history) fill.left.head ∙ ap (names_in loaded.store.head.mdb) fill.left.rows ∙ goes.database.names;
      rows = fill.left.rows ∙ came.loaded.history;
      counts_are = came.counts (nothing_reported loaded.reported c.fill_late-filled.result nothing);
      answers_are = came.answers;
    } in
    ran_whole device disk store mid new on g.S.Source.state files next words job refl c.args.asks given_is loaded came left (sym c.requires.dumps) c.fill_late-filled.result fill.filled fill.refused fill.left
    heals c.is_kept.ensures kept (g.K.Sink.state c.args.sink.now) (g.K.Sink.state c.print-report.new.sink) c.print-report.result nothing
    (λ disk_is. (rw (c.as_slice-in-None.ensures, c.as_slice-in-None-2.ensures) at c.print-report.ensures) disk new.disk (length words.dumps) (filled_of store) came.outcome behind c.front-before.ensures disk_is)

-- a refusal is reported
pub returns : goal.returns
returns g c = λ disk new files next on heals kept left told.
    let device = g.D.Disk.device in
    let store = c.args.store in
    let words = load_words_of c.args.words.now in
    let loaded = c.load-store.result in
    let job : LoadJob g.row.S.Denot = record { moment = c.args.moment; link = c.args.words.now.link; sources = c.args.sources; graph = c.args.graph; fillers = c.args.words.now.fillers } in
    let came : IsLoadOutcome device g.S.Source.state store job c.args.asks loaded =
    rw (to_z-of_z w64 c.args.moment c.ranges.moment, c.as_slice.ensures) at c.load-store.ensures.outcome in
    let mid = c.fill_late-filled.new.store in
    let fill = c.fill_late-filled.ensures in
    let given_is : IsSettingOf (archive_of store) next c.args.graph (asks_found c.args.asks) (load_setting store job c.args.asks) = record { head = refl; route_is = refl; moment = told; found = c.requires.found; asked = refl } in
    let output = g.K.Sink.state c.args.sink.now in
    let one = c.in-Some.reported in
    let rows = fill.left.rows ∙ came.loaded.history in
    let report_is =
    c.stopped-report.ensures ∙ ap (λ (n : ℕ). of_load (Some one.refusal) one.link n c.front.result 0 0 0) c.front-before.ensures
    ∙ ap (λ (n : ℕ). of_load (Some one.refusal) one.link (length store.history) n 0 0 0) (c.front.ensures ∙ ap length rows) in
    ran_reported device disk store mid new on g.S.Source.state files next words job refl c.args.asks given_is loaded came left (sym c.requires.dumps) c.fill_late-filled.result fill.filled fill.refused fill.left
    heals c.is_kept.ensures kept output output c.stopped-report.result one c.in-Some.ensures.reported refl report_is
