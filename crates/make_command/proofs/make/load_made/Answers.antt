use Rattle.std.proofs.Common.{◌≡◌, ◌∙◌, ℕ, SFits, w64, length, List, [], Some, refl, sym, ap, subst, arith, rules}
use Rattle.std.proofs.lemmas.Int.{to_z-of_z}
use Rattle.std.specs.List.{AllByRecursion}
use Rattle.history_items.specs.Databases.{database_in}
use Rattle.retrieval.specs.declared.found_asks.FoundAsk.{FoundAsk}
use Rattle.retrieval.specs.FoundAsks.{AreFound}
use Rattle.store_fills.specs.Faults.{IsDone}
use Rattle.archive_store.specs.Head.{Head}
use Rattle.archive_store.specs.StoreView.{StoreView}
use Rattle.archive_store.proofs.UnreadRows.{told_in_memory}
use Rattle.stream_graph.specs.declared.statement.RouteStatement.{RouteStatement}
use Rattle.stream_graph.specs.Routes.{every_packet_route}
use Rattle.command_runs.specs.Healing.{TriesToHeal}
use Rattle.command_runs.specs.Report.{loaded as of_load}
use Rattle.live_session.specs.Jobs.{job_setting}
use Rattle.live_session.specs.declared.loading.LoadJob.{LoadJob}
use Rattle.live_session.specs.Outcome.{IsLoadOutcome, load_setting}
use Rattle.load_command.proofs.SessionRuns.{nothing_reported}
use Rattle.make_command.specs.Made.{made_head, octets_state}
use Rattle.make_command.specs.Summing.{KnowsParameters}
use Rattle.make_command.proofs.LoadRuns.{ran_refused, ran_summed}
use Rattle.make_command.proofs.MadeLoads.{dumps_are_two, made_parameters_known, made_route}
use Rattle.make_command.proofs.make.load_made.Goals as goal

-- ---- the jobs

pub load-store-requires-clause-links : goal.load-store-requires-clause-links
load-store-requires-clause-links g c = λ lifetimes lives.
    let two = ap length c.requires.dumps ∙ dumps_are_two c.args.packets.seed 20000 in
    (omega arith, omega (arith, two))

pub load-store-requires-clause-dumps : goal.load-store-requires-clause-dumps
load-store-requires-clause-dumps g c = λ lifetimes lives.
    let two = ap length c.requires.dumps ∙ dumps_are_two c.args.packets.seed 20000 in
    (omega (arith, two), omega (arith, two))

pub load-store-requires-clause-route : goal.load-store-requires-clause-route
load-store-requires-clause-route g c = λ lifetimes lives. rw (c.requires.route, c.requires.created.1.head_is) made_route

pub load-store-requires-clause-found : goal.load-store-requires-clause-found
load-store-requires-clause-found g c = λ lifetimes lives. subst (AreFound c.args.store.head c.args.store.history) (sym (c.as_slice.ensures ∙ c.new-asks.ensures)) tt

pub load-store-requires-clause-opened : goal.load-store-requires-clause-opened
load-store-requires-clause-opened g c = λ lifetimes lives. subst (AllByRecursion IsDone) (sym c.requires.created.1.fills) tt

-- ---- the fills behind the jobs

pub fill_late-filled-requires : goal.fill_late-filled-requires
fill_late-filled-requires g c = c.load-store.ensures.outcome.loaded.idle

-- ---- what is summed up

pub sum_up-report-requires-clause-counts : goal.sum_up-report-requires-clause-counts
sum_up-report-requires-clause-counts g c =
    let came = c.load-store.ensures.outcome in
    let none = nothing_reported c.load-store.result.reported c.fill_late-filled.result c.in-None.ensures.nothing in
    let more = came.no_more none in
    let first = ap length c.requires.created.1.history in
    let rows = ap length (c.fill_late-filled.ensures.left.rows ∙ came.loaded.history) in
    omega (arith, more, first, rows)

pub sum_up-report-requires-clause-known : goal.sum_up-report-requires-clause-known
sum_up-report-requires-clause-known g c =
    let store = c.args.store in
    let behind = c.load-store.result.store in
    let mid = c.fill_late-filled.new.store in
    let left = c.fill_late-filled.ensures.left in
    let created = c.requires.created.1 in
    let database : database_in mid.head.mdb mid.history ≡ made_head.mdb =
    ap (λ (h : Head). database_in h.mdb mid.history) left.head ∙ ap (database_in behind.head.mdb) left.rows ∙ c.load-store.ensures.outcome.loaded.goes.database.in_force
    ∙ ap (λ (h : Head). database_in h.mdb store.history) created.head_is ∙ ap (database_in made_head.mdb) created.history in
    subst KnowsParameters (sym database) made_parameters_known

-- nothing was refused
pub returns-in-None : goal.returns-in-None
returns-in-None g c = λ next healed told heals kept.
    let device = g.D.Disk.device in
    let store = c.args.store in
    let packets = c.args.packets in
    let behind = c.load-store.result in
    let asks = c.new-asks.result in
    let fits : SFits w64 packets.moment = search rules in
    let job : LoadJob (List ℕ) = record { moment = packets.moment; link = 1; sources = packets.sources; graph = packets.graph; fillers = 2 } in
    let setting_is : load_setting store job asks ≡ job_setting made_head every_packet_route packets.moment [] =
    ap (λ (h : Head). job_setting h packets.graph packets.moment asks) c.requires.created.1.head_is
    ∙ ap (λ (r : List RouteStatement). job_setting made_head r packets.moment asks) c.requires.route
    ∙ ap (λ (a : List FoundAsk). job_setting made_head every_packet_route packets.moment a) c.new-asks.ensures in
    let came : IsLoadOutcome device octets_state store job asks behind =
    rw (to_z-of_z w64 packets.moment fits, c.as_slice.ensures) at c.load-store.ensures.outcome in
    let mid = c.fill_late-filled.new.store in
    let fill = c.fill_late-filled.ensures in
    let summed = c.sum_up-report.ensures in
    let plain : mid.sealed ≡ 0 = fill.left.sealed ∙ came.loaded.goes.appends.sealed ∙ c.requires.created.1.sealed in
    let heals_mid : TriesToHeal device mid healed = subst (λ (s : StoreView g.row.D.Denot). TriesToHeal device s healed) (summed.read.same.plain plain) heals in
    ran_summed device c.requires.created.0 store mid healed c.requires.created.1 c.is_kept.ensures packets.seed next packets.moment told job refl c.requires.dumps asks setting_is
    behind came c.fill_late-filled.result fill.filled fill.refused fill.left heals_mid kept (g.K.Sink.state c.args.sink.now) (g.K.Sink.state c.sum_up-report.new.sink) c.sum_up-report.result
    c.in-None.ensures.nothing c.is_kept-in-None.ensures c.sum_up-report.result.refusal (summed.reply (told_in_memory device mid plain)) summed.report

-- a refusal is reported
pub returns-in-Some : goal.returns-in-Some
returns-in-Some g c = λ next healed told heals kept.
    let device = g.D.Disk.device in
    let store = c.args.store in
    let packets = c.args.packets in
    let behind = c.load-store.result in
    let asks = c.new-asks.result in
    let fits : SFits w64 packets.moment = search rules in
    let job : LoadJob (List ℕ) = record { moment = packets.moment; link = 1; sources = packets.sources; graph = packets.graph; fillers = 2 } in
    let setting_is : load_setting store job asks ≡ job_setting made_head every_packet_route packets.moment [] =
    ap (λ (h : Head). job_setting h packets.graph packets.moment asks) c.requires.created.1.head_is
    ∙ ap (λ (r : List RouteStatement). job_setting made_head r packets.moment asks) c.requires.route
    ∙ ap (λ (a : List FoundAsk). job_setting made_head every_packet_route packets.moment a) c.new-asks.ensures in
    let came : IsLoadOutcome device octets_state store job asks behind =
    rw (to_z-of_z w64 packets.moment fits, c.as_slice.ensures) at c.load-store.ensures.outcome in
    let mid = c.fill_late-filled.new.store in
    let fill = c.fill_late-filled.ensures in
    let one = c.in-Some.reported in
    let output = g.K.Sink.state c.args.sink.now in
    let rows : mid.history ≡ came.outcome.reached = fill.left.rows ∙ came.loaded.history in
    let report_is = c.stopped-report.ensures ∙ ap (λ (n : ℕ). of_load (Some one.refusal) one.link 0 n 0 0 0) (c.front.ensures ∙ ap length rows) in
    ran_refused device c.requires.created.0 store mid healed c.requires.created.1 c.is_kept.ensures packets.seed next packets.moment told job refl c.requires.dumps asks setting_is
    behind came c.fill_late-filled.result fill.filled fill.refused fill.left heals kept output output c.stopped-report.result one c.in-Some.ensures.reported refl report_is
