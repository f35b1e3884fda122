use Rattle.std.proofs.Common.{rules, SFits, w64, ◌≡◌, ◌≤◌, List, length, min, vec_len, ◌+◌, refl, sym, ap, ◌∙◌, subst, arith}
use Rattle.std.proofs.lemmas.Int.{to_z-of_z}
use Rattle.std.specs.List.{AllByRecursion, filter_map}
use mir.Val.{of_z, to_z}
use Rattle.field_codec.specs.declared.entry.Entry.TheVariants as entries
use Rattle.field_codec.specs.Entries.{IsArchiveEntry}
use Rattle.arch_types.specs.History.{IsHistory}
use Rattle.history_items.specs.Items.{rows_in}
use Rattle.archive_store.specs.Head.{Head}
use Rattle.archive_store.specs.StoreView.{StoreView}
use Rattle.load_session.specs.Receiving.{IsRouteOver}
use Rattle.load_jobs.specs.declared.ending.LinkEnd.{LinkEnd}
use Rattle.live_asks.specs.declared.answered.AskAnswer.{AskAnswer}
use Rattle.live_session.specs.Interleaving.{AreEveryFourth, HaveAnswersFor, answers_at}
use Rattle.live_session.specs.Jobs.{IsFit, job_setting}
use Rattle.live_session.specs.Outcome.{HasFewCounts, counts_of, reported_of}
use Rattle.live_session.specs.Results.{end_in, source_of}
use Rattle.live_session.specs.Session.{IsSessionOver, NothingCame}
use Rattle.live_session.proofs.Came.{as_many_ended, as_many_links, came, few_counts, few_readers, over_given}
use Rattle.live_session.proofs.Closing.{given_back}
use Rattle.live_session.proofs.NotRun.{not_run}
use Rattle.live_session.proofs.Ordered.{orders_numbered, sources_ordered}
use Rattle.live_session.proofs.loading.load.Goals as goal

-- ---- jobs that weren't run

pub returns-in_default : goal.returns-in_default
returns-in_default g c =
    let device = g.D.Disk.device in
    let some : 1 ≤ length c.args.job.sources.items = (let dumps = c.requires.dumps in let ok = c.args.job.sources.ok in omega (arith, dumps, ok)) in
    record {
      outcome = not_run device g.S.Source.state c.args.store c.args.job c.args.asks.now c.not_run.result (given_back device c.args.store c.not_run.result.store c.not_run.ensures.same.0) c.requires.opened
          some c.not_run.ensures.same.1 c.not_run.ensures.reported c.not_run.ensures.none;
    }

pub returns-in-Err : goal.returns-in-Err
returns-in-Err g c =
    let device = g.D.Disk.device in
    let some : 1 ≤ length c.args.job.sources.items = (let dumps = c.requires.dumps in let ok = c.args.job.sources.ok in omega (arith, dumps, ok)) in
    record {
      outcome = not_run device g.S.Source.state c.args.store c.args.job c.args.asks.now c.not_run-in-Err.result (given_back device c.args.store c.not_run-in-Err.result.store c.not_run-in-Err.ensures.same.0) c.requires.opened
          some (c.not_run-in-Err.ensures.same.1 ∙ c.in-Err.ensures.back) c.not_run-in-Err.ensures.reported c.not_run-in-Err.ensures.none;
    }

pub sources_back-requires-clause-room : goal.sources_back-requires-clause-room
sources_back-requires-clause-room g c =
    let many = ap length c.in-Err-run_session.ensures.not_begun.0 in
    let back = c.in-Err-run_session.back.orders.ok in
    let orders = c.in-Ok-orders_of.orders.ok in
    let count = c.in-Ok-orders_of.ensures.count in
    let sources = c.len.ensures in
    let room = c.in-Ok.ensures.room.0 in
    omega (arith, many, back, orders, count, sources, room)

pub returns : goal.returns
returns g c =
    let device = g.D.Disk.device in
    let gone = c.in-Err-run_session.ensures.not_begun in
    let back = c.not_run-in-Err-run_session in
    let some : 1 ≤ length c.args.job.sources.items = (let dumps = c.requires.dumps in let ok = c.args.job.sources.ok in omega (arith, dumps, ok)) in
    let given = back.ensures.same.1 ∙ (c.sources_back.ensures ∙ (ap (filter_map source_of) gone.0
    ∙ sources_ordered c.args.job.link c.args.job.sources.items (min (length c.args.asks.now) 4) c.args.job.fillers c.in-Ok-orders_of.orders.items c.in-Ok-orders_of.ensures.orders)) in
    record {
      outcome = not_run device g.S.Source.state c.args.store c.args.job c.args.asks.now back.result (subst (NothingCame device c.args.store) (sym back.ensures.same.0) gone.1) c.requires.opened
          some given back.ensures.reported back.ensures.none;
    }

-- ---- jobs that are run

pub run_session-requires-clause-few : goal.run_session-requires-clause-few
run_session-requires-clause-few g c κs within =
    let count = c.in-Ok-orders_of.ensures.count in
    let dumps = c.requires.dumps in
    let fillers = c.requires.fillers in
    omega (arith, count, dumps, fillers)

pub run_session-requires-clause-fit : goal.run_session-requires-clause-fit
run_session-requires-clause-fit g c κs within =
    let moment = c.args.job.moment in
    let fits : SFits w64 moment = search rules in
    let of_archive : c.in-Ok.room.head ≡ c.args.store.head = c.in-Ok.ensures.head ∙ c.head.ensures.head in
    rw (to_z-of_z w64 moment fits) (record {
      of_archive = of_archive;
      sound = subst (λ (h : Head). IsArchiveEntry (entries.Head h.tables h.mdb)) (sym of_archive) c.head.ensures.sound;
      alone = c.head.ensures.alone;
      route = subst (λ (h : Head). IsRouteOver h c.args.job.graph) (sym of_archive) c.requires.route;
      moment = c.requires.moment;
      found = c.requires.found;
    })

pub run_session-requires-clause-numbered : goal.run_session-requires-clause-numbered
run_session-requires-clause-numbered g c κs within =
    let links = c.requires.links in
    let ok = c.args.job.sources.ok in
    orders_numbered c.args.job.link c.args.job.sources.items (min (length c.args.asks.now) 4) c.args.job.fillers c.in-Ok-orders_of.orders.items links.0 (omega (arith, links, ok)) c.in-Ok-orders_of.ensures.orders

-- ---- what they left

pub sort_results-requires-clause-none : goal.sort_results-requires-clause-none
sort_results-requires-clause-none g c = let none = c.in-Ok.ensures.none in (none.0, none.1, none.2, none.3)

pub sort_results-requires-clause-room : goal.sort_results-requires-clause-room
sort_results-requires-clause-room g c =
    let many = as_many_ended g.D.Disk.device g.S.Source.state c.args.store c.in-Ok-run_session.end.store _ c.in-Ok-orders_of.orders.items c.in-Ok-run_session.end.ends.items c.in-Ok-run_session.ensures.over in
    let ends = c.in-Ok-run_session.end.ends.ok in
    let orders = c.in-Ok-orders_of.orders.ok in
    let count = c.in-Ok-orders_of.ensures.count in
    let sources = c.len.ensures in
    let room = c.in-Ok.ensures.room in
    let few : vec_len c.in-Ok-run_session.end.ends ≤ c.len.result + 4 + c.args.job.fillers = omega (arith, many, ends, orders, count, sources) in
    (omega (arith, few, room.0), omega (arith, few, room.1), omega (arith, few, room.2), omega (arith, few, room.3))

pub load_end-requires-clause-links : goal.load_end-requires-clause-links
load_end-requires-clause-links g c =
    let moment = c.args.job.moment in
    let fits : SFits w64 moment = search rules in
    let store = c.args.store in
    let end = c.in-Ok-run_session.end in
    let asks = c.args.asks.now in
    let orders = c.in-Ok-orders_of.orders.items in
    let over = over_given g.D.Disk.device g.S.Source.state store end.store c.in-Ok.room.head store.head c.args.job.graph (to_z w64 (of_z w64 moment)) moment asks orders end.ends.items
    (c.in-Ok.ensures.head ∙ c.head.ensures.head) (to_z-of_z w64 moment fits) c.in-Ok-run_session.ensures.over in
    let fit : IsFit store (job_setting store.head c.args.job.graph moment asks) = record {
      of_archive = refl;
      sound = c.head.ensures.sound;
      alone = c.head.ensures.alone;
      route = c.requires.route;
      moment = c.requires.moment;
      found = c.requires.found;
    } in
    let readers = min (length asks) 4 in
    let many : readers ≡ min 4 (length asks) = omega arith in
    let links = as_many_links g.D.Disk.device g.S.Source.state store end.store (job_setting store.head c.args.job.graph moment asks) orders end.ends.items over c.args.job.link c.args.job.sources.items readers c.args.job.fillers c.in-Ok-orders_of.ensures.orders c.requires.opened c.is_kept.ensures.history.0 fit many in
    let parted = ap length c.sort_results.ensures.ends in
    let ends = c.sort_results.result.ends.ok in
    let sources = c.args.job.sources.ok in
    let high = c.requires.links in
    omega (arith, links, parted, ends, sources, high)

pub load_end-requires-clause-dumps : goal.load_end-requires-clause-dumps
load_end-requires-clause-dumps g c =
    let moment = c.args.job.moment in
    let fits : SFits w64 moment = search rules in
    let store = c.args.store in
    let end = c.in-Ok-run_session.end in
    let asks = c.args.asks.now in
    let orders = c.in-Ok-orders_of.orders.items in
    let over = over_given g.D.Disk.device g.S.Source.state store end.store c.in-Ok.room.head store.head c.args.job.graph (to_z w64 (of_z w64 moment)) moment asks orders end.ends.items
    (c.in-Ok.ensures.head ∙ c.head.ensures.head) (to_z-of_z w64 moment fits) c.in-Ok-run_session.ensures.over in
    let fit : IsFit store (job_setting store.head c.args.job.graph moment asks) = record {
      of_archive = refl;
      sound = c.head.ensures.sound;
      alone = c.head.ensures.alone;
      route = c.requires.route;
      moment = c.requires.moment;
      found = c.requires.found;
    } in
    let readers = min (length asks) 4 in
    let many : readers ≡ min 4 (length asks) = omega arith in
    let links = as_many_links g.D.Disk.device g.S.Source.state store end.store (job_setting store.head c.args.job.graph moment asks) orders end.ends.items over c.args.job.link c.args.job.sources.items readers c.args.job.fillers c.in-Ok-orders_of.ensures.orders c.requires.opened c.is_kept.ensures.history.0 fit many in
    let parted = ap length c.sort_results.ensures.ends in
    let ends = c.sort_results.result.ends.ok in
    let sources = c.args.job.sources.ok in
    let most = c.requires.dumps in
    omega (arith, links, parted, ends, sources, most)

pub load_end-requires-clause-few : goal.load_end-requires-clause-few
load_end-requires-clause-few g c =
    let moment = c.args.job.moment in
    let fits : SFits w64 moment = search rules in
    let store = c.args.store in
    let end = c.in-Ok-run_session.end in
    let asks = c.args.asks.now in
    let orders = c.in-Ok-orders_of.orders.items in
    let over = over_given g.D.Disk.device g.S.Source.state store end.store c.in-Ok.room.head store.head c.args.job.graph (to_z w64 (of_z w64 moment)) moment asks orders end.ends.items
    (c.in-Ok.ensures.head ∙ c.head.ensures.head) (to_z-of_z w64 moment fits) c.in-Ok-run_session.ensures.over in
    let fit : IsFit store (job_setting store.head c.args.job.graph moment asks) = record {
      of_archive = refl;
      sound = c.head.ensures.sound;
      alone = c.head.ensures.alone;
      route = c.requires.route;
      moment = c.requires.moment;
      found = c.requires.found;
    } in
    let readers = min (length asks) 4 in
    let many : readers ≡ min 4 (length asks) = omega arith in
    subst (AllByRecursion HasFewCounts) (sym c.sort_results.ensures.ends) (few_counts g.D.Disk.device g.S.Source.state store end.store (job_setting store.head c.args.job.graph moment asks) orders end.ends.items over c.args.job.link c.args.job.sources.items readers c.args.job.fillers c.in-Ok-orders_of.ensures.orders c.requires.opened c.is_kept.ensures.history.0 fit many)

pub load_end-requires-clause-readers : goal.load_end-requires-clause-readers
load_end-requires-clause-readers g c =
    let moment = c.args.job.moment in
    let fits : SFits w64 moment = search rules in
    let store = c.args.store in
    let end = c.in-Ok-run_session.end in
    let asks = c.args.asks.now in
    let orders = c.in-Ok-orders_of.orders.items in
    let over = over_given g.D.Disk.device g.S.Source.state store end.store c.in-Ok.room.head store.head c.args.job.graph (to_z w64 (of_z w64 moment)) moment asks orders end.ends.items
    (c.in-Ok.ensures.head ∙ c.head.ensures.head) (to_z-of_z w64 moment fits) c.in-Ok-run_session.ensures.over in
    let fit : IsFit store (job_setting store.head c.args.job.graph moment asks) = record {
      of_archive = refl;
      sound = c.head.ensures.sound;
      alone = c.head.ensures.alone;
      route = c.requires.route;
      moment = c.requires.moment;
      found = c.requires.found;
    } in
    let readers = min (length asks) 4 in
    let many : readers ≡ min 4 (length asks) = omega arith in
    let most = few_readers g.D.Disk.device g.S.Source.state store end.store (job_setting store.head c.args.job.graph moment asks) orders end.ends.items over c.args.job.link c.args.job.sources.items readers c.args.job.fillers c.in-Ok-orders_of.ensures.orders c.requires.opened c.is_kept.ensures.history.0 fit many in
    let parted = ap length c.sort_results.ensures.answers in
    let answers = c.sort_results.result.answers.ok in
    omega (arith, most, parted, answers)

pub load_end-requires-clause-room : goal.load_end-requires-clause-room
load_end-requires-clause-room g c = (c.in-Ok.ensures.none.4, let room = c.in-Ok.ensures.room.4 in omega (arith, room))

pub returns-in-Ok-run_session : goal.returns-in-Ok-run_session
returns-in-Ok-run_session g c =
    let moment = c.args.job.moment in
    let fits : SFits w64 moment = search rules in
    let store = c.args.store in
    let end = c.in-Ok-run_session.end in
    let asks = c.args.asks.now in
    let orders = c.in-Ok-orders_of.orders.items in
    let over = over_given g.D.Disk.device g.S.Source.state store end.store c.in-Ok.room.head store.head c.args.job.graph (to_z w64 (of_z w64 moment)) moment asks orders end.ends.items
    (c.in-Ok.ensures.head ∙ c.head.ensures.head) (to_z-of_z w64 moment fits) c.in-Ok-run_session.ensures.over in
    let fit : IsFit store (job_setting store.head c.args.job.graph moment asks) = record {
      of_archive = refl;
      sound = c.head.ensures.sound;
      alone = c.head.ensures.alone;
      route = c.requires.route;
      moment = c.requires.moment;
      found = c.requires.found;
    } in
    let readers = min (length asks) 4 in
    let many : readers ≡ min 4 (length asks) = omega arith in
    let result = c.load_end.result in
    let results = c.sort_results.result in
    let interleaved = subst
    (λ (l : List (List AskAnswer)). HaveAnswersFor asks (answers_at 0 l) (answers_at 1 l) (answers_at 2 l) (answers_at 3 l) → AreEveryFourth result.answers (answers_at 0 l) (answers_at 1 l) (answers_at 2 l) (answers_at 3 l))
    c.sort_results.ensures.answers c.load_end.ensures.answers in
    let same = sym c.load_end.ensures.same.0 in
    let left_over = subst (λ s. IsSessionOver g.D.Disk.device g.S.Source.state store s (job_setting store.head c.args.job.graph moment asks) orders end.ends.items) same over in
    let is_history = subst (λ (s : StoreView g.row.D.Denot). IsHistory (rows_in s.history)) same c.is_kept.ensures.history.0 in
    record {
      outcome = came g.D.Disk.device g.S.Source.state store c.args.job asks result orders end.ends.items left_over readers c.in-Ok-orders_of.ensures.orders c.requires.opened is_history fit many
          (c.load_end.ensures.same.1 ∙ c.sort_results.ensures.sources)
          (c.load_end.ensures.reported ∙ (ap (λ (l : List LinkEnd). reported_of c.args.job.link l results.others.items) c.sort_results.ensures.ends ∙ ap (reported_of c.args.job.link (filter_map end_in end.ends.items)) c.sort_results.ensures.others))
          (c.load_end.ensures.counts ∙ ap counts_of c.sort_results.ensures.ends) interleaved;
    }
