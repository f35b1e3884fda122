-- What a load leaves whose jobs were run.
use Rattle.std.proofs.Common.{◌≡◌, ℕ, ℤ, suc, ◌+◌, ◌≤◌, List, [], ◌∷◌, length, min, None, refl, sym, ap, ◌∙◌, subst, arith, length-append}
use Rattle.std.specs.List.{AllByRecursion, filter_map}
use Rattle.std.proofs.lemmas.List.{length-map}
use Rattle.arch_disk.specs.Disk.{Device}
use Rattle.arch_types.specs.History.{IsHistory}
use Rattle.outer_traits.specs.States.{SourceState}
use Rattle.history_items.specs.Items.{items_of, rows_in}
use Rattle.history_items.proofs.ItemLists.{length-items_of}
use Rattle.store_fills.specs.Faults.{IsDone}
use Rattle.archive_store.specs.Head.{Head}
use Rattle.archive_store.specs.StoreView.{StoreView}
use Rattle.load_jobs.specs.declared.ending.LinkEnd.{LinkEnd}
use Rattle.live_asks.specs.declared.answered.AskAnswer.{AskAnswer}
use Rattle.live_asks.specs.LiveAsks.{disk_facts}
use Rattle.live_session.specs.declared.order.JobEnd.{JobEnd}
use Rattle.live_session.specs.declared.order.Order.{Order}
use Rattle.live_session.specs.declared.loading.LoadJob.{LoadJob}
use Rattle.live_session.specs.declared.loading.Loaded.{Loaded}
use Rattle.live_session.specs.declared.reported.DumpCounts.{DumpCounts}
use Rattle.live_session.specs.Interleaving.{AreEveryFourth, HaveAnswersFor, answers_at}
use Rattle.retrieval.specs.declared.found_asks.FoundAsk.{FoundAsk}
use Rattle.stream_graph.specs.declared.statement.RouteStatement.{RouteStatement}
use Rattle.live_session.specs.Jobs.{AreOutcomesOf, IsFit, JobPass, JobSetting, job_setting}
use Rattle.live_session.specs.Orders.{AreOrdersFor}
use Rattle.live_session.specs.Outcome.{AreSourcesRead, HasFewCounts, IsLoadOutcome, counts_of, lefts_of, load_setting, reported_of}
use Rattle.live_session.specs.Results.{answers_in, end_in, other_in, source_in}
use Rattle.live_session.specs.Session.{IsSessionOver}
use Rattle.live_session.proofs.Counts.{as_many_ends, few_ends, rows_counted}
use Rattle.live_session.proofs.Outcomes.{all_of_links, came_rows, grown, loaded, outcome, parts, possible, unrefused, what_failed}

-- an end for each order
each_ended : {D T S : Type 0} (device : Device D) (state : S → SourceState) (first : StoreView D) (g : JobSetting) (passes : List (JobPass T)) (orders : List (Order S)) (ends : List (JobEnd S)) → AreOutcomesOf device state first g passes orders ends
    → length ends ≡ length orders
each_ended device state first g [] [] [] each = refl
each_ended device state first g (p ∷ passes) (order ∷ orders) (end ∷ ends) each = ap suc (each_ended device state first g passes orders ends each.1)
each_ended device state first g [] [] (end ∷ ends) each = absurd each
each_ended device state first g [] (order ∷ orders) ends each = absurd each
each_ended device state first g (p ∷ passes) [] ends each = absurd each
each_ended device state first g (p ∷ passes) (order ∷ orders) [] each = absurd each

module _ {D S : Type 0} (device : Device D) (state : S → SourceState) (first closed : StoreView D) (g : JobSetting) (orders : List (Order S)) (ends : List (JobEnd S)) (over : IsSessionOver device state first closed g orders ends) where
  pub as_many_ended : length ends ≡ length orders
  as_many_ended = each_ended device state first g over.passes orders ends over.each

  module _ (link : ℕ) (sources : List S) (readers fillers : ℕ) (are : AreOrdersFor link sources readers fillers orders) (done : AllByRecursion IsDone first.fills) (is_history : IsHistory (rows_in closed.history)) (fit : IsFit first g)
      (many_readers : readers ≡ min 4 (length g.asks)) where
    abbrev link_ends : List LinkEnd
    link_ends = filter_map end_in ends

    abbrev lists : List (List AskAnswer)
    lists = filter_map answers_in ends

    pub as_many_links : length link_ends ≡ length sources
    as_many_links =
        let failed = what_failed device state first closed g orders ends over link sources readers fillers are done is_history in
        let p = parts device state first closed g orders ends over link sources readers fillers are done is_history failed.0 failed.1 failed.2 in
        as_many_ends (disk_facts device first.opened first.sealed) first.exponent failed.0 first.history closed.history g link (lefts_of state sources) link_ends p.loaded ∙ length-map sources (λ source. (state source).left)

    pub few_readers : length lists ≤ 4
    few_readers =
        let failed = what_failed device state first closed g orders ends over link sources readers fillers are done is_history in
        let p = parts device state first closed g orders ends over link sources readers fillers are done is_history failed.0 failed.1 failed.2 in
        let many = p.many in
        omega (arith, many, many_readers)

    pub few_counts : AllByRecursion HasFewCounts link_ends
    few_counts =
        let failed = what_failed device state first closed g orders ends over link sources readers fillers are done is_history in
        let p = parts device state first closed g orders ends over link sources readers fillers are done is_history failed.0 failed.1 failed.2 in
        few_ends (disk_facts device first.opened first.sealed) first.exponent failed.0 first.history closed.history g link (lefts_of state sources) link_ends fit.sound.0.few fit.route p.loaded

    -- where nothing was refused no more rows came than the packets of whole dumps are
    pub few_rows : reported_of link link_ends (filter_map other_in ends) ≡ None → length closed.history ≤ length first.history + (counts_of link_ends).routed
    few_rows none =
        let failed = what_failed device state first closed g orders ends over link sources readers fillers are done is_history in
        let p = parts device state first closed g orders ends over link sources readers fillers are done is_history failed.0 failed.1 failed.2 in
        let calm = (unrefused link link_ends (filter_map other_in ends) none).0 in
        let few = rows_counted (disk_facts device first.opened first.sealed) first.exponent failed.0 first.history closed.history g link (lefts_of state sources) link_ends calm p.loaded (all_of_links device state first closed g orders ends over link sources readers fillers are done is_history) in
        let whole = ap length (grown device state first closed g orders ends over link sources readers fillers are done is_history) in
        let rows = came_rows device state first closed g orders ends over link sources readers fillers are done is_history in
        let long = length-append first.history (items_of rows) in
        let items = length-items_of rows in
        omega (arith, few, whole, long, items)

-- A load whose jobs were run left what they came to.
module _ {D S : Type 0} (device : Device D) (state : S → SourceState) (first : StoreView D) (job : LoadJob S) (asks : List FoundAsk) (left : Loaded D S) (orders : List (Order S)) (ends : List (JobEnd S))
    (over : IsSessionOver device state first left.store (load_setting first job asks) orders ends) (readers : ℕ) (are : AreOrdersFor job.link job.sources.items readers job.fillers orders) (done : AllByRecursion IsDone first.fills)
    (is_history : IsHistory (rows_in left.store.history)) (fit : IsFit first (load_setting first job asks)) (many_readers : readers ≡ min 4 (length asks)) where
  abbrev all : JobSetting
  all = load_setting first job asks

  abbrev their_ends : List LinkEnd
  their_ends = filter_map end_in ends

  abbrev answered : List (List AskAnswer)
  answered = filter_map answers_in ends

  pub came : left.sources.items ≡ filter_map source_in ends → left.reported ≡ reported_of job.link their_ends (filter_map other_in ends) → left.counts ≡ counts_of their_ends
      → (HaveAnswersFor asks (answers_at 0 answered) (answers_at 1 answered) (answers_at 2 answered) (answers_at 3 answered)
      → AreEveryFourth left.answers (answers_at 0 answered) (answers_at 1 answered) (answers_at 2 answered) (answers_at 3 answered))
      → IsLoadOutcome device state first job asks left
  came same is counted interleaved =
      let closed = left.store in
      let sources = job.sources.items in
      let failed = what_failed device state first closed all orders ends over job.link sources readers job.fillers are done is_history in
      let p = parts device state first closed all orders ends over job.link sources readers job.fillers are done is_history failed.0 failed.1 failed.2 in
      record {
        outcome = outcome device state first closed all orders ends over job.link sources readers job.fillers are done is_history failed.0 failed.1 failed.2 many_readers left.answers interleaved;
        possible = possible device state first closed all orders ends over job.link sources readers job.fillers are done is_history failed.0 failed.1 failed.2 many_readers left.answers interleaved;
        loaded = loaded device state first closed all orders ends over job.link sources readers job.fillers are done is_history failed.0 failed.1 failed.2 many_readers left.answers interleaved;
        sources = subst (AreSourcesRead state their_ends sources) (sym same) p.read;
        reported = is;
        counts = λ none. counted;
        no_more = λ none. subst (λ (n : DumpCounts). length closed.history ≤ length first.history + n.routed) (sym counted)
            (few_rows device state first closed all orders ends over job.link sources readers job.fillers are done is_history fit many_readers (sym is ∙ none));
        answers = refl;
      }

-- a session that was given an equal head and moment
pub over_given : {D S : Type 0} (device : Device D) (state : S → SourceState) (first closed : StoreView D) (head head' : Head) (route : List RouteStatement) (moment moment' : ℤ) (asks : List FoundAsk) (orders : List (Order S)) (ends : List (JobEnd S))
    → head ≡ head' → moment ≡ moment' → IsSessionOver device state first closed (job_setting head route moment asks) orders ends → IsSessionOver device state first closed (job_setting head' route moment' asks) orders ends
over_given device state first closed head head' route moment moment' asks orders ends same_head same_moment over =
    subst (λ (h : Head). IsSessionOver device state first closed (job_setting h route moment' asks) orders ends) same_head
    (subst (λ (m : ℤ). IsSessionOver device state first closed (job_setting head route m asks) orders ends) same_moment over)
