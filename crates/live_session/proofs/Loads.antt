-- What came of each job, said of the archive at the session's end.
use Rattle.std.proofs.Common.{◌≡◌, ◌⊎◌, inl, inr, ℕ, suc, ◌+◌, ◌<◌, ◌≤◌, ◌==◌, List, [], ◌∷◌, ◌++◌, length, take, drop, Bool, true, false, Contains, Option, Some, None, Result, Ok, refl, sym, ap, ◌∙◌, subst, arith, eq-eqb, length-append}
use Rattle.std.specs.Prelude.{filter, slice_get, nat_lt, IfOk, IfSome, IsSome, if◌then◌else◌}
use Rattle.std.specs.List.{AllByRecursion}
use Rattle.std.specs.Result.{result_err}
use Rattle.std.proofs.Math.Seq.{drop-append_seam}
use mathlib.Core.List.{IsPrefix}
use Rattle.arch_disk.specs.Disk.{Device}
use Rattle.arch_types.specs.declared.row.Row.{Row}
use Rattle.arch_types.specs.History.{IsHistory}
use Rattle.outer_traits.specs.States.{SourceState}
use Rattle.refusals.specs.declared.refusal.Refusal.{Refusal}
use Rattle.refusals.specs.declared.refusal.Refusal.TheVariants.{Damaged, DiskFault, Limit, NeedsReopen, OutOfMemory}
use Rattle.refusals.specs.declared.refusal.Which.{Which}
use Rattle.refusals.specs.declared.refusal.Which.TheVariants.{DumpOctets, Records}
use Rattle.refusals.specs.Limits.{limit_of}
use Rattle.history_items.specs.declared.fills.Addition.{Addition}
use Rattle.history_items.specs.declared.fills.Addition.TheVariants.{Nothing, Rows}
use Rattle.history_items.specs.declared.fills.Fill.{Fill}
use Rattle.history_items.specs.declared.fills.Fill.TheVariants.{Fault}
use Rattle.history_items.specs.declared.items.Item.{Item}
use Rattle.history_items.specs.Fills.{pending_fault_of}
use Rattle.history_items.specs.Items.{after_rows, items_of, rows_in}
use Rattle.history_items.proofs.ItemLists.{rows_of_rows}
use Rattle.jobs.specs.Ends.{EachDid}
use Rattle.shared_history.specs.Turns.{HasPut, LinkWork, RiseFrom, StandAt}
use Rattle.shared_history.proofs.Sending.{one_link_ingests, sent_stays}
use Rattle.space_packet.specs.declared.dump.Why.TheVariants as why
use Rattle.space_packet.specs.Rest.{why_of}
use Rattle.turn_cell.specs.Pass.{PassView}
use Rattle.archive_history.specs.declared.row_limit.RowLimit.{RowLimit}
use Rattle.archive_history.specs.declared.row_limit.RowLimit.TheVariants as of_rows
use Rattle.archive_store.specs.Entries.{FilledArchive}
use Rattle.archive_store.specs.Limits.{IsLimit, limit_of_history}
use Rattle.archive_store.specs.Pages.{TellsRows}
use Rattle.archive_store.specs.StoreView.{StoreView, filled_of}
use Rattle.live_archive.specs.declared.held.HeldStore.{HeldStore}
use Rattle.live_archive.specs.GoesOn.{dones}
use Rattle.live_archive.specs.Reads.{IsReadFaultAt}
use Rattle.live_archive.proofs.Going.{dones-append, prefix_length, prefix_trans}
use Rattle.load_session.specs.declared.session.DumpSummary.{DumpSummary}
use Rattle.load_session.specs.Receiving.{Receiving, receiving, rows_received}
use Rattle.load_session.specs.Session.{IsSummary, next_rows}
use Rattle.load_jobs.specs.declared.ending.LinkEnd.{LinkEnd}
use Rattle.load_jobs.specs.declared.ending.LinkEnd.TheVariants.{Whole, Rest, Unread, TooLong, Refused}
use Rattle.load_jobs.specs.Ends.{IsEndOf, IsLinkRun, IsReadTo, kind_of_rest, refusal_of_end}
use Rattle.load_jobs.specs.Links.{FailedAt, HasNoted, IsDumpSent, IsRecordedIn, IsSendingEnd, work_of}
use Rattle.retrieval.specs.declared.found_asks.FoundAsk.{FoundAsk}
use Rattle.live_asks.specs.declared.answered.AskAnswer.{AskAnswer}
use Rattle.live_asks.specs.LiveAsks.{AreAnswered, DiskFacts, disk_facts, every_fourth}
use Rattle.live_asks.proofs.Each.{are_answered_later}
use Rattle.live_fills.specs.Filler.{FillsAlone, IsFillNote, IsFillerRefusal, IsNoBatchFault, IsOfFill, IsRefusalOf, IsWriteFaultAt}
use Rattle.live_session.specs.declared.order.JobEnd.{JobEnd}
use Rattle.live_session.specs.declared.order.JobEnd.TheVariants as Ended
use Rattle.live_session.specs.declared.order.Order.{Order}
use Rattle.live_session.specs.declared.order.Order.TheVariants as Ordered
use Rattle.live_session.specs.Jobs.{AreOutcomesOf, IsSourceRead, JobPass, JobSetting, received_by}
use Rattle.live_session.specs.Links.{IsNextFailed, IsSentCause, IsSentInto, IsSentTo, LinkLoads}
use Rattle.live_session.specs.Outcome.{IsFillFailed, IsFillerCause, IsReaderCause, IsSeenIn}
use Rattle.live_session.specs.Session.{BeganWith, EndedWithin}
use Rattle.live_session.proofs.Lists.{below, filter_all, later_contains, same_at, stands_on, whole_prefix}
use Rattle.live_session.proofs.Works.{none_there, works_of}

-- ---- a link

some_kind : (b : Bool) → kind_of_rest (if b then why.Truncated else why.Version) ≡ None → ⊥
some_kind true e = absurd cc
some_kind false e = absurd cc

-- octets of no kind are none
no_rest : (rest : List ℕ) → kind_of_rest (why_of rest) ≡ None → rest ≡ []
no_rest [] none = refl
no_rest (octet ∷ more) none = absurd (some_kind (nat_lt octet 32) none)

-- so many stand behind the first places
rises_within : {X : Type 0} (low : ℕ) (seen : List X) (places : List ℕ) (xs : List X) → low ≤ length seen → RiseFrom low places → StandAt seen places xs → low + length xs ≤ length seen
rises_within low seen [] [] within rising stand = omega (arith, within)
rises_within low seen [] (x ∷ xs) within rising stand = absurd stand
rises_within low seen (p ∷ places) [] within rising stand = absurd stand
rises_within low seen (p ∷ places) (x ∷ xs) within rising stand =
    let here = below seen p x stand.0 in
    let from = rising.0 in
    let more = rises_within (suc p) seen places xs (omega (arith, here)) rising.1 stand.1 in
    omega (arith, from, more)

-- the limit of records is none of rows
not_of_rows : (limit : RowLimit) → Records ≡ limit_of_history limit → ⊥
not_of_rows of_rows.Rows e = absurd (cc e)
not_of_rows of_rows.HistoryOctets e = absurd (cc e)
not_of_rows of_rows.IntervalRows e = absurd (cc e)

records_full : (exponent records : ℕ) (items : List Item) → IsLimit exponent Records records items → limit_of Records ≤ records
records_full exponent records items (inl rows) = absurd (not_of_rows rows.0 rows.1)
records_full exponent records items (inr full) = full.2

module _ {D : Type 0} (first closed : StoreView D) (last : List Fill) (recorded : first.records + dones closed.fills ≤ closed.records + dones first.fills) (settled_on : IsPrefix last closed.fills) where
  -- the log that a job found full has as many records or more
  still_full : (seen : List Item) (fills : List Fill) → IsPrefix seen closed.history → IsPrefix fills last → limit_of Records + length first.history + dones first.fills ≤ first.records + length seen + dones fills
      → limit_of Records + length first.history ≤ closed.records + length closed.history
  still_full seen fills history noted full =
      let longer = prefix_length seen closed.history history in
      let more = prefix_trans fills last closed.fills noted settled_on in
      let fewer : dones fills ≤ dones closed.fills = (let a = dones-append fills more.0 in let b = ap dones more.1 in omega (arith, a, b)) in
      omega (arith, full, longer, fewer, recorded)

module _ {D : Type 0} (device : Device D) (first closed : StoreView D) (last : List Fill) (failed : Option Addition) (recorded : first.records + dones closed.fills ≤ closed.records + dones first.fills) (settled_on : IsPrefix last closed.fills)
    (of_fault : (place count : ℕ) (addition : Addition) → slice_get last place ≡ Some (Fault count true addition) → failed ≡ Some addition)
    (of_pending : (fills : List Fill) (n : ℕ) → IsPrefix fills last → pending_fault_of fills ≡ Some n → IsSome failed)
    (pending_in : (fills : List Fill) (n : ℕ) → IsPrefix fills last → pending_fault_of fills ≡ Some n → pending_fault_of closed.fills ≡ Some n)
    (fault_counted : (place count : ℕ) (wrote : Bool) (addition : Addition) → slice_get last place ≡ Some (Fault count wrote addition) → IsSeenIn device first closed DiskFault) where
  module _ {T : Type 0} (dump : List ℕ) (r : Receiving) (put : List Row) (old new : PassView Item Fill T) (answer : Result DumpSummary Refusal) (sent : IsDumpSent device first dump r put old new answer)
      (later : IsPrefix new.history.seen closed.history) (noted_on : IsPrefix new.fills.seen last) where
    -- where the sending was refused by nothing, all packets were sent, and this is what the dump had
    all_sent : (summary : DumpSummary) → answer ≡ Ok summary → (sent.came_to.place ≡ length sent.came_to.packets) × IsSummary dump r sent.came_to summary
    all_sent summary is = (
      subst (IsSendingEnd device first r sent.came_to new) (sent.answer_is ∙ ap result_err is) sent.cause,
      subst (λ (a : Result DumpSummary Refusal). IfOk a (IsSummary dump r sent.came_to)) is sent.summary,
    )

    sent_to : (end : LinkEnd) → IsEndOf answer end → IsSentTo dump r sent.came_to end
    sent_to (Whole summary) (is, none) =
        let all = all_sent summary is in
        (all.0, no_rest sent.came_to.rest (ap kind_of_rest (sym all.1.why) ∙ none), all.1)
    sent_to (Rest at kind) (summary, is, at_is, some) =
        let all = all_sent summary is in
        (all.0, all.1.rest ∙ ap (λ (n : ℕ). drop n dump) at_is, ap kind_of_rest (sym all.1.why) ∙ some)
    sent_to (Unread None) none = subst (IsSendingEnd device first r sent.came_to new) (sent.answer_is ∙ sym none) sent.cause
    sent_to (Unread (Some refusal)) is = sent.answer_is ∙ sym is
    sent_to TooLong (summary, is, no_version) =
        let all = all_sent summary is in
        (all.0, λ version. no_version (all.1.why ∙ version))
    sent_to (Refused refusal) is = sent.answer_is ∙ ap result_err is

    -- the disk failed at the batch, or at a read
    failed_or_read : (place : ℕ) → FailedAt device first r sent.came_to new.fills.seen place → IsNextFailed (disk_facts device first.opened first.sealed) failed r sent.came_to ⊎ (0 < first.sealed)
    failed_or_read place (inl (count, rows, at, known)) = inl (rows, of_fault place count (Rows rows) (stands_on new.fills.seen last place (Fault count true (Rows rows)) noted_on at), known)
    failed_or_read place (inr read) = inr read.0

    -- why it was refused
    sent_cause : (refusal : Option Refusal) → IsSendingEnd device first r sent.came_to new refusal → HasNoted device first r sent.came_to old new refusal → IsSentCause (disk_facts device first.opened first.sealed) first.exponent failed r sent.came_to refusal
    sent_cause None ended noted = tt
    sent_cause (Some (Limit which number)) ended noted = λ told. let e = ended told in (e.0, (e.1.0, e.1.2))
    sent_cause (Some (NeedsReopen faults)) ended noted = of_pending new.fills.seen faults noted_on ended
    sent_cause (Some DiskFault) ended noted = failed_or_read noted.0 noted.2
    sent_cause (Some (Damaged file at)) ended noted = ended
    sent_cause (Some OutOfMemory) ended noted = tt
    sent_cause (Some other) ended noted = absurd ended

    -- what the store tells of that
    seen_cause : (refusal : Refusal) → IsSendingEnd device first r sent.came_to new (Some refusal) → HasNoted device first r sent.came_to old new (Some refusal) → IsSeenIn device first closed refusal
    seen_cause (Limit which number) ended noted = λ told is.
        let e = ended told in
        full e.1.0 (subst (λ (w : Which). IsLimit first.exponent w e.1.0 (after_rows sent.came_to.reached (next_rows r sent.came_to))) is e.1.2) e.1.1
      where
        full : (records : ℕ) → IsLimit first.exponent Records records (after_rows sent.came_to.reached (next_rows r sent.came_to)) → IsRecordedIn first new records → limit_of Records + length first.history ≤ closed.records + length closed.history
        full records limit within =
            let most = records_full first.exponent records (after_rows sent.came_to.reached (next_rows r sent.came_to)) limit in
            still_full first closed last recorded settled_on new.history.seen new.fills.seen later noted_on (omega (arith, most, within))
    seen_cause (NeedsReopen faults) ended noted = pending_in new.fills.seen faults noted_on ended
    seen_cause DiskFault ended noted = counted noted.2
      where
        counted : FailedAt device first r sent.came_to new.fills.seen noted.0 → IsSeenIn device first closed DiskFault
        counted (inl (count, rows, at, known)) = fault_counted noted.0 count true (Rows rows) (stands_on new.fills.seen last noted.0 (Fault count true (Rows rows)) noted_on at)
        counted (inr (paged, (count, at))) = fault_counted noted.0 count false Nothing (stands_on new.fills.seen last noted.0 (Fault count false Nothing) noted_on at)
    seen_cause other ended noted = tt

    seen_end : (end : LinkEnd) → IsEndOf answer end → IfSome (refusal_of_end end) (IsSeenIn device first closed)
    seen_end (Whole summary) ended = tt
    seen_end (Rest at kind) ended = tt
    seen_end (Unread None) ended = tt
    seen_end (Unread (Some refusal)) is =
        seen_cause refusal (subst (IsSendingEnd device first r sent.came_to new) (sent.answer_is ∙ sym is) sent.cause) (subst (HasNoted device first r sent.came_to old new) (sent.answer_is ∙ sym is) sent.noted)
    seen_end TooLong ended = λ told is. absurd (cc is)
    seen_end (Refused refusal) is =
        seen_cause refusal (subst (IsSendingEnd device first r sent.came_to new) (sent.answer_is ∙ ap result_err is) sent.cause) (subst (HasNoted device first r sent.came_to old new) (sent.answer_is ∙ ap result_err is) sent.noted)

    -- ---- where each row that came is its own

    module _ (begins : IsPrefix r.history new.history.seen) (has_put : HasPut (length r.history) new.history.seen (work_of r.link put new)) (is_history : IsHistory (rows_in closed.history))
        (own : filter (λ row. row.link == r.link) (rows_in (drop (length r.history) closed.history)) ≡ put) where
      came_alone : TellsRows device first → (more : List Row) → closed.history ≡ r.history ++ items_of more → AllByRecursion (λ row. row.link ≡ r.link) more
          → (sent.came_to.reached ≡ closed.history) × (closed.history ≡ after_rows r.history (rows_received r (take sent.came_to.place sent.came_to.packets)))
      came_alone told more grown all =
          let behind : rows_in (drop (length r.history) closed.history) ≡ more = ap (λ (l : List Item). rows_in (drop (length r.history) l)) grown ∙ (ap rows_in (drop-append_seam r.history (items_of more)) ∙ rows_of_rows more) in
          let same : put ≡ more = sym own ∙ (ap (filter (λ row. row.link == r.link)) behind ∙ filter_all (λ (row : Row). row.link == r.link) more (passes more all)) in
          let whole : closed.history ≡ r.history ++ items_of put = grown ∙ ap (λ (l : List Row). r.history ++ items_of l) (sym same) in
          let arrived = rows_received r (take sent.came_to.place sent.came_to.packets) in
          let least = rises_within (length r.history) new.history.seen new.history.places (items_of put) (prefix_length r.history new.history.seen begins) has_put.rising has_put.stand in
          let most = prefix_length new.history.seen closed.history later in
          let long = ap length whole in
          let parts = length-append r.history (items_of put) in (
            sent.reached ∙ sym (whole_prefix new.history.seen closed.history later (omega (arith, least, most, long, parts))),
            one_link_ingests r.history closed.history arrived put is_history whole (sent_stays arrived put new.history.seen closed.history later (sent.sent told)),
          )
        where
          passes : (rows : List Row) → AllByRecursion (λ row. row.link ≡ r.link) rows → AllByRecursion (λ (row : Row). (row.link == r.link) ≡ true) rows
          passes [] all = tt
          passes (row ∷ rows) all = (eq-eqb row.link r.link all.0, passes rows all.1)

      -- said of the whole history
      pub sent_into : (left : Option (List ℕ)) (end : LinkEnd) → IsReadTo left dump end → length dump ≤ limit_of DumpOctets → IsEndOf answer end → IsSentInto (disk_facts device first.opened first.sealed) first.exponent failed closed.history r left put end
      sent_into left end read_to short ended = record {
        read = dump;
        read_to = read_to;
        short = short;
        came_to = sent.came_to;
        parts = sent.parts;
        within = sent.within;
        between = sent.between;
        since = subst (IsPrefix r.history) (sym sent.reached) begins;
        reached = subst (λ (l : List Item). IsPrefix l closed.history) (sym sent.reached) later;
        few = sent.few;
        sent = λ told. sent_stays (rows_received r (take sent.came_to.place sent.came_to.packets)) put new.history.seen closed.history later (sent.sent told);
        sent_to = sent_to end ended;
        cause = sent_cause sent.came_to.refusal sent.cause sent.noted;
        alone = came_alone;
      }

  module _ {T : Type 0} (r : Receiving) (left : Option (List ℕ)) (put : List Row) (old new : PassView Item Fill T) (end : LinkEnd) (later : IsPrefix new.history.seen closed.history) (noted_on : IsPrefix new.fills.seen last) where
    module _ (begins : IsPrefix r.history new.history.seen) (has_put : HasPut (length r.history) new.history.seen (work_of r.link put new)) (is_history : IsHistory (rows_in closed.history))
        (own : filter (λ row. row.link == r.link) (rows_in (drop (length r.history) closed.history)) ≡ put) where
      pub link_loads : {left' : Option (List ℕ)} → (run : IsLinkRun device first r left left' old new end) → run.put ≡ put → LinkLoads (disk_facts device first.opened first.sealed) first.exponent failed closed.history r left end
      link_loads run same = record {
        put = put;
        own = own;
        sent = sent_into run.read r put old new run.answer (subst (λ (rows : List Row). IsDumpSent device first run.read r rows old new run.answer) same run.sent) later noted_on begins has_put is_history own left end run.read_to run.short run.ended;
      }

    pub link_seen : {left' : Option (List ℕ)} → IsLinkRun device first r left left' old new end → IfSome (refusal_of_end end) (IsSeenIn device first closed)
    link_seen run = seen_end run.read r run.put old new run.answer run.sent later noted_on end run.ended

  -- ---- a filler

  module _ {T : Type 0} (old new : PassView Item Fill T) (alone : FillsAlone first old new) (none : old.fills.places ≡ []) (later : IsPrefix new.history.seen closed.history) (noted_on : IsPrefix new.fills.seen last) where
    -- a fault at a place of its own is that of a fill
    fill_fault : (place count : ℕ) (addition : Addition) → Contains new.fills.places place → slice_get new.fills.seen place ≡ Some (Fault count true addition) → IsOfFill addition
    fill_fault place count addition has there = go (alone.noted place has)
      where
        fill_only : IsNoBatchFault first.sealed (Fault count true addition) → IsOfFill addition
        fill_only (inl is) = is
        fill_only (inr (paged, (c, e))) = absurd (cc e)

        go : Contains old.fills.places place ⊎ IsFillNote first new.history.seen new.fills.seen place → IsOfFill addition
        go (inl before) = absurd (none_there old.fills.places place none before)
        go (inr note) = fill_only (subst (IsNoBatchFault first.sealed) (sym (same_at new.fills.seen place note.item (Fault count true addition) note.there there)) note.of_fill)

    -- the disk failed at a fill, or at a read
    fill_or_read : (place : ℕ) → Contains new.fills.places place → IsWriteFaultAt new.fills.seen place ⊎ ((0 < first.sealed) × IsReadFaultAt new.fills.seen place) → IsFillFailed failed ⊎ (0 < first.sealed)
    fill_or_read place has (inl (count, addition, there)) =
        inl (addition, of_fault place count addition (stands_on new.fills.seen last place (Fault count true addition) noted_on there), fill_fault place count addition has there)
    fill_or_read place has (inr read) = inr read.0

    filler_cause : (refusal : Refusal) → IsFillerRefusal device first new.fills.places new.history.seen new.fills.seen refusal → IsFillerCause (disk_facts device first.opened first.sealed) failed (Some refusal)
    filler_cause OutOfMemory is = tt
    filler_cause (NeedsReopen faults) is = of_pending new.fills.seen faults noted_on is
    filler_cause (Limit which number) is = (is.0, is.1)
    filler_cause DiskFault is = fill_or_read is.place is.noted is.there
    filler_cause (Damaged file at) is = is
    filler_cause other is = absurd is

    filler_seen : (refusal : Refusal) → IsFillerRefusal device first new.fills.places new.history.seen new.fills.seen refusal → IsSeenIn device first closed refusal
    filler_seen (Limit which number) is = λ told same. still_full first closed last recorded settled_on new.history.seen new.fills.seen later noted_on is.2
    filler_seen (NeedsReopen faults) is = pending_in new.fills.seen faults noted_on is
    filler_seen DiskFault is = counted is.place is.there
      where
        counted : (place : ℕ) → IsWriteFaultAt new.fills.seen place ⊎ ((0 < first.sealed) × IsReadFaultAt new.fills.seen place) → IsSeenIn device first closed DiskFault
        counted place (inl (count, addition, there)) = fault_counted place count true addition (stands_on new.fills.seen last place (Fault count true addition) noted_on there)
        counted place (inr (paged, (count, there))) = fault_counted place count false Nothing (stands_on new.fills.seen last place (Fault count false Nothing) noted_on there)
    filler_seen other is = tt

    pub filler_came : (refusal : Option Refusal) → IfSome refusal (IsRefusalOf device first new) → IsFillerCause (disk_facts device first.opened first.sealed) failed refusal × IfSome refusal (IsSeenIn device first closed)
    filler_came None is = (tt, tt)
    filler_came (Some refusal) is = (filler_cause refusal is, filler_seen refusal is)

-- ---- a reader

-- it is refused for want of memory, or since rows aren't read
reader_refusal : (facts : DiskFacts) (opened : FilledArchive) (old seen : List Item) (asks : List FoundAsk) (answers : List AskAnswer) (refusal : Option Refusal) → AreAnswered facts opened old seen asks answers refusal
    → IsReaderCause facts refusal
reader_refusal facts opened old seen [] [] None are = tt
reader_refusal facts opened old seen [] [] (Some refusal) are = absurd are
reader_refusal facts opened old seen [] (answer ∷ answers) refusal are = absurd are
reader_refusal facts opened old seen (ask ∷ asks) [] None are = absurd are
reader_refusal facts opened old seen (ask ∷ asks) [] (Some refusal) are = are
reader_refusal facts opened old seen (ask ∷ asks) (answer ∷ answers) refusal are = reader_refusal facts opened are.0.over seen asks answers refusal are.1

reader_seen : {D : Type 0} (device : Device D) (first closed : StoreView D) (refusal : Option Refusal) → IsReaderCause (disk_facts device first.opened first.sealed) refusal → (refusal ≡ Some DiskFault → IsSeenIn device first closed DiskFault)
    → IfSome refusal (IsSeenIn device first closed)
reader_seen device first closed None is counted = tt
reader_seen device first closed (Some DiskFault) is counted = counted refl
reader_seen device first closed (Some (Damaged file at)) is counted = tt
reader_seen device first closed (Some OutOfMemory) is counted = tt
reader_seen device first closed (Some other) is counted = absurd is

-- ---- all jobs

module _ {D S : Type 0} (device : Device D) (state : S → SourceState) (first closed : StoreView D) (g : JobSetting) (failed : Option Addition) where
  -- this came of a job: of a link's rows and source, of a reader's answers, of what refused it, and what the store tells of that
  abbrev pub CameTo : Order S → JobEnd S → Type 0
  CameTo (Ordered.Link link source wake) (Ended.Link number back end) =
      LinkLoads (disk_facts device first.opened first.sealed) first.exponent failed closed.history (receiving g.head first.history g.route link g.moment) (state source).left end
      × IsSourceRead end (state source) (state back) × IfSome (refusal_of_end end) (IsSeenIn device first closed)
  CameTo (Ordered.Reader before) (Ended.Reader answers refusal) =
      AreAnswered (disk_facts device first.opened first.sealed) (filled_of first) first.history closed.history (every_fourth before g.asks) answers refusal
      × IsReaderCause (disk_facts device first.opened first.sealed) refusal × IfSome refusal (IsSeenIn device first closed)
  CameTo (Ordered.Filler wakes) (Ended.Filler refusal) = IsFillerCause (disk_facts device first.opened first.sealed) failed refusal × IfSome refusal (IsSeenIn device first closed)
  CameTo order end = ⊥

  abbrev pub Owns : List LinkWork → Type 0
  Owns works = (work : LinkWork) → Contains works work → filter (λ row. row.link == work.link) (rows_in (drop (length first.history) closed.history)) ≡ work.rows

  module _ (last : List Fill) (recorded : first.records + dones closed.fills ≤ closed.records + dones first.fills) (settled_on : IsPrefix last closed.fills)
      (of_fault : (place count : ℕ) (addition : Addition) → slice_get last place ≡ Some (Fault count true addition) → failed ≡ Some addition)
      (of_pending : (fills : List Fill) (n : ℕ) → IsPrefix fills last → pending_fault_of fills ≡ Some n → IsSome failed)
      (pending_in : (fills : List Fill) (n : ℕ) → IsPrefix fills last → pending_fault_of fills ≡ Some n → pending_fault_of closed.fills ≡ Some n)
      (fault_counted : (place count : ℕ) (wrote : Bool) (addition : Addition) → slice_get last place ≡ Some (Fault count wrote addition) → IsSeenIn device first closed DiskFault) (is_history : IsHistory (rows_in closed.history)) where
    link_came : (p : JobPass (HeldStore D)) (link : ℕ) (source : S) (end : LinkEnd) → BeganWith first p → EndedWithin closed.history last p → {left' : Option (List ℕ)} → (run : IsLinkRun device first (received_by g link p.began) (state source).left left' p.began p.ended end)
        → filter (λ row. row.link == link) (rows_in (drop (length first.history) closed.history)) ≡ run.put
        → LinkLoads (disk_facts device first.opened first.sealed) first.exponent failed closed.history (receiving g.head first.history g.route link g.moment) (state source).left end × IfSome (refusal_of_end end) (IsSeenIn device first closed)
    link_came p link source end began within run own =
        let left = (state source).left in
        let r = received_by g link p.began in
        let same = began.history in
        let begins = run.added.begins.0 in (
          subst (λ (h : List Item). LinkLoads (disk_facts device first.opened first.sealed) first.exponent failed closed.history (receiving g.head h g.route link g.moment) left end) same
              (link_loads device first closed last failed recorded settled_on of_fault of_pending pending_in fault_counted r left run.put p.began p.ended end within.0 within.1 begins run.added.has_put is_history
              (subst (λ (h : List Item). filter (λ row. row.link == link) (rows_in (drop (length h) closed.history)) ≡ run.put) (sym same) own) run refl),
          link_seen device first closed last failed recorded settled_on of_fault of_pending pending_in fault_counted r left run.put p.began p.ended end within.0 within.1 run,
        )

    pub each_comes : (passes : List (JobPass (HeldStore D))) (orders : List (Order S)) (ends : List (JobEnd S)) (each : AreOutcomesOf device state first g passes orders ends)
        → AllByRecursion (BeganWith first) passes → AllByRecursion (EndedWithin closed.history last) passes → Owns (works_of device state first g passes orders ends each)
        → EachDid CameTo orders ends
    each_comes [] [] [] each began within own = tt
    each_comes [] [] (end ∷ ends) each began within own = absurd each
    each_comes [] (order ∷ orders) ends each began within own = absurd each
    each_comes (p ∷ passes) [] ends each began within own = absurd each
    each_comes (p ∷ passes) (order ∷ orders) [] each began within own = absurd each
    each_comes (p ∷ passes) (Ordered.Link link source wake ∷ orders) (Ended.Link number back end ∷ ends) each began within own =
        let run = each.0.0 in
        let work = work_of link run.put p.ended in
        let came = link_came p link source end began.0 within.0 run (own work (0, omega arith, refl)) in (
          (came.0, each.0.1, came.1),
          each_comes passes orders ends each.1 began.1 within.1 (λ w inside. own w (later_contains work (works_of device state first g passes orders ends each.1) w inside)),
        )
    each_comes (p ∷ passes) (Ordered.Reader before ∷ orders) (Ended.Reader answers refusal ∷ ends) each began within own =
        let asks = every_fourth before g.asks in
        let are = are_answered_later (disk_facts device first.opened first.sealed) (filled_of first) first.history p.ended.history.seen closed.history asks answers refusal within.0.0
        (subst (λ (h : List Item). AreAnswered (disk_facts device first.opened first.sealed) (filled_of first) h p.ended.history.seen asks answers refusal) began.0.history each.0.1) in
        let why = reader_refusal (disk_facts device first.opened first.sealed) (filled_of first) first.history closed.history asks answers refusal are in (
          (
            are,
            why,
            reader_seen device first closed refusal why (λ failed. let noted = each.0.2 failed in let at = noted.there in
                fault_counted noted.place at.0 false Nothing (stands_on p.ended.fills.seen last noted.place (Fault at.0 false Nothing) within.0.1 at.1)),
          ),
          each_comes passes orders ends each.1 began.1 within.1 own,
        )
    each_comes (p ∷ passes) (Ordered.Filler wakes ∷ orders) (Ended.Filler refusal ∷ ends) each began within own = (
      filler_came device first closed last failed recorded settled_on of_fault of_pending pending_in fault_counted p.began p.ended each.0.0 began.0.none.1 within.0.0 within.0.1 refusal each.0.2,
      each_comes passes orders ends each.1 began.1 within.1 own,
    )
    each_comes (p ∷ passes) (order ∷ orders) (end ∷ ends) each began within own = absurd each.0
