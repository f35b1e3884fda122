-- How the sending of a dump ends.
use Rattle.std.proofs.Common.{◌≡◌, ◌⊎◌, inl, inr, ℕ, ◌+◌, ◌<◌, ◌≤◌, List, [], ◌∷◌, ◌++◌, length, take, drop, Bool, true, false, Option, Some, None, Result, Ok, Err, refl, sym, ap, subst, ◌∙◌, arith, append-nil, append_assoc, length-append, ltb}
use Rattle.std.specs.Prelude.{slice_get}
use Rattle.std.specs.List.{range_with_len}
use Rattle.std.proofs.Math.Seq.{take-append_seam}
use Rattle.std.proofs.lemmas.Bool.{ltb-true, ltb-false}
use Rattle.std.proofs.lemmas.List.{take_all}
use Rattle.arch_disk.specs.Disk.{Device}
use Rattle.arch_types.specs.declared.row.Row.{Row}
use Rattle.arch_types.specs.Dump.{BeginsWithNoPacket, IsDump}
use Rattle.refusals.specs.declared.refusal.Refusal.{Refusal}
use Rattle.refusals.specs.declared.refusal.Refusal.TheVariants as refused
use Rattle.refusals.specs.declared.refusal.Which.{Which}
use Rattle.history_items.specs.declared.fills.Addition.TheVariants as additions
use Rattle.history_items.specs.declared.fills.Fill.{Fill}
use Rattle.history_items.specs.declared.fills.Fill.TheVariants.{Fault}
use Rattle.history_items.specs.declared.items.Item.{Item}
use Rattle.history_items.specs.Fills.{pending_fault_of}
use Rattle.history_items.specs.Items.{after_rows, items_of}
use Rattle.history_items.specs.Outcomes.{fresh_of}
use Rattle.space_packet.specs.declared.dump.Why.{Why}
use Rattle.space_packet.specs.Cut.{IsCut}
use Rattle.space_packet.specs.Rest.{why_of}
use Rattle.space_packet.proofs.Cuts.{cut_whole}
use Rattle.shared_history.specs.Sent.{HasSent}
use Rattle.shared_history.proofs.Putting.{get_next}
use Rattle.turn_cell.specs.Pass.{PassView}
use Rattle.archive_store.specs.Batches.{batch_rows}
use Rattle.archive_store.specs.Calls.{IsIngestRefusal}
use Rattle.archive_store.specs.Limits.{IsLimit}
use Rattle.archive_store.specs.StoreView.{StoreView}
use Rattle.archive_store.proofs.Calls.{ingest_cases}
use Rattle.archive_store.specs.Pages.{TellsRows}
use Rattle.live_archive.specs.Added.{AddsTo, AreBatchFaults}
use Rattle.live_archive.specs.Answers.{SaysIngested}
use Rattle.live_archive.specs.GoesOn.{GoesOn, dones}
use Rattle.live_archive.specs.Reads.{IsUnread}
use Rattle.live_archive.specs.Turns.{TookTurn}
use Rattle.live_archive.proofs.Added.{ingests_add}
use Rattle.live_archive.proofs.Going.{told_on}
use Rattle.live_archive.proofs.Unread.{unread_is, unread_on}
use Rattle.load_session.specs.declared.batches.NextBatch.{NextBatch}
use Rattle.load_session.specs.declared.session.DumpSummary.{DumpSummary}
use Rattle.load_session.specs.Batches.{batch_at}
use Rattle.load_session.specs.Receiving.{Receiving, rows_received}
use Rattle.load_session.specs.Session.{SessionResult}
use Rattle.load_jobs.specs.Links.{HasAdded, HasNoted, IsDumpSent, IsRecordedIn, IsSendingEnd, batches_of}
use Rattle.load_jobs.specs.Underway.{IsATurnEach, IsSentSoFar}
use Rattle.load_jobs.proofs.Batches.{IsNextBatch, batch_is, between_is}
use Rattle.load_jobs.proofs.Completed.{completes}
use Rattle.load_jobs.proofs.SentSoFar.{sent_same}
use Rattle.load_jobs.proofs.Taken.{IsTaken, turns_counted}

module _ {D T : Type 0} (device : Device D) (first : StoreView D) (dump : List ℕ) (r : Receiving) (old : PassView Item Fill T) where
  -- its turns put rows, and this became of the dump
  abbrev pub EndedSo : PassView Item Fill T → Result DumpSummary Refusal → Type 0
  EndedSo new answer = (put : List Row) × HasAdded r.link put old new × IsDumpSent device first dump r put old new answer

  -- it came to this: these packets, of which those before a place were sent
  abbrev came_to : PassView Item Fill T → List (List ℕ) → List ℕ → ℕ → Option Refusal → SessionResult
  came_to now packets rest place refusal = record { packets = packets; rest = rest; place = place; reached = now.history.seen; refusal = refusal }

  stopped : (so_far more : List (List ℕ)) (rest : List ℕ) (at packets idle routed : ℕ) (now : PassView Item Fill T) (refusal : Refusal) → IsTaken dump r so_far at packets idle routed
      → IsDump dump (so_far ++ more) rest → IsSentSoFar (TellsRows device first) r so_far old now
      → HasNoted device first r (came_to now (so_far ++ more) rest (length so_far) (Some refusal)) old now (Some refusal) → now.turns ≤ old.turns + batches_of (length so_far) + 1
      → IsSendingEnd device first r (came_to now (so_far ++ more) rest (length so_far) (Some refusal)) now (Some refusal) → EndedSo now (Err refusal)
  stopped so_far more rest at packets idle routed now refusal t parts s noted turned cause =
      let ones : take (length so_far) (so_far ++ more) ≡ so_far = take-append_seam so_far more in (
        s.put,
        s.added,
        record {
          came_to = came_to now (so_far ++ more) rest (length so_far) (Some refusal);
          parts = parts;
          within = let l = length-append so_far more in omega (arith, l);
          between = between_is dump so_far more at rest t.cut t.batches parts;
          reached = refl;
          few = subst (λ (l : List (List ℕ)). length s.put ≤ length (rows_received r l)) (sym ones) s.few;
          sent = λ told. subst (λ (l : List (List ℕ)). HasSent (rows_received r l) now.history.seen s.put) (sym ones) (s.has_sent told);
          noted = noted;
          turned = turned;
          cause = cause;
          answer_is = refl;
          summary = tt;
        },
      )

  module _ (so_far : List (List ℕ)) (start packets idle routed : ℕ) (t : IsTaken dump r so_far start packets idle routed) (mid : PassView Item Fill T) (s : IsSentSoFar (TellsRows device first) r so_far old mid)
      (silent : mid.fills.places ≡ old.fills.places) (turns : IsATurnEach old.turns mid.turns so_far) where
    -- no packets follow
    pub all_sent : (end : ℕ) (taken : NextBatch) (why : Why) → IsNextBatch dump start end r taken → taken.packets ≡ 0 → (taken.packets < 64 → BeginsWithNoPacket (drop end dump)) → why ≡ why_of (drop end dump)
        → EndedSo mid (Ok (record { packets = packets; idle = idle; routed = routed; at = end; why = why }))
    all_sent end taken why n none last why_is =
        let cut = no_more n.packets (let count = n.count in omega (arith, count, none)) (n.run.follows so_far t.cut) in
        let all : take (length so_far) so_far ≡ so_far = take_all (length so_far) so_far (omega arith) in (
          s.put,
          s.added,
          record {
            came_to = came_to mid so_far (drop end dump) (length so_far) None;
            parts = cut_whole dump so_far end cut (last (omega (arith, none)));
            within = omega arith;
            between = inl refl;
            reached = refl;
            few = subst (λ (l : List (List ℕ)). length s.put ≤ length (rows_received r l)) (sym all) s.few;
            sent = λ told. subst (λ (l : List (List ℕ)). HasSent (rows_received r l) mid.history.seen s.put) (sym all) (s.has_sent told);
            noted = silent;
            turned = turns_counted old.turns mid.turns so_far turns;
            cause = refl;
            answer_is = refl;
            summary = record { within = cut.within; rest = refl; why = why_is; of_packets = t.of_packets; of_idle = t.of_idle; of_routed = t.of_routed };
          },
        )
      where
        no_more : (ps : List (List ℕ)) → length ps ≡ 0 → IsCut dump (so_far ++ ps) end → IsCut dump so_far end
        no_more [] e cut = subst (λ (l : List (List ℕ)). IsCut dump l end) (append-nil so_far) cut
        no_more (p ∷ ps) e cut = absurd (omega (arith, e))

    -- want of memory before a batch
    pub sent_no_memory : EndedSo mid (Err refused.OutOfMemory)
    sent_no_memory =
        let all = completes dump so_far start t.cut in
        let counted = turns_counted old.turns mid.turns so_far turns in
        stopped so_far all.0 all.1 start packets idle routed mid refused.OutOfMemory t all.2 s silent (omega (arith, counted)) tt

    -- ---- a batch was refused

    module _ (new : PassView Item Fill T) (end : ℕ) (taken : NextBatch) (n : IsNextBatch dump start end r taken) where
      module _ (more : List (List ℕ)) (rest : List ℕ) (full : (length n.packets ≡ 64) ⊎ (more ≡ [])) (parts : IsDump dump (so_far ++ (n.packets ++ more)) rest)
          (before after : StoreView D) (found : GoesOn device first before) (noted : List Fill) (a : AddsTo before mid new [] noted) where
        abbrev all : List (List ℕ)
        all = so_far ++ (n.packets ++ more)

        abbrev state : Refusal → SessionResult
        state e = came_to new all rest (length so_far) (Some e)

        one_more : new.turns ≤ old.turns + batches_of (length so_far) + 1
        one_more =
            let counted = turns_counted old.turns mid.turns so_far turns in
            let one = a.turns in
            omega (arith, counted, one)

        end_with : (e : Refusal) → HasNoted device first r (state e) old new (Some e) → IsSendingEnd device first r (state e) new (Some e) → EndedSo new (Err e)
        end_with e noted_so = stopped so_far (n.packets ++ more) rest start packets idle routed new e t parts (sent_same r before old mid new so_far noted a s) noted_so one_more

        rows : batch_rows taken.batch ≡ rows_received r (batch_at (length so_far) all)
        rows = n.batch.rows ∙ ap (rows_received r) (sym (batch_is so_far n.packets more n.few full))

        history : new.history.seen ≡ before.history
        history = a.history.seen ∙ append-nil before.history

        -- where nothing was noted
        fills : noted ≡ [] → new.fills.seen ≡ before.fills
        fills none = a.fills.seen ∙ (ap (λ (l : List Fill). before.fills ++ l) none ∙ append-nil before.fills)

        places : noted ≡ [] → new.fills.places ≡ old.fills.places
        places none =
            a.fills.places ∙ (ap (λ (l : List Fill). mid.fills.places ++ range_with_len (length before.fills) (length l)) none ∙ (append-nil mid.fills.places ∙ silent))

        recorded : noted ≡ [] → IsRecordedIn first new before.records
        recorded none =
            let had = found.records in
            let items = ap length history in
            let done = ap dones (fills none) in
            omega (arith, had, items, done)

        limit_of_batch : (which : Which) → IsLimit before.exponent which before.records (after_rows before.history (batch_rows taken.batch))
            → IsLimit first.exponent which before.records (after_rows new.history.seen (rows_received r (batch_at (length so_far) all)))
        limit_of_batch which passed =
            subst (λ (l : List Row). IsLimit first.exponent which before.records (after_rows new.history.seen l)) rows
            (subst (λ (h : List Item). IsLimit first.exponent which before.records (after_rows h (batch_rows taken.batch))) (sym history)
            (subst (λ (x : ℕ). IsLimit x which before.records (after_rows before.history (batch_rows taken.batch))) found.appends.exponent passed))

        -- where the disk failed
        noted_at : (fault : Fill) → noted ≡ fault ∷ [] → (new.fills.places ≡ old.fills.places ++ length before.fills ∷ []) × (slice_get new.fills.seen (length before.fills) ≡ Some fault)
        noted_at fault is = (
          a.fills.places ∙ (ap (λ (l : List Fill). mid.fills.places ++ range_with_len (length before.fills) (length l)) is ∙ ap (λ (l : List ℕ). l ++ length before.fills ∷ []) silent),
          ap (λ (l : List Fill). slice_get l (length before.fills)) a.fills.seen
              ∙ (ap (λ (l : List Fill). slice_get (before.fills ++ l) (length before.fills)) is ∙ get_next before.fills fault []),
        )

        noted_fault : AreBatchFaults device before (batch_rows taken.batch) refused.DiskFault noted → HasNoted device first r (state refused.DiskFault) old new (Some refused.DiskFault)
        noted_fault (inl (fresh, are, (count, is))) =
            let at = noted_at (Fault count true (additions.Rows fresh)) is in
            let known : TellsRows device first → fresh ≡ fresh_of new.history.seen (rows_received r (batch_at (length so_far) all)) = λ told.
            are.told (told_on device first before found.appends.sealed told)
            ∙ (ap (λ (h : List Item). fresh_of h (batch_rows taken.batch)) (sym history) ∙ ap (fresh_of new.history.seen) rows) in
            (length before.fills, at.0, inl (count, fresh, at.1, known))
        noted_fault (inr (paged, (count, is))) =
            let at = noted_at (Fault count false additions.Nothing) is in
            (length before.fills, at.0, inr (subst (λ (n : ℕ). 0 < n) found.appends.sealed paged, (count, at.1)))

        -- where rows weren't read
        unread_for : (e : Refusal) → IsUnread (TellsRows device first) first.sealed e → AreBatchFaults device before (batch_rows taken.batch) e noted → EndedSo new (Err e)
        unread_for refused.DiskFault why are = end_with refused.DiskFault (noted_fault are) tt
        unread_for (refused.Damaged file at) why are = end_with (refused.Damaged file at) (places are) why
        unread_for refused.OutOfMemory why are = end_with refused.OutOfMemory (places are) tt
        unread_for _ why are = absurd why

        ended_for : (e : Refusal) → IsIngestRefusal device before after (batch_rows taken.batch) e → AreBatchFaults device before (batch_rows taken.batch) e noted → EndedSo new (Err e)
        ended_for e said are =
            ingest_cases device before after (batch_rows taken.batch) (λ r. AreBatchFaults device before (batch_rows taken.batch) r noted → EndedSo new (Err r)) e said
            (λ faults r are. end_with (refused.NeedsReopen faults) (places are) (ap pending_fault_of (fills are) ∙ r.0))
            (λ which number r are. end_with (refused.Limit which number) (places are) (λ told.
            let passes = r.1 (told_on device first before found.appends.sealed told) in
            (passes.number_is, (before.records, recorded are, limit_of_batch which passes.first))))
            (λ failed are. end_with refused.DiskFault (noted_fault are) tt)
            (λ refusal r are. unread_for refusal (unread_on device first before found.appends.sealed refusal (unread_is device before after refusal r.unread)) are)
            (λ r are. end_with refused.OutOfMemory (places are) tt) are

      stopped_for : (refusal : Refusal) (more : List (List ℕ)) (rest : List ℕ) → (length n.packets ≡ 64) ⊎ (more ≡ []) → IsDump dump (so_far ++ (n.packets ++ more)) rest
          → TookTurn device first mid new (SaysIngested device (batch_rows taken.batch) (Err refusal)) → EndedSo new (Err refusal)
      stopped_for refusal more rest full parts turn =
          let adds = ingests_add T device first turn.before turn.after mid new (batch_rows taken.batch) (Err refusal) turn.turned turn.said in
          let none = subst (λ (l : List Row). AddsTo turn.before mid new (items_of l) adds.1) adds.2.0 adds.3 in
          ended_for more rest full parts turn.before turn.after turn.turned.found adds.1 none refusal turn.said adds.2.1

      pub batch_refused : (refusal : Refusal) → (taken.packets < 64 → BeginsWithNoPacket (drop end dump))
          → TookTurn device first mid new (SaysIngested device (batch_rows taken.batch) (Err refusal)) → EndedSo new (Err refusal)
      batch_refused refusal last turn = go (ltb taken.packets 64) refl
        where
          go : (b : Bool) → ltb taken.packets 64 ≡ b → EndedSo new (Err refusal)
          go true less =
              let whole = cut_whole dump (so_far ++ n.packets) end (n.run.follows so_far t.cut) (last (ltb-true taken.packets 64 less)) in
              stopped_for refusal [] (drop end dump) (inr refl) (subst (λ (l : List (List ℕ)). IsDump dump (so_far ++ l) (drop end dump)) (sym (append-nil n.packets)) whole) turn
          go false full =
              let all = completes dump (so_far ++ n.packets) end (n.run.follows so_far t.cut) in
              let least = ltb-false taken.packets 64 full in
              let count = n.count in
              let few = n.few in
              stopped_for refusal all.0 all.1 (inl (omega (arith, least, count, few))) (subst (λ (l : List (List ℕ)). IsDump dump l all.1) (append_assoc so_far n.packets all.0) all.2) turn
