-- Why a load is refused by what is reported of its jobs.
use Rattle.std.proofs.Common.{◌≡◌, ◌⊎◌, ◌∙◌, inl, inr, ℕ, ℤ, ◌+◌, ◌<◌, ◌≤◌, List, [], ◌∷◌, length, drop, true, Option, Some, None, refl, sym, ap, subst, arith}
use Rattle.std.specs.Prelude.{IfSome, IsSome, IsSomeAnd}
use Rattle.std.specs.FinMap.{get}
use Rattle.std.specs.List.{AllByRecursion, list_any}
use Rattle.std.proofs.lemmas.List.{length-drop, length-take}
use Rattle.arch_disk.specs.Disk.{Device, raised}
use Rattle.arch_types.specs.declared.row.Row.{Row}
use Rattle.archive_history.specs.Limits.{PassesFirst}
use Rattle.asks.specs.declared.ask.Ask.{Ask}
use Rattle.refusals.specs.declared.refusal.BadKind.{BadKind}
use Rattle.refusals.specs.declared.refusal.BadKind.TheVariants as bad
use Rattle.refusals.specs.declared.refusal.Refusal.{Refusal}
use Rattle.refusals.specs.declared.refusal.Refusal.TheVariants.{BadPacket, Damaged, DiskFault, Limit, NeedsReopen, OutOfMemory, ReadFault}
use Rattle.refusals.specs.declared.refusal.Which.{Which}
use Rattle.refusals.specs.declared.refusal.Which.TheVariants.{DumpOctets, Records}
use Rattle.refusals.specs.Limits.{limit_of}
use Rattle.outer_traits.specs.Outside.{Files}
use Rattle.history_items.specs.declared.fills.Addition.TheVariants.{Rows}
use Rattle.history_items.specs.declared.items.Item.{Item}
use Rattle.history_items.specs.Items.{after_rows, rows_in}
use Rattle.history_items.proofs.Outcomes.{fresh_added}
use Rattle.space_packet.specs.declared.dump.Why.{Why}
use Rattle.space_packet.specs.declared.dump.Why.TheVariants as why
use Rattle.space_packet.specs.Rest.{why_of}
use Rattle.archive_store.specs.Entries.{FilledArchive}
use Rattle.archive_store.specs.Stands.{StandsFor}
use Rattle.live_asks.specs.LiveAsks.{DiskFacts}
use Rattle.load_session.specs.During.{with_history}
use Rattle.archive_store.specs.Limits.{IsLimit}
use Rattle.load_session.specs.Session.{next_fresh_rows, next_rows}
use Rattle.load_jobs.specs.Ends.{IsReadTo, is_of_dump, kind_of_rest, refusal_of_end}
use Rattle.load_jobs.specs.declared.ending.LinkEnd.{LinkEnd}
use Rattle.load_jobs.specs.declared.ending.LinkEnd.TheVariants.{Whole, Rest, Unread, TooLong, Refused}
use Rattle.live_session.specs.declared.reported.ReportedRefusal.{ReportedRefusal}
use Rattle.live_session.specs.Links.{IsSentCause, IsSentInto, IsSentTo}
use Rattle.live_session.specs.Outcome.{IsFillerCause, JobsOutcome, reported_of}
use Rattle.command_words.specs.Job.{LoadWords}
use Rattle.command_runs.specs.Causes.{IsCountedSince}
use Rattle.command_runs.specs.DumpRest.{IsBadRest, dump_limit}
use Rattle.command_runs.proofs.DumpRest.{bad_rest, why_bad}
use Rattle.load_command.specs.Loading.{is_unread}
use Rattle.command_laws.specs.Calls.{Call}
use Rattle.command_laws.specs.Load.{ArePassed, AreRecordsPassed, IsBroken, IsOverlong, IsReached, IsReportedOf, WasOverLimit, WasPending, load_given}
use Rattle.command_laws.proofs.FirstRefused.{Earlier, IsFirstRefused, IsOtherRefused}
use Rattle.command_laws.proofs.JobsLoaded.{CameToJobs, comes_of, dump_there, fault_of_one, moment, only_rows, place_within, sent_dump, sent_received, sent_there, some_left, to}

-- ---- what is wrong with a dump

-- a dump that goes on behind the limit was read to it
some_long : (o : Option (List ℕ)) (read : List ℕ) → IsSome o → IsReadTo o read TooLong → IsSomeAnd o (λ octets. dump_limit < length octets) × (length read ≡ dump_limit)
some_long None read some over = absurd (cc (some))
some_long (Some octets) read some over =
    let longer = over.0 in
    let whole = ap length over.1 ∙ length-take (limit_of DumpOctets) octets in
    (over.0, omega (arith, longer, whole))

-- one whose last packet is cut off was read to its end
to_its_end : (o : Option (List ℕ)) (read : List ℕ) (place : ℕ) (kind : BadKind) → kind ≡ bad.Truncated → IsReadTo o read (Rest place kind) → IfSome o (λ octets. octets ≡ read)
to_its_end o read place bad.Truncated is to = to
to_its_end o read place bad.Version is to = absurd (cc is)

why_is : (why' : Why) (kind : BadKind) → kind_of_rest why' ≡ Some kind → why_bad kind ≡ why'
why_is why.End kind is = absurd (cc (is))
why_is why.Version bad.Version is = refl
why_is why.Version bad.Truncated is = absurd (cc (is))
why_is why.Truncated bad.Truncated is = refl
why_is why.Truncated bad.Version is = absurd (cc (is))

-- a rest that begins at an octet, and is no packet
rest_is_bad : (dump rest : List ℕ) (place : ℕ) (kind : BadKind) → rest ≡ drop place dump → kind_of_rest (why_of rest) ≡ Some kind → IsBadRest dump rest place kind
rest_is_bad dump [] place kind is no_packet = absurd (cc (no_packet))
rest_is_bad dump (octet ∷ rest) place kind is no_packet =
    let long = ap (λ (l : List ℕ). length l) is ∙ length-drop place dump in
    bad_rest dump (octet ∷ rest) place kind (omega (arith, long)) (why_is (why_of (octet ∷ rest)) kind no_packet)

-- ---- the cause

module _ (files : Files) (clock : Option ℤ) (words : LoadWords) (before : FilledArchive) (facts : DiskFacts) (asks : List Ask) (c : JobsOutcome) (came : CameToJobs files clock words before facts asks c)
    {D : Type 0} (device : Device D) (e : Call D) where
  abbrev now : ℤ
  now = moment files clock words before facts asks c came

  -- A call ended by what is reported of the jobs.
  pub record IsReportedEnd (t : ReportedRefusal) : Type 0 where
    pub refusal : e.report.refusal ≡ Some t.refusal
    pub opened : e.report.opened ≡ true
    pub link : e.report.link ≡ t.link
    pub holds : (length words.dumps ≡ 1 → StandsFor (device.reads e.disk') (with_history before.plain c.reached)) → IsReached device e files now words before c.reached
    pub exact : ((rows : List Row) → c.failed ≡ Some (Rows rows) → ⊥) → StandsFor (device.reads e.disk') (with_history before.plain c.reached)
    pub faulted : IsSome c.failed ⊎ (c.unread ≡ true) → raised (device.fault_count e.disk) ≤ device.fault_count e.disk'
    pub pending : (faults : ℕ) → t.refusal ≡ NeedsReopen faults → IsSome c.failed → IsCountedSince device e.disk e.disk' (Some faults)
    pub recorded : (number : ℕ) → t.refusal ≡ Limit Records number → AreRecordsPassed device e before c.reached

  -- memory was wanting, or a call of the inputs or of the disk failed
  abbrev pub IsCut : Refusal → Type 0
  IsCut OutOfMemory = Unit {0}
  IsCut ReadFault = list_any is_unread c.ends ≡ true
  IsCut DiskFault = raised (device.fault_count e.disk) ≤ device.fault_count e.disk'
  IsCut other = ⊥

  -- How far the links came: those before this one are whole.
  pub record StopsAt : Type 0 where
    pub upto : ℕ
    pub low : words.link ≤ upto
    pub earlier : Earlier files clock words before facts asks c came upto

  abbrev pub IsBrokenSome : Type 0
  IsBrokenSome = (link : ℕ) × (place : ℕ) × (kind : BadKind) × IsBroken device e (load_given files clock words before) link place kind

  abbrev pub IsOverlongSome : Type 0
  IsOverlongSome = (link : ℕ) × IsOverlong device e (load_given files clock words before) link

  -- Why it is reported: a dump has a rest that is no packet, or is too long; the load was cut off; or a write had failed, or a limit is passed.
  abbrev pub IsReportedCause : ReportedRefusal → Type 0
  IsReportedCause t = IsBrokenSome ⊎ (IsOverlongSome ⊎ (IsCut t.refusal ⊎ (StopsAt × (WasPending device e ⊎ WasOverLimit device e files clock words before))))

  module _ (t : ReportedRefusal) (end : IsReportedEnd t) (reported_is : reported_of words.link c.ends c.others ≡ Some t) where
    -- where it is no fault of the disk, and there is one dump, no batch of that failed
    reached_so : (t.refusal ≡ DiskFault → ⊥) → IsReached device e files now words before c.reached
    reached_so apart = end.holds (λ one. end.exact (λ rows failed. apart (fault_of_one files clock words before facts asks c came one rows failed t reported_is)))

    -- a limit that is passed by what is known of it
    over_limit : (which : Which) → t.refusal ≡ Limit which (limit_of which) → ArePassed files now words before c.reached which ⊎ ((which ≡ Records) × AreRecordsPassed device e before c.reached)
        → WasOverLimit device e files clock words before
    over_limit which is passed = record {
      moment = now;
      known = came.given.moment;
      reached = c.reached;
      holds = reached_so (λ fault. let never : Limit which (limit_of which) ≡ DiskFault = sym is ∙ fault in absurd (cc (never)));
      which = which;
      limit = end.refusal ∙ ap Some is;
      passed = passed;
    }

    module _ (first : IsFirstRefused files clock words before facts asks c came t) where
      abbrev Sent : Type 0
      Sent = IsSentInto facts before.plain.exponent c.failed c.reached (to files clock words before facts asks c came first.link) (get files first.name) first.loads.put first.end

      abbrev reported_of_dump : is_of_dump first.end ≡ true → (t.refusal ≡ DiskFault → ⊥) → IsReportedOf device e (load_given files clock words before) first.link
      reported_of_dump of_dump apart = record {
        moment = now;
        known = came.given.moment;
        reached = c.reached;
        holds = reached_so apart;
        earlier = first.earlier;
        named = end.link ∙ first.named of_dump;
      }

      stops_here : Sent → StopsAt
      stops_here sent = record {
        upto = first.link;
        low = (comes_of words first.link first.name first.comes).0;
        earlier = first.earlier;
      }

      -- where there is one dump, its link came to all of the history
      alone_reached : (sent : Sent) → length words.dumps ≡ 1 → sent.came_to.reached ≡ c.reached
      alone_reached sent one =
          let within = place_within words.dumps first.comes.place first.name first.comes.name_is in
          let number = first.comes.number in
          let same : words.link ≡ first.link = omega (arith, number, within, one) in
          (sent.alone came.told came.outcome.more came.outcome.grown
          (subst (λ (n : ℕ). AllByRecursion (λ (row : Row). row.link ≡ n) came.outcome.more) same (only_rows files clock words before facts asks c came one))).0

      -- the next batch of a link passes a limit
      batch_passes : (sent : Sent) (which : Which) (number records : ℕ) → Limit which number ≡ t.refusal
          → IsLimit before.plain.exponent which records (after_rows sent.came_to.reached (next_rows (to files clock words before facts asks c came first.link) sent.came_to))
          → ArePassed files now words before c.reached which ⊎ ((which ≡ Records) × AreRecordsPassed device e before c.reached)
      batch_passes sent which number records same (inl of_rows) =
          let s = sent.came_to in
          let r = to files clock words before facts asks c came first.link in inl (record {
            history = s.reached;
            no_fewer = sent.since;
            within = sent.reached;
            alone = alone_reached sent;
            rows = next_fresh_rows r s;
            batch = record {
              link = first.link;
              d = sent_dump files clock words before facts asks c came first.link first.name first.comes first.loads.put first.end sent;
              received = sent_received files clock words before facts asks c came first.link first.name first.comes first.loads.put first.end sent;
              place = s.place;
              rows_are = refl;
            };
            limit = of_rows.0;
            which_is = of_rows.1;
            passes = subst (λ (h : List Item). PassesFirst before.plain.exponent of_rows.0 (rows_in h)) (fresh_added s.reached (next_rows r s)) of_rows.2;
          })
      batch_passes sent which number records same (inr of_records) =
          inr (of_records.0, end.recorded number (sym same ∙ ap (λ (w : Which). Limit w number) of_records.0))

      -- a link's sending was refused
      sending_refused : (sent : Sent) (refusal : Refusal) → refusal ≡ t.refusal → IsSentCause facts before.plain.exponent c.failed (to files clock words before facts asks c came first.link) sent.came_to (Some refusal)
          → IsReportedCause t
      sending_refused sent OutOfMemory same cause = inr (inr (inl (subst IsCut same tt)))
      sending_refused sent DiskFault same cause = inr (inr (inl (subst IsCut same (end.faulted (came.outcome.faulted t reported_is (sym same))))))
      sending_refused sent (Damaged file at) same cause = absurd (cause came.told)
      sending_refused sent (NeedsReopen faults) same cause =
          inr (inr (inr (stops_here sent, inl (faults, end.refusal ∙ ap Some (sym same), end.opened, end.pending faults (sym same) cause))))
      sending_refused sent (Limit which number) same cause =
          let passed = cause came.told in
          inr (inr (inr (
            stops_here sent,
            inr (over_limit which (sym same ∙ ap (λ (n : ℕ). Limit which n) passed.0) (batch_passes sent which number passed.1.0 same passed.1.1)),
          )))
      sending_refused sent other same cause = absurd cause

    -- by how the first link that was refused ended
    by_end : (first : IsFirstRefused files clock words before facts asks c came t) (x : LinkEnd) → first.end ≡ x → IsReportedCause t
    by_end first (Whole summary) is = let never : ◌≡◌ {A = Option Refusal} None (Some t.refusal) = sym (ap refusal_of_end is) ∙ first.refusal in absurd (cc (never))
    by_end first (Unread (Some refusal)) is =
        let said : ◌≡◌ {A = Option Refusal} (Some refusal) (Some t.refusal) = sym (ap refusal_of_end is) ∙ first.refusal in
        let same : refusal ≡ t.refusal = cc (said) in
        let sent = first.loads.sent in
        let r = to files clock words before facts asks c came first.link in
        let why_not = subst (IsSentTo sent.read r sent.came_to) is sent.sent_to in
        sending_refused first sent refusal same (subst (IsSentCause facts before.plain.exponent c.failed r sent.came_to) why_not sent.cause)
    by_end first (Unread None) is =
        let said : ◌≡◌ {A = Option Refusal} (Some ReadFault) (Some t.refusal) = sym (ap refusal_of_end is) ∙ first.refusal in
        let same : ReadFault ≡ t.refusal = cc (said) in inr (inr (inl (subst IsCut same (first.unread (ap is_unread is)))))
    by_end first (Rest place kind) is = go first.loads.sent
      where
        said : ◌≡◌ {A = Option Refusal} (Some (BadPacket place kind)) (Some t.refusal)
        said = sym (ap refusal_of_end is) ∙ first.refusal

        go : Sent first → IsReportedCause t
        go sent =
            let s = sent.came_to in
            let sent_to = subst (IsSentTo sent.read (to files clock words before facts asks c came first.link) s) is sent.sent_to in
            let same : BadPacket place kind ≡ t.refusal = cc (said) in inl (
              first.link,
              place,
              kind,
              record {
                reported = reported_of_dump first (ap is_of_dump is) (λ fault. let never : BadPacket place kind ≡ DiskFault = same ∙ fault in absurd (cc (never)));
                d = sent_dump files clock words before facts asks c came first.link first.name first.comes first.loads.put first.end sent;
                received = sent_received files clock words before facts asks c came first.link first.name first.comes first.loads.put first.end sent;
                to_end = λ truncated. some_left (get files first.name) sent.read (dump_there files clock words before facts asks c came first.link first.name first.comes) (to_its_end (get files first.name) sent.read place kind truncated (subst (IsReadTo (get files first.name) sent.read) is sent.read_to));
                there = sent_there files clock words before facts asks c came first.link first.name first.comes first.loads.put first.end sent sent_to.0;
                bad = rest_is_bad sent.read s.rest place kind sent_to.1 sent_to.2;
                refusal = end.refusal ∙ ap Some (sym same);
              },
            )
    by_end first TooLong is = go first.loads.sent
      where
        said : ◌≡◌ {A = Option Refusal} (Some (Limit DumpOctets (limit_of DumpOctets))) (Some t.refusal)
        said = sym (ap refusal_of_end is) ∙ first.refusal

        go : Sent first → IsReportedCause t
        go sent =
            let all = subst (IsSentTo sent.read (to files clock words before facts asks c came first.link) sent.came_to) is sent.sent_to in
            let over = subst (IsReadTo (get files first.name) sent.read) is sent.read_to in
            let long = some_long (get files first.name) sent.read (dump_there files clock words before facts asks c came first.link first.name first.comes) over in
            let same : Limit DumpOctets (limit_of DumpOctets) ≡ t.refusal = cc (said) in inr (inl (
              first.link,
              record {
                reported = reported_of_dump first (ap is_of_dump is) (λ fault. let never : Limit DumpOctets (limit_of DumpOctets) ≡ DiskFault = same ∙ fault in absurd (cc (never)));
                d = sent_dump files clock words before facts asks c came first.link first.name first.comes first.loads.put first.end sent;
                received = sent_received files clock words before facts asks c came first.link first.name first.comes first.loads.put first.end sent;
                long = long.0;
                to_limit = long.1;
                no_version = all.1;
                there = sent_there files clock words before facts asks c came first.link first.name first.comes first.loads.put first.end sent all.0;
                refusal = end.refusal ∙ ap Some (sym same);
              },
            ))
    by_end first (Refused refusal) is = go first.loads.sent
      where
        said : ◌≡◌ {A = Option Refusal} (Some refusal) (Some t.refusal)
        said = sym (ap refusal_of_end is) ∙ first.refusal

        same : refusal ≡ t.refusal
        same = cc (said)

        go : Sent first → IsReportedCause t
        go sent =
            let s = sent.came_to in
            let r = to files clock words before facts asks c came first.link in
            let why_not = subst (IsSentTo sent.read r s) is sent.sent_to in
            sending_refused first sent refusal same (subst (IsSentCause facts before.plain.exponent c.failed r s) why_not sent.cause)

    -- a reader or a filler was refused
    module _ (all : Earlier files clock words before facts asks c came (words.link + length words.dumps)) where
      stops_behind : StopsAt
      stops_behind = record {
        upto = words.link + length words.dumps;
        low = omega arith;
        earlier = all;
      }

      other_refused : (refusal : Refusal) → refusal ≡ t.refusal → IsFillerCause facts c.failed (Some refusal) → IsReportedCause t
      other_refused OutOfMemory same cause = inr (inr (inl (subst IsCut same tt)))
      other_refused DiskFault same cause = inr (inr (inl (subst IsCut same (end.faulted (came.outcome.faulted t reported_is (sym same))))))
      other_refused (Damaged file at) same cause = absurd (cause came.told)
      other_refused (NeedsReopen faults) same cause =
          inr (inr (inr (stops_behind, inl (faults, end.refusal ∙ ap Some (sym same), end.opened, end.pending faults (sym same) cause))))
      other_refused (Limit which number) same cause =
          let records : t.refusal ≡ Limit Records number = sym same ∙ ap (λ (w : Which). Limit w number) cause.0 in
          inr (inr (inr (stops_behind, inr (over_limit Records (records ∙ ap (λ (n : ℕ). Limit Records n) cause.1) (inr (refl, end.recorded number records))))))
      other_refused other same cause = absurd cause

    pub cause_of : IsFirstRefused files clock words before facts asks c came t ⊎ IsOtherRefused files clock words before facts asks c came t → IsReportedCause t
    cause_of (inl first) = by_end first first.end refl
    cause_of (inr others) = other_refused others.all t.refusal refl others.cause
