-- The ends of the plan of `make`.
use Rattle.std.proofs.Common.{◌≡◌, ◌⊎◌, ◌∙◌, inl, inr, ℕ, ℤ, ◌+◌, ◌-◌, ◌≤◌, List, [], length, Bool, true, false, Option, Some, None, refl, sym, ap, subst, arith}
use Rattle.std.specs.Prelude.{IsSome, IsTrue, unwrap_or}
use Rattle.std.specs.List.{list_any}
use Rattle.arch_disk.specs.Image.{Image}
use Rattle.arch_disk.specs.Disk.{Device, LeavesOnly, raised}
use Rattle.arch_disk.proofs.Moments.{at_end, weakens}
use Rattle.disk_journal.specs.Calls.{BeginsOpen}
use Rattle.disk_journal.specs.Format.{HoldsNone}
use Rattle.intervals.specs.Interval.{format_1_exponent}
use Rattle.intervals.specs.declared.interval.Interval.{Interval}
use Rattle.interval_fills.proofs.Intervals.{database_below, rows_below}
use Rattle.interval_fills.specs.Intervals.{NoneSince, rows_of_interval}
use Rattle.arch_types.specs.declared.cell.Cell.{Cell}
use Rattle.arch_types.specs.declared.row.Row.{Row}
use Rattle.asks.specs.Names.{parameter_number}
use Rattle.archive_history.specs.declared.row_limit.RowLimit.{RowLimit}
use Rattle.archive_history.specs.declared.row_limit.RowLimit.TheVariants as row_limits
use Rattle.mdb_items.specs.Database.{Database}
use Rattle.outer_traits.specs.Outside.{Files}
use Rattle.refusals.specs.declared.refusal.Refusal.{Refusal}
use Rattle.refusals.specs.declared.refusal.Refusal.TheVariants.{BadPacket, DiskFault, Exists, Limit, Mismatch, NeedsReopen, OutOfMemory, ReadFault, WriteFault}
use Rattle.refusals.specs.declared.refusal.Which.{Which}
use Rattle.refusals.specs.declared.refusal.Which.TheVariants.{DumpOctets, Records}
use Rattle.refusals.specs.Limits.{limit_of}
use Rattle.history_items.specs.Databases.{database_in}
use Rattle.history_items.specs.Fills.{above}
use Rattle.history_items.specs.Items.{prefix}
use Rattle.history_items.specs.declared.fills.Addition.{Addition}
use Rattle.history_items.specs.declared.items.Item.{Item}
use Rattle.param_segments.specs.Rows.{SetRow}
use Rattle.store_fills.specs.Filled.{HoldsRows}
use Rattle.store_fills.specs.LastFills.{fill_over}
use Rattle.store_fills.specs.Sound.{AreSound, Filling, Fillings, no_fillings}
use Rattle.archive_store.specs.AddedFills.{AddsRightFills, IsAddedFill}
use Rattle.archive_store.specs.Calls.{IsCreateImage}
use Rattle.archive_store.specs.Limits.{limit_of_history}
use Rattle.archive_store.specs.Stands.{IsSoundImage}
use Rattle.archive_store.proofs.PendingFaults.{prefix_self}
use Rattle.retrieval.proofs.FilledAnswers.{filled_answered}
use Rattle.archive_verify.specs.Verified.{HoldCurrentFills, HoldsInterval}
use Rattle.archive_verify.proofs.Currents.{mismatch_unsound}
use Rattle.archive_commands.specs.Create.{HasArchiveAs, after_sought}
use Rattle.archive_commands.specs.Verify.{IsCompared}
use Rattle.archive_commands.proofs.ArchiveOrNone.{one-not-none}
use Rattle.live_session.specs.declared.reported.ReportedRefusal.{ReportedRefusal}
use Rattle.live_session.specs.Outcome.{JobsOutcome, reported_of}
use Rattle.command_plans.specs.Plan.{Allows, CommandPlan, EachEnd, FailedCalls, Way, Returned, Stopped, Interrupted, Return, Stop, May, Question, Choose, interruption_refusal, map_done, way_map_done, with_failed_call}
use Rattle.command_plans.proofs.Plans.{end_of}
use Rattle.command_words.specs.Job.{Make}
use Rattle.command_runs.specs.declared.report.Report.{Report}
use Rattle.command_runs.specs.Causes.{IsCountedSince, IsLogNear}
use Rattle.command_runs.specs.Command.{EndedAt, HasEffects, Progress, behind_making}
use Rattle.command_runs.specs.Creation.{IsMade, IsMakingFailed, IsStillNone}
use Rattle.command_runs.specs.Durable.{FailedAtMostOnce}
use Rattle.command_runs.specs.Extension.{IsAllFilled, IsExtended, filled_at}
use Rattle.command_runs.specs.FillingPlan.{FillingEnd, Refused, Unread, Unwritten, Whole, after_filling, filled_to}
use Rattle.command_runs.specs.Moment.{IsMomentOf}
use Rattle.command_runs.specs.ReadOnly.{IsReadAsBefore}
use Rattle.command_runs.specs.Reading.{InMemory}
use Rattle.command_runs.specs.Report.{loaded, unopened}
use Rattle.load_command.specs.Load.{after_session, history_extended, job_refused}
use Rattle.load_command.specs.Loading.{is_unread}
use Rattle.make_command.specs.Made.{IsFilledBy, IsMadeOutcome, made_archive, made_head, no_facts}
use Rattle.make_command.specs.Make.{summary_or_mismatch, behind_plan, made_load_plan, made_report, make_plan, summary_plan}
use Rattle.make_command.specs.Summary.{cell_count, summary_text, whole_request}
use Rattle.command_laws.specs.Calls.{Call, IsInterruption, IsRefusedBy, IsRun, LeavesDisk, Prints, PrintsSome, Succeeded, WasInterrupted, effects}
use Rattle.command_laws.specs.Links.{AreReceived, AreReceivedWhole, packets_of}
use Rattle.command_laws.specs.Load.{IsOnTheWay, IsSilent, IsWholeLoad, TellsOfDump, WasHindered, WasOverLimit, WasPending}
use Rattle.command_laws.specs.Make.{HoldAllNone, IsMadeAndLoaded, IsMakeDone, IsNoneOrMade, IsNotMade, IsRefusedMake, IsSummaryPrinted, cell_count_of_rows, made_files, made_words}
use Rattle.command_laws.proofs.FirstRefused.{first_reported, link_of_dump}
use Rattle.command_laws.proofs.JobsEnds.{filled_end, is_reached, kept_stands, near_passed, no_fewer, written_end}
use Rattle.command_laws.proofs.JobsLoaded.{AreWholeFrom, CameToJobs, all_whole, grown, moment}
use Rattle.command_laws.proofs.Left.{is_unopened, kept_back, not_asked, opened_once, since_opening, sound_moments, untouched}
use Rattle.command_laws.proofs.LoadClause.{read_not_bad, whole_not_long}
use Rattle.command_laws.proofs.MadeDumps.{made_jobs, made_whole}
use Rattle.command_laws.proofs.OnTheWay.{IsDiskLoaded, extended_disk, unfilled_disk}
use Rattle.command_laws.proofs.Reported.{IsCut, IsReportedCause, IsReportedEnd, cause_of}
use Rattle.command_laws.proofs.Runs.{all_is_some, by_job, cut_off, none_or_some, same_refusal}

-- ---- right fills

-- those that an archive without fills has got hold what its rows give
right_held : (reached : List Item) (fillings : Fillings (List SetRow)) → AddsRightFills made_head format_1_exponent reached no_fillings fillings → HoldCurrentFills (filled_at made_archive reached fillings)
right_held reached fillings adds interval f current = go (adds interval)
  where
    go : (fillings interval ≡ no_fillings interval) ⊎ IsAddedFill made_head format_1_exponent reached no_fillings interval (fillings interval) → HoldsInterval (filled_at made_archive reached fillings) interval f
    go (inl none) = let never : ◌≡◌ {A = Option (Filling (List SetRow))} None (Some f) = sym none ∙ current.there in absurd (cc (never))
    go (inr (late, (base, set, may, is, holds))) =
        let both : ◌≡◌ {A = Option (Filling (List SetRow))} (Some f) (Some (fill_over base set)) = sym current.there ∙ is in
        let same : f ≡ fill_over base set = cc (both) in
        let since : NoneSince format_1_exponent interval base reached = subst (λ (g : Filling (List SetRow)). NoneSince format_1_exponent interval g.base reached) same current.current in
        subst (HoldsInterval (filled_at made_archive reached fillings) interval) (sym same)
        (subst (λ (rows : List Row). HoldsRows (database_in made_head.mdb reached) set rows) (sym (rows_below format_1_exponent interval base reached since))
        (subst (λ (db : Database). HoldsRows db set (rows_of_interval format_1_exponent interval (prefix base reached))) (sym (database_below made_head.mdb format_1_exponent interval base reached since)) holds))

-- so they are sound
right_sound : (reached : List Item) (fillings : Fillings (List SetRow)) → AddsRightFills made_head format_1_exponent reached no_fillings fillings
    → AreSound format_1_exponent (HoldsRows (database_in made_head.mdb reached)) reached fillings
right_sound reached fillings adds = record {
  within = λ i f there. go i f there (adds i);
  each = λ i f there since. right_held reached fillings adds i f (record { there = there; current = since });
}
  where
    go : (i : Interval) (f : Filling (List SetRow)) → fillings i ≡ Some f → (fillings i ≡ no_fillings i) ⊎ IsAddedFill made_head format_1_exponent reached no_fillings i (fillings i) → f.base ≤ length reached
    go i f there (inl none) = let never : ◌≡◌ {A = Option (Filling (List SetRow))} None (Some f) = sym none ∙ there in absurd (cc (never))
    go i f there (inr (late, (base, set, may, is, holds))) =
        let both : ◌≡◌ {A = Option (Filling (List SetRow))} (Some f) (Some (fill_over base set)) = sym there ∙ is in
        let same : f ≡ fill_over base set = cc (both) in subst (λ (g : Filling (List SetRow)). g.base ≤ length reached) (sym same) may.within

-- the values that are counted over them are those that the rows give
right_cells : (reached : List Item) (fillings : Fillings (List SetRow)) → AddsRightFills made_head format_1_exponent reached no_fillings fillings
    → (name : List ℕ) → cell_count (filled_at made_archive reached fillings) name ≡ cell_count_of_rows reached name
right_cells reached fillings adds name =
    let db = database_in made_head.mdb reached in
    ap (λ (cells : List Cell). length cells)
    (filled_answered db format_1_exponent reached fillings (whole_request name) (unwrap_or (parameter_number db name) 0) (right_sound reached fillings adds))

-- comparing finds no mismatch
compared_right : (reached : List Item) (fillings : Fillings (List SetRow)) (refusal : Refusal) → AddsRightFills made_head format_1_exponent reached no_fillings fillings → IsCompared (Unit {0}) (filled_at made_archive reached fillings) (Some refusal) → ⊥
compared_right reached fillings (Mismatch i n k s r) adds named = mismatch_unsound (filled_at made_archive reached fillings) i _ (named tt).first (right_held reached fillings adds)
compared_right reached fillings other adds none = none

-- ---- refusals that are of no dump

-- only the limit on a dump's octets is of one
of_octets : (which : Which) (number : ℕ) → TellsOfDump (Limit which number) → which ≡ DumpOctets
of_octets DumpOctets number tells = refl
of_octets other number tells = absurd tells

no_octets : (limit : RowLimit) → DumpOctets ≡ limit_of_history limit → ⊥
no_octets row_limits.Rows is = cc (is)
no_octets row_limits.HistoryOctets is = cc (is)
no_octets row_limits.IntervalRows is = cc (is)

unlinked : (link : Option ℕ) → (IsSome link → ⊥) → link ≡ None
unlinked None none = refl
unlinked (Some link) none = absurd (none refl)

-- ---- plans behind which more is said to be done

-- a way that such a plan allows is one that the plan does
allowed_behind : (f : Progress → Progress) (p : CommandPlan Progress ⊥) (way : Way Progress ⊥) → Allows (map_done f p) way → (inner : Way Progress ⊥) × Allows p inner × (way ≡ way_map_done f inner)
allowed_behind f (Return x) way is = absurd x
allowed_behind f (Stop s refusal) way is = (Stopped s refusal, refl, is)
allowed_behind f (May fault s p) way (inl is) = (Interrupted s fault, inl refl, is)
allowed_behind f (May fault s p) way (inr allows) = let inner = allowed_behind f p way allows in (inner.0, inr inner.1, inner.2)
allowed_behind f (Question is next) way allows = let inner = allowed_behind f (next allows.0) way allows.2 in (inner.0, (allows.0, allows.1, inner.1), inner.2)
allowed_behind f (Choose is next) way allows = let inner = allowed_behind f (next allows.0) way allows.2 in (inner.0, (allows.0, allows.1, inner.1), inner.2)

module _ {D : Type 0} (device : Device D) (e : Call D) (clock : Option ℤ) (seed : ℕ) (known : IsTrue device.is_transparent) where
  abbrev files : Files
  files = made_files seed

  -- all that is left at an end
  record IsLeft : Type 0 where
    exists : BeginsOpen (device.reads e.disk 0) → IsRefusedBy device e Exists × Prints e [] × LeavesDisk device e
    not_made : e.report.opened ≡ false → IsNotMade device e
    made : e.report.opened ≡ true → IsMadeAndLoaded device e clock seed
    complete : HoldsNone (device.reads e.disk 0) → (e.report.opened ≡ true) ⊎ WasInterrupted device e

  one_or_none : {Q : Type 0} → BeginsOpen (device.reads e.disk 0) → HoldsNone (device.reads e.disk 0) → Q
  one_or_none open_gate none = absurd (one-not-none (device.reads e.disk 0) open_gate.0 open_gate.1 none)

  -- ---- no archive was made

  left_not_made : (refusal : Refusal) → e.report ≡ unopened (Some refusal) → Prints e [] → (BeginsOpen (device.reads e.disk 0) → IsReadAsBefore device e.disk e.disk') → (HoldAllNone device e.disk → LeavesOnly device e.disk e.disk' IsNoneOrMade)
      → (HoldsNone (device.reads e.disk 0) → FailedAtMostOnce device e.disk e.disk' → IsStillNone device e.disk e.disk') → IsRefusedBy device e Exists → (HoldsNone (device.reads e.disk 0) → WasInterrupted device e) → IsLeft
  left_not_made refusal report silent kept images in_order exists none =
      let closed : e.report.opened ≡ false = ap (λ (r : Report). r.opened) report in record {
        exists = λ open_gate. (exists, silent, untouched device e (kept open_gate));
        not_made = λ no. record {
          report = is_unopened device e refusal report silent;
          kept = λ open_gate. untouched device e (kept open_gate);
          images = images;
          in_order = in_order;
        };
        made = λ is. opened_once e.report.opened is closed;
        complete = λ holds. inr (none holds);
      }

  -- the disk is as it was
  left_untouched : (refusal : Refusal) → e.report ≡ unopened (Some refusal) → Prints e [] → IsReadAsBefore device e.disk e.disk' → IsRefusedBy device e Exists → (HoldsNone (device.reads e.disk 0) → WasInterrupted device e) → IsLeft
  left_untouched refusal report silent kept exists none = left_not_made refusal report silent (λ open_gate. kept)
      (λ all. weakens device e.disk e.disk' (device.images e.disk) IsNoneOrMade kept.images (λ c was. inl (all c was)))
      (λ holds once c now. inl (at_end device e.disk e.disk' (device.images e.disk) kept.images c now)) exists none

  -- memory was wanting before
  left_wanting : e.report ≡ unopened (Some OutOfMemory) → Prints e [] → e.disk' ≡ e.disk → IsLeft
  left_wanting report silent same =
      let cut = cut_off device e OutOfMemory (ap (λ (r : Report). r.refusal) report) tt in
      left_untouched OutOfMemory report silent (not_asked device e same) (inr cut) (λ none. cut)

  none_or_made : HoldAllNone device e.disk → (c : Image) → IsCreateImage (device.images e.disk) made_head c → IsNoneOrMade c
  none_or_made none c (inl was) = inl (none c was)
  none_or_made none c (inr (inl none')) = inl none'
  none_or_made none c (inr (inr stands)) = inr stands

  left_failed : e.report ≡ unopened (Some DiskFault) → Prints e [] → raised (device.fault_count e.disk) ≤ device.fault_count e.disk' → IsMakingFailed device e.disk e.disk' made_head → IsLeft
  left_failed report silent rose failed =
      let cut = cut_off device e DiskFault (ap (λ (r : Report). r.refusal) report) rose in
      left_not_made DiskFault report silent failed.kept
      (λ none. weakens device e.disk e.disk' (IsCreateImage (device.images e.disk) made_head) IsNoneOrMade (failed.images (none (device.reads e.disk) (device.reads_as_image e.disk known))) (none_or_made none)) failed.closed
      (inr cut) (λ none. cut)

  -- ---- behind the making

  module _ (between : D) (made : IsMade device e.disk between made_head) (same : device.fault_count between ≡ device.fault_count e.disk) where
    abbrev behind : Call D
    behind = record e { disk = between }

    -- ---- from the disk that the making left to the one that was handed in

    once_since : FailedAtMostOnce device e.disk e.disk' → FailedAtMostOnce device between e.disk'
    once_since once = record { most = subst (λ (n : ℕ). device.fault_count e.disk' ≤ n + 1) (sym same) once.most; below = once.below }

    interruption : (refusal : Refusal) → IsInterruption device behind refusal → IsInterruption device e refusal
    interruption OutOfMemory cut = tt
    interruption DiskFault cut = subst (λ (n : ℕ). raised n ≤ device.fault_count e.disk') same cut
    interruption WriteFault cut = cut
    interruption ReadFault cut = cut
    interruption other cut = absurd cut

    pending_since : WasPending device behind → WasPending device e
    pending_since (faults, is, opened, counted) = (faults, is, opened, subst (λ (n : ℕ). (above n ≤ faults) × (faults ≤ device.fault_count e.disk')) same counted)

    over_since : WasOverLimit device behind files clock made_words made_archive → WasOverLimit device e files clock made_words made_archive
    over_since over = record {
      moment = over.moment;
      known = over.known;
      reached = over.reached;
      holds = record { held = over.holds.held; alone = over.holds.alone; after = over.holds.after; grown = over.holds.grown };
      which = over.which;
      limit = over.limit;
      passed = over.passed;
    }

    -- ---- what became of the jobs

    module _ (c : JobsOutcome) (came : CameToJobs files clock made_words made_archive no_facts [] c) (read : list_any is_unread c.ends ≡ false) where
      abbrev now : ℤ
      now = moment files clock made_words made_archive no_facts [] c came

      abbrev Loaded : Type 0
      Loaded = IsDiskLoaded files now made_words made_archive c.reached device behind

      abbrev Summary : Type 0
      Summary = IsSummaryPrinted e seed now c.reached

      abbrev Hindered : Type 0
      Hindered = WasHindered device e files clock made_words made_archive

      abbrev OnTheWay : Image → Type 0
      OnTheWay = IsOnTheWay files now made_words made_archive c.reached

      -- the head alone is where the way begins
      made_at_first : (image : Image) → device.images between image → IsSoundImage image × OnTheWay image
      made_at_first image left = (
        made.sound image left,
        record { history = []; no_fewer = prefix_self []; stands = made.now image left; within = inl (c.reached, refl) },
      )

      left_loaded : Loaded → e.report.opened ≡ true → e.report.before ≡ 0 → e.report.after ≡ length c.reached → (Succeeded e → IsWholeLoad device e files now made_words made_archive c.reached) → IsSilent e ⊎ Summary
          → ((refusal : Refusal) → e.report.refusal ≡ Some refusal → IsRefusedMake e c.reached refusal) → Succeeded e ⊎ Hindered → IsLeft
      left_loaded disk is_open first last whole printed refused ended =
          let since = since_opening device behind OnTheWay OnTheWay disk.images (λ image way. way) in record {
            exists = λ open_gate. one_or_none open_gate made.none;
            complete = λ none. inl is_open;
            not_made = λ no. opened_once e.report.opened is_open no;
            made = λ is. record {
              between = between;
              made = record { none = made.none; reads = made.stands; images = λ image now'. (made.now image now', made.sound image now') };
              making = λ none. weakens device e.disk between (IsCreateImage (device.images e.disk) made_head) IsNoneOrMade made.images (none_or_made none);
              moment = now;
              known = came.given.moment;
              reached = c.reached;
              lengths = (first, last);
              handed_back = disk.now (device.reads e.disk') (device.reads_as_image e.disk' known);
              lasting = disk.now;
              grown = grown files clock made_words made_archive no_facts [] c came;
              whole = whole;
              printed = printed;
              crashes = sound_moments device behind known OnTheWay (inr since) made_at_first;
              refused = refused;
              in_order = λ once. let x = disk.back (once_since once) in record { fillings = x.fillings; adds = x.adds; reads = x.reads; images = x.images };
              ended = ended;
            };
          }

      abbrev reports : Refusal → Type 0
      reports refusal = e.report ≡ loaded (Some refusal) None 0 (length c.reached) 0 0 0

      -- by a refusal, behind some of the text only where memory was wanting or the output failed
      left_refused : (refusal : Refusal) → reports refusal → IsSilent e ⊎ Summary → ((refusal ≡ WriteFault → ⊥) → (refusal ≡ OutOfMemory → ⊥) → Prints e []) → Loaded → Hindered → IsLeft
      left_refused refusal report printed quiet disk cause =
          let is : e.report.refusal ≡ Some refusal = ap (λ (r : Report). r.refusal) report in
          left_loaded disk (ap (λ (r : Report). r.opened) report) (ap (λ (r : Report). r.before) report) (ap (λ (r : Report). r.after) report) (λ ok. none_or_some e.report.refusal refusal is ok) printed refused (inr cause)
        where
          refused : (other : Refusal) → e.report.refusal ≡ Some other → IsRefusedMake e c.reached other
          refused other has =
              let same = same_refusal e.report.refusal refusal other (ap (λ (r : Report). r.refusal) report) has in subst (IsRefusedMake e c.reached) same (record { report = report; silent = quiet })

      -- before anything was printed
      left_silent : (refusal : Refusal) → reports refusal → Prints e [] → Loaded → Hindered → IsLeft
      left_silent refusal report none = left_refused refusal report (inl (subst IsSome (sym (ap (λ (r : Report). r.refusal) report)) refl, none)) (λ out memory. none)

      -- where it was cut off
      cut_made : (refusal : Refusal) → reports refusal → IsInterruption device e refusal → Hindered
      cut_made refusal report cut = inl (cut_off device e refusal (ap (λ (r : Report). r.refusal) report) cut)

      -- ---- a job was refused

      abbrev IsCutBy : Refusal → Type 0
      IsCutBy = IsCut files clock made_words made_archive no_facts [] c came device behind

      abbrev IsOver : Type 0
      IsOver = WasOverLimit device behind files clock made_words made_archive

      -- the dumps are in order, and no read of them failed: what was reported is of no dump
      abbrev IsOfNoDump : Refusal → Type 0
      IsOfNoDump refusal = IsCutBy refusal ⊎ (WasPending device behind ⊎ IsOver)

      of_no_dump : (t : ReportedRefusal) → IsReportedCause files clock made_words made_archive no_facts [] c came device behind t → IsOfNoDump t.refusal
      of_no_dump t (inl (link, at, kind, broken)) =
          absurd (read_not_bad files broken.received.name broken.d.packets broken.d.rest at kind (made_whole seed link broken.received.name broken.received.comes) broken.received.has broken.to_end broken.bad)
      of_no_dump t (inr (inl (link, long))) = absurd (whole_not_long files long.received.name (made_whole seed link long.received.name long.received.comes) long.long)
      of_no_dump t (inr (inr (inl cut))) = inl cut
      of_no_dump t (inr (inr (inr (stops, cause)))) = inr cause

      uncut : (refusal : Refusal) → IsCutBy refusal → TellsOfDump refusal → ⊥
      uncut (BadPacket at kind) cut tells = cut
      uncut (Limit which number) cut tells = cut
      uncut other cut tells = tells

      unpending : (refusal : Refusal) → e.report.refusal ≡ Some refusal → WasPending device behind → TellsOfDump refusal → ⊥
      unpending refusal is (faults, named, opened, counted) tells =
          subst TellsOfDump (sym (same_refusal e.report.refusal (NeedsReopen faults) refusal named is)) tells

      unpassed : (refusal : Refusal) → e.report.refusal ≡ Some refusal → IsOver → TellsOfDump refusal → ⊥
      unpassed refusal is over tells =
          let same = same_refusal e.report.refusal (Limit over.which (limit_of over.which)) refusal over.limit is in
          let octets = of_octets over.which (limit_of over.which) (subst TellsOfDump (sym same) tells) in
          elim over.passed [
            | inl rows ↦ no_octets rows.limit (sym octets ∙ rows.which_is)
            | inr records ↦ let never : DumpOctets ≡ Records = sym octets ∙ records.0 in absurd (cc (never))
          ]

      untold : (refusal : Refusal) → e.report.refusal ≡ Some refusal → IsOfNoDump refusal → TellsOfDump refusal → ⊥
      untold refusal is (inl cut) = uncut refusal cut
      untold refusal is (inr (inl pending)) = unpending refusal is pending
      untold refusal is (inr (inr over)) = unpassed refusal is over

      cut_by : (refusal : Refusal) → IsCutBy refusal → IsInterruption device e refusal
      cut_by OutOfMemory is = tt
      cut_by ReadFault is = let never : true ≡ false = sym is ∙ read in absurd (cc (never))
      cut_by DiskFault is = interruption DiskFault is
      cut_by other is = absurd is

      hinders : (refusal : Refusal) → reports refusal → IsOfNoDump refusal → Hindered
      hinders refusal report (inl cut) = cut_made refusal report (cut_by refusal cut)
      hinders refusal report (inr (inl pending)) = inr (inl (pending_since pending))
      hinders refusal report (inr (inr over)) = inr (inr (over_since over))

      job_left : (t : ReportedRefusal) → reported_of 1 c.ends c.others ≡ Some t → e.report ≡ loaded (Some t.refusal) t.link 0 (length c.reached) 0 0 0 → Prints e []
          → Loaded × IsReportedEnd files clock made_words made_archive no_facts [] c came device behind t → IsLeft
      job_left t is report none (disk, end) =
          let cause = of_no_dump t (cause_of files clock made_words made_archive no_facts [] c came device behind t end is (first_reported files clock made_words made_archive no_facts [] c came t is)) in
          let no_link = unlinked t.link (λ some. untold t.refusal (ap (λ (r : Report). r.refusal) report) cause (link_of_dump 1 c.ends c.others t is some)) in
          let unnamed = report ∙ ap (λ (link : Option ℕ). loaded (Some t.refusal) link 0 (length c.reached) 0 0 0) no_link in
          left_silent t.refusal unnamed none disk (hinders t.refusal unnamed cause)

      -- ---- none was

      module _ (none : reported_of 1 c.ends c.others ≡ None) where
        all_came : AreWholeFrom files clock made_words made_archive no_facts [] c came 1 c.ends
        all_came = all_whole files clock made_words made_archive no_facts [] c came none

        received_whole : AreReceivedWhole files now made_words made_archive c.reached all_came.dumps
        received_whole = record {
          received = all_came.received;
          whole = all_came.whole;
          alone = λ d is. let last = (subst (AreReceived files now made_words made_archive 1) is all_came.received).1 in absurd (omega (arith, last));
        }

        filled_disk : IsAllFilled device between e.disk' made_archive c.reached → Loaded
        filled_disk x = extended_disk files now made_words made_archive c.reached device behind x.extended

        -- the log has no room for the fills
        full_log : IsExtended device between e.disk' made_archive c.reached → reports (Limit Records (limit_of Records)) → IsLogNear device e.disk' (Some 0) → WasOverLimit device behind files clock made_words made_archive
        full_log x report near =
            let fewer = no_fewer files clock made_words made_archive no_facts [] c came device behind known in record {
              moment = now;
              known = came.given.moment;
              reached = c.reached;
              holds = is_reached files clock made_words made_archive no_facts [] c came device behind known (extended_disk files now made_words made_archive c.reached device behind x) (ap (λ (r : Report). r.after) report)
                  (λ one. kept_stands files clock made_words made_archive no_facts [] c came device behind known x);
              which = Records;
              limit = ap (λ (r : Report). r.refusal) report;
              passed = inr (refl, near_passed files clock made_words made_archive no_facts [] c came device behind known 0 (omega (arith, fewer)) near);
            }

        -- ---- the summary

        module _ (fillings : Fillings (List SetRow)) (filled : IsFilledBy device c.reached fillings) where
          abbrev text : List ℕ
          text = summary_text seed (made_report c).packets (made_report c).duplicates (filled_at made_archive c.reached fillings)

          summary : PrintsSome e text → (Succeeded e → Prints e text) → Summary
          summary some all = record {
            dumps = all_came.dumps;
            received = received_whole;
            fillings = fillings;
            right = filled.adds known;
            none_late = filled.none_late;
            cells = right_cells c.reached fillings (filled.adds known);
            text = text;
            text_is = ap (λ (n : ℕ). summary_text seed n (made_report c).duplicates (filled_at made_archive c.reached fillings)) all_came.packets_are
                ∙ ap (λ (n : ℕ). summary_text seed (packets_of all_came.dumps) (n - length c.reached) (filled_at made_archive c.reached fillings)) all_came.arrived_are;
            some = some;
            all = all;
          }

          left_part : (refusal : Refusal) → reports refusal → IsInterruption device e refusal → PrintsSome e text → ((refusal ≡ WriteFault → ⊥) → (refusal ≡ OutOfMemory → ⊥) → Prints e []) → IsAllFilled device between e.disk' made_archive c.reached → IsLeft
          left_part refusal report cut some quiet x =
              left_refused refusal report (inr (summary some (λ ok. none_or_some e.report.refusal refusal (ap (λ (r : Report). r.refusal) report) ok))) quiet (filled_disk x) (cut_made refusal report cut)

          left_whole : e.report ≡ made_report c → Prints e text → IsAllFilled device between e.disk' made_archive c.reached → IsLeft
          left_whole report all x =
              let ok : e.report.refusal ≡ None = ap (λ (r : Report). r.refusal) report in
              let new : e.report.new ≡ length c.reached - 0 = ap (λ (r : Report). r.new) report in
              let again = ap (λ (r : Report). r.duplicates) report in
              let arrived = all_came.arrived_are in
              left_loaded (filled_disk x) (ap (λ (r : Report). r.opened) report) (ap (λ (r : Report). r.before) report) (ap (λ (r : Report). r.after) report)
              (λ ok. (
                all_came.dumps,
                received_whole,
                record { back = kept_back device e made_archive c.reached x.extended.kept; none_late = x.none_late },
                record {
                  new = new;
                  packets_are = ap (λ (r : Report). r.packets) report ∙ all_came.packets_are;
                  idle = ap (λ (r : Report). r.idle) report ∙ all_came.idle;
                  duplicates = omega (arith, new, again, arrived);
                  no_link = ap (λ (r : Report). r.link) report;
                },
              )) (inr (summary (all_is_some e text all) (λ ok. all))) (λ refusal is. none_or_some e.report.refusal refusal is ok) (inl ok)

    -- ---- the ends, by what is said of the disk that the making left

    abbrev Behind : Way Progress ⊥ → Type 0
    Behind way = HasEffects device (effects behind) way → IsLeft

    module _ (moment' : ℤ) (clocked : IsMomentOf clock moment') (c : JobsOutcome) (outcome : IsMadeOutcome seed moment' c) where
      abbrev came : CameToJobs files clock made_words made_archive no_facts [] c
      came = made_jobs seed clock moment' clocked c outcome

      abbrev next : CommandPlan Progress ⊥
      next = summary_plan device seed c

      abbrev extended : Progress
      extended = history_extended 0 made_archive None c

      module _ (none : reported_of 1 c.ends c.others ≡ None) where
        -- its archive was compared
        compared_left : (fillings : Fillings (List SetRow)) → IsFilledBy device c.reached fillings → (found : Option Refusal) → IsCompared (Unit {0}) (filled_at made_archive c.reached fillings) found
            → EachEnd Behind (summary_or_mismatch seed c (filled_at made_archive c.reached fillings) found)
        compared_left fillings filled None held = (
          λ did. left_part c came outcome.read.0 none fillings filled OutOfMemory did.report tt did.printed (λ out memory. absurd (memory refl)) (did.disk.1 known),
          (
            λ did. left_part c came outcome.read.0 none fillings filled WriteFault did.report did.output.counted.1 did.printed (λ out memory. absurd (out refl)) (did.disk.1 known),
            λ did. left_whole c came outcome.read.0 none fillings filled did.report did.printed (did.disk.1 known),
          ),
        )
        compared_left fillings filled (Some refusal) found = absurd (compared_right c.reached fillings refusal (filled.adds known) found)

        summed_left : EachEnd Behind next
        summed_left = λ fillings filled. (
          λ did. left_silent c came outcome.read.0 OutOfMemory did.report did.printed (filled_disk c came outcome.read.0 none (did.disk.1 known)) (cut_made c came outcome.read.0 OutOfMemory did.report tt),
          λ found is. compared_left fillings filled found is,
        )

        filled_left : (full : Bool) → EachEnd Behind (after_filling extended next full)
        filled_left true = λ did.
            let x = did.disk.1 known in
            let limit = Limit Records (limit_of Records) in
            left_silent c came outcome.read.0 limit did.report did.printed (extended_disk files (moment files clock made_words made_archive no_facts [] c came) made_words made_archive c.reached device behind x)
            (inr (inr (over_since (full_log c came outcome.read.0 none x did.report did.log))))
        filled_left false = summed_left

        unrefused_left : (failed : Option Addition) → EachEnd Behind (after_session InMemory 0 made_archive c next None failed)
        unrefused_left failed = (
          λ did. left_silent c came outcome.read.0 OutOfMemory did.report did.printed
              (extended_disk files (moment files clock made_words made_archive no_facts [] c came) made_words made_archive c.reached device behind (did.disk.1 known)) (cut_made c came outcome.read.0 OutOfMemory did.report tt),
          (
            λ did. left_silent c came outcome.read.0 DiskFault did.report did.printed
                (unfilled_disk files (moment files clock made_words made_archive no_facts [] c came) made_words made_archive c.reached device behind (did.disk.1 known))
                (cut_made c came outcome.read.0 DiskFault did.report (interruption DiskFault did.disk.0.faults)),
            λ full is. filled_left full,
          ),
        )

      refused_left : (t : ReportedRefusal) → reported_of 1 c.ends c.others ≡ Some t → c.failed ≡ None → (end : FillingEnd) → EachEnd {X = ⊥} Behind (Stop (filled_to made_archive c.reached (job_refused 0 made_archive c t) end) (Some t.refusal))
      refused_left t is none Whole = λ did. job_left c came outcome.read.0 t is did.report did.printed (filled_end files clock made_words made_archive no_facts [] c came device behind known 0 t none Whole did)
      refused_left t is none Unwritten = λ did. job_left c came outcome.read.0 t is did.report did.printed (filled_end files clock made_words made_archive no_facts [] c came device behind known 0 t none Unwritten did)
      refused_left t is none Unread = λ did. job_left c came outcome.read.0 t is did.report did.printed (filled_end files clock made_words made_archive no_facts [] c came device behind known 0 t none Unread did)
      refused_left t is none Refused = λ did. job_left c came outcome.read.0 t is did.report did.printed (filled_end files clock made_words made_archive no_facts [] c came device behind known 0 t none Refused did)

      session_left : (said : Option ReportedRefusal) → reported_of 1 c.ends c.others ≡ said → (failed : Option Addition) → c.failed ≡ failed → EachEnd Behind (after_session InMemory 0 made_archive c next said failed)
      session_left None is failed has = unrefused_left is failed
      session_left (Some t) is None has = λ end ends. refused_left t is has end
      session_left (Some t) is (Some addition) has = λ did. job_left c came outcome.read.0 t is did.report did.printed (written_end files clock made_words made_archive no_facts [] c came device behind known 0 t addition has did)

    load_left : EachEnd Behind (made_load_plan device clock seed)
    load_left = λ moment' clocked c outcome. session_left moment' clocked c outcome (reported_of 1 c.ends c.others) refl c.failed refl

  -- ---- the whole plan

  abbrev Leaves : Way Progress ⊥ → Type 0
  Leaves way = HasEffects device (effects e) way → IsLeft

  -- what is said of an end behind the making is said of the disk that it left
  ended_within : (s : Progress) (refusal : Option Refusal) (failed : FailedCalls) (did : EndedAt device (effects e) (behind_making made_head s) refusal failed) → EndedAt device (effects (record e { disk = did.disk.between })) s refusal failed
  ended_within s refusal failed did = record {
    report = did.report;
    printed = did.printed;
    output = did.output;
    disk = did.disk.after;
    log = did.log;
    pending = counted s.pending did.pending;
  }
    where
      counted : (pending : Option ℕ) → IsCountedSince device e.disk e.disk' pending → IsCountedSince device did.disk.between e.disk' pending
      counted None since = tt
      counted (Some faults) since = subst (λ (n : ℕ). (above n ≤ faults) × (faults ≤ device.fault_count e.disk')) (sym did.disk.used.faults) since

  -- of a plan over the disk that the making left, at whichever that is
  abbrev BehindAny : Way Progress ⊥ → Type 0
  BehindAny way = (between : D) → IsMade device e.disk between made_head → device.fault_count between ≡ device.fault_count e.disk → HasEffects device (effects (record e { disk = between })) way → IsLeft

  any_behind : (way : Way Progress ⊥) → BehindAny way → Leaves (way_map_done (behind_making made_head) way)
  any_behind (Returned x) left did = absurd did
  any_behind (Stopped s refusal) left did = left did.disk.between (did.disk.made known) did.disk.used.faults (ended_within s refusal s.failed did)
  any_behind (Interrupted s fault) left did = left did.disk.between (did.disk.made known) did.disk.used.faults (ended_within s (Some (interruption_refusal fault)) (with_failed_call fault s.failed) did)

  behind_left : (way : Way Progress ⊥) → Allows (made_load_plan device clock seed) way → BehindAny way
  behind_left way allows between made same = end_of (Behind between made same) (made_load_plan device clock seed) way (load_left between made same) allows

  sought_left : (there : Bool) → HasArchiveAs (device.reads e.disk) there → (way : Way Progress ⊥) → Allows (after_sought 0 (behind_plan device clock seed) there) way → Leaves way
  sought_left true open_gate way is =
      subst Leaves (sym is) (λ did. left_untouched Exists did.report did.printed (did.disk.1 known) (inl (ap (λ (r : Report). r.refusal) did.report)) (λ none. one_or_none open_gate none))
  sought_left false none way allows =
      let inner = allowed_behind (behind_making made_head) (made_load_plan device clock seed) way allows in
      subst Leaves (sym inner.2) (any_behind inner.0 (behind_left inner.0 inner.1))

  each_left : (way : Way Progress ⊥) → Allows (make_plan device e.disk clock seed) way → Leaves way
  unfolding make_plan
  each_left way (inl is) = subst Leaves (sym is) (λ did. left_wanting did.report did.printed did.disk)
  each_left way (inr (inl is)) = subst Leaves (sym is) (λ did. left_failed did.report did.printed did.disk.0.faults (did.disk.1 known))
  each_left way (inr (inr (there, holds, allows))) = sought_left there (holds known) way allows

-- ---- the clause

pub make_done : {D : Type 0} (device : Device D) (e : Call D) (files : Files) (clock : Option ℤ) (seed : ℕ) → IsRun device e files clock (Make seed) → IsMakeDone device e clock seed
make_done device e files clock seed run =
    let left = by_job device e files clock (Make seed) run (IsLeft device e clock seed run.transparent)
    (λ did. left_wanting device e clock seed run.transparent did.report did.printed did.disk)
    (λ way allows end. each_left device e clock seed run.transparent way allows end.did) in
    record { exists = left.exists; not_made = left.not_made; made = left.made; complete = left.complete }
