-- How the jobs of a session over an archive went, what was filled behind them, and what they leave of the disk.
use Rattle.std.proofs.Common.{◌≡◌, ◌≢◌, ℕ, ◌+◌, ◌-◌, ◌≤◌, Bool, true, false, List, [], ◌++◌, length, Some, None, Option, refl, sym, ap, ◌∙◌, subst, arith}
use Rattle.std.specs.Prelude.{IfErr, IfOk, IfSome, IsTrue, Result}
use Rattle.std.specs.List.{AllByRecursion}
use Rattle.arch_disk.specs.Image.{Image}
use Rattle.arch_disk.specs.Disk.{Device, LeavesOnly, raised}
use Rattle.refusals.specs.declared.refusal.Refusal.{Refusal}
use Rattle.refusals.specs.declared.refusal.Refusal.TheVariants.{Limit, NeedsReopen}
use Rattle.refusals.specs.declared.refusal.Which.TheVariants.{Records}
use Rattle.refusals.specs.Limits.{limit_of}
use Rattle.history_items.specs.declared.fills.Addition.{Addition}
use Rattle.history_items.specs.declared.fills.Addition.TheVariants as additions
use Rattle.history_items.specs.declared.fills.Fill.{Fill}
use Rattle.history_items.specs.declared.items.Item.{Item}
use Rattle.history_items.specs.Fills.{pending_fault_of, rows_of_faults}
use Rattle.store_fills.specs.Faults.{faults_in}
use Rattle.store_fills.specs.LastFills.{fillings_in}
use Rattle.store_fills.proofs.Faults.{faults_in-done, pending_fault_of-in}
use Rattle.archive_store.specs.AddedFills.{AddsRightFills}
use Rattle.archive_store.specs.Keeping.{IsKept}
use Rattle.archive_store.specs.Stands.{IsSoundImage}
use Rattle.archive_store.specs.StoreView.{OnlyAppends, StoreView, archive_of, filled_of}
use Rattle.command_plans.specs.Plan.{CommandPlan, Stopped}
use Rattle.outer_traits.specs.States.{OutputState, SourceState}
use Rattle.command_runs.specs.declared.report.Report.{Report}
use Rattle.command_runs.specs.Causes.{IsCountedSince, IsLogNear}
use Rattle.command_runs.specs.Command.{AllFilled, Effects, Extended, FillingFailed, HasDiskOutcome, Progress, Ran, effects_of}
use Rattle.command_plans.specs.Ledger.{RoseIf}
use Rattle.command_runs.specs.Healing.{HasOneFault, TriesToHeal}
use Rattle.command_runs.specs.Reading.{InMemory, OnPages, RowsPlace}
use Rattle.command_runs.proofs.ReadFaults.{NotesReads, none_notes, one_behind, reads_pending}
use Rattle.command_runs.proofs.Reading.{StandAt}
use Rattle.archive_store.specs.UnreadRows.{IsFaultOfRead}
use Rattle.command_runs.specs.Opened.{IsOpenedOn}
use Rattle.command_runs.specs.Report.{loaded}
use Rattle.command_runs.proofs.Commands.{no_text}
use Rattle.command_runs.proofs.During.{IsOpened, opened_store}
use Rattle.command_runs.proofs.FilledDisks.{batch_failed_disk, failed_disk, fill_failed_disk, fault_count_since, filled_disk, log_near, new_fills, unfailed_disk, unread_disk}
use Rattle.command_runs.proofs.FillingPlan.{ran_all_filled, ran_behind, ran_unfilled}
use Rattle.live_archive.specs.GoesOn.{NoneFailed, OneFailed}
use Rattle.live_asks.specs.LiveAsks.{DiskFacts, disk_facts}
use Rattle.live_fills.proofs.Late.{fills_of_late}
use Rattle.retrieval.specs.declared.found_asks.FoundAsk.{FoundAsk}
use Rattle.live_session.specs.declared.loading.LoadJob.{LoadJob}
use Rattle.live_session.specs.declared.loading.Loaded.{Loaded}
use Rattle.live_session.specs.declared.reported.ReportedRefusal.{ReportedRefusal}
use Rattle.live_session.specs.Jobs.{JobSetting}
use Rattle.live_session.specs.Outcome.{HasFailed, IsFailedAddition, IsJobsOutcome, IsLoadOutcome, IsSeenIn, JobsOutcome, lefts_of, load_setting, reported_of}
use Rattle.load_jobs.proofs.Closing.{left_during}
use Rattle.load_session.specs.During.{IsDuring}
use Rattle.load_session.specs.Filling.{AllLateFilled, IsFillFailed, IsFillUnread, IsFilledOn, IsFillingRefusal, IsUnfailed}
use Rattle.load_command.specs.Load.{after_session, history_extended, job_refused, write_failed}
use Rattle.load_command.specs.Loading.{IsNothingReported, IsReported, log_behind, outcome_of_failure, pending_behind}

-- where nothing is reported, no job is refused
pub nothing_reported : (said : Option ReportedRefusal) (filling : Result ℕ Refusal) → IsNothingReported said filling → said ≡ None
nothing_reported None filling is = refl
nothing_reported (Some reported) filling is = absurd is

-- A store was opened, jobs ran over it, what was late still was filled behind them, and a failed write was taken back.
module _ {D S : Type 0} (device : Device D) (disk : D) (old mid new : StoreView D) (on : IsOpenedOn device disk old) (state : S → SourceState) (sources : ℕ) (contents : List (Option (List ℕ))) (next : CommandPlan Progress ⊥)
    (job : LoadJob S) (asks : List FoundAsk) (left : Loaded D S) (came : IsLoadOutcome device state old job asks left) (lefts : lefts_of state job.sources.items ≡ contents)
    (filling : Result ℕ Refusal) (filled : IfOk filling (AllLateFilled device left.store mid)) (unfilled : IfErr filling (IsFillingRefusal device left.store mid)) (filled_on : IsFilledOn device left.store mid)
    (healed : TriesToHeal device mid new) (kept_old : IsKept device old) (kept : IsKept device new) (place : RowsPlace) (stands : StandAt device old place) (output output' : OutputState) (report : Report) where
  abbrev facts : DiskFacts
  facts = disk_facts device disk old.sealed

  abbrev between : StoreView D
  between = left.store

  abbrev link : ℕ
  link = job.link

  abbrev g : JobSetting
  g = load_setting old job asks

  abbrev c : JobsOutcome
  c = came.outcome

  abbrev went : Effects D
  went = effects_of disk new.disk output output' report

  abbrev RanSo : Type 0
  RanSo = Ran device (after_session place sources (filled_of old) c next (reported_of link c.ends c.others) c.failed) went

  -- ---- the way of the plan

  pub outcome : IsJobsOutcome facts (filled_of old) g link contents c
  outcome =
      subst (λ (image : Image). IsJobsOutcome (record { known = IsTrue device.is_transparent; sound = IsSoundImage image; sealed = old.sealed }) (filled_of old) g link contents c) on.opened.opening
      (subst (λ (l : List (Option (List ℕ))). IsJobsOutcome (disk_facts device old.opened old.sealed) (filled_of old) g link l c) lefts came.possible)

  -- it goes on by what is reported of the jobs, and by the write that failed
  goes_on : (reported : Option ReportedRefusal) (failed : Option Addition) → reported_of link c.ends c.others ≡ reported → c.failed ≡ failed → Ran device (after_session place sources (filled_of old) c next reported failed) went → RanSo
  goes_on reported failed is also ran =
      subst (λ (t : Option ReportedRefusal). Ran device (after_session place sources (filled_of old) c next t c.failed) went) (sym is)
      (subst (λ (f : Option Addition). Ran device (after_session place sources (filled_of old) c next reported f) went) (sym also) ran)

  -- what the store tells of a refusal
  seen : (reported : ReportedRefusal) → reported_of link c.ends c.others ≡ Some reported → IsSeenIn device old between reported.refusal
  seen reported is = subst (λ (t : Option ReportedRefusal). IfSome t (λ one. IsSeenIn device old between one.refusal)) is came.loaded.refused

  -- ---- the disk

  opened : IsTrue device.is_transparent → IsOpened device disk old
  opened known = opened_store device disk old (on.opened.filled known) on.reads on.opened.opening on.crash

  none_at_first : faults_in old.fills ≡ []
  none_at_first = faults_in-done old.fills on.opened.fills

  sets : IsTrue device.is_transparent → AddsRightFills old.head old.exponent between.history (fillings_in old.filled) (fillings_in between.filled)
  sets known = fills_of_late device old between known kept_old.bases came.loaded.goes came.loaded.late

  appends : OnlyAppends old between
  appends = came.loaded.goes.appends

  -- how many rows came
  abbrev came_rows : ℕ
  came_rows = length c.reached - length old.history

  -- a record more would pass the log's limit, if these are counted too
  log_reaches : limit_of Records + length old.history ≤ between.records + length between.history → limit_of Records ≤ mid.records + came_rows
  log_reaches full =
      let same = ap length came.loaded.history in
      let later = filled_on.records in
      omega (arith, full, same, later)

  log_told : (refusal : Refusal) → IsSeenIn device old between refusal → IsLogNear device new.disk (log_behind refusal came_rows)
  log_told (Limit Records number) seen = λ known. log_near device mid new healed kept.records came_rows (log_reaches (seen (λ paged. known) refl)) known
  log_told other seen = tt

  -- the fills that there are behind all: those that there were, and right ones
  pub right_fills : IsTrue device.is_transparent → AddsRightFills old.head old.exponent new.history (fillings_in old.filled) (fillings_in new.filled)
  right_fills = new_fills device disk old between mid new opened on.counts.faults appends.head appends.exponent appends.opened sets filled_on healed kept.images kept.faults kept.kept

  -- its rows stand where they stood
  stands_still : (at : RowsPlace) → StandAt device old at → StandAt device between at
  stands_still InMemory plain = appends.sealed ∙ plain
  stands_still (OnPages Tells) told = λ tells paged. told tells (omega (arith, appends.sealed, paged))

  -- no write of it failed while the jobs ran, but maybe reads
  module _ (none : NoneFailed device old between) (calm_so : c.unread ≡ false → none.reads ≡ []) (unread_so : c.unread ≡ true → none.reads ≢ []) where
    notes : NotesReads between.fills
    notes = subst (AllByRecursion IsFaultOfRead) (sym (none.faults ∙ ap (λ (l : List Fill). l ++ none.reads) none_at_first)) none.each

    count_by : (b : Bool) → c.unread ≡ b → RoseIf b (device.fault_count disk) (device.fault_count between.disk)
    count_by true is = subst (λ (n : ℕ). raised n ≤ device.fault_count between.disk) on.opened.no_fault (none.rose (unread_so is))
    count_by false is = none.no_fault (calm_so is) ∙ on.opened.no_fault

    count : RoseIf c.unread (device.fault_count disk) (device.fault_count between.disk)
    count = count_by c.unread refl

    no_write : device.failed_writes between.disk ≡ device.failed_writes disk
    no_write = none.no_failed_write ∙ on.opened.no_failed_write

    calm : pending_fault_of between.fills ≡ None
    calm = reads_pending between.fills notes

    unfailed : IsUnfailed device between mid → HasDiskOutcome device disk new.disk c.unread (Extended (filled_of old) c.reached)
    unfailed is =
        subst (λ (h : List Item). HasDiskOutcome device disk new.disk c.unread (Extended (filled_of old) h)) came.loaded.history
        (unfailed_disk device disk old between mid new opened on.counts.faults appends.head appends.exponent appends.opened sets filled_on healed kept.images kept.faults kept.kept c.unread notes count no_write is)

    failed : IsFillFailed device between mid → HasDiskOutcome device disk new.disk true (FillingFailed (filled_of old) c.reached)
    failed is =
        subst (λ (h : List Item). HasDiskOutcome device disk new.disk true (FillingFailed (filled_of old) h)) came.loaded.history
        (failed_disk device disk old between mid new opened on.counts.faults appends.head appends.exponent appends.opened sets filled_on healed kept.images kept.faults kept.kept c.unread notes count no_write is)

    unread : IsFillUnread device between mid → HasDiskOutcome device disk new.disk true (Extended (filled_of old) c.reached)
    unread is =
        subst (λ (h : List Item). HasDiskOutcome device disk new.disk true (Extended (filled_of old) h)) came.loaded.history
        (unread_disk device disk old between mid new opened on.counts.faults appends.head appends.exponent appends.opened sets filled_on healed kept.images kept.faults kept.kept c.unread notes count no_write is)

    all : (number : ℕ) → AllLateFilled device between mid number → HasDiskOutcome device disk new.disk c.unread (AllFilled (filled_of old) c.reached)
    all number is =
        subst (λ (h : List Item). HasDiskOutcome device disk new.disk c.unread (AllFilled (filled_of old) h)) came.loaded.history
        (filled_disk device disk old between mid new opened on.counts.faults appends.head appends.exponent appends.opened sets filled_on healed kept.images kept.faults kept.kept c.unread notes count no_write number is
        (λ known. kept.bases))

    -- ---- a job was refused, which is reported whatever the filling came to

    refused : (reported : ReportedRefusal) → reported_of link c.ends c.others ≡ Some reported → c.failed ≡ None → IsSeenIn device old between reported.refusal → output' ≡ output
        → report ≡ loaded (Some reported.refusal) reported.link (length old.history) (length c.reached) 0 0 0 → RanSo
    refused reported is also seen silent report_is =
        goes_on (Some reported) None is also
        (ran_behind (filled_of old) c.reached (job_refused sources (filled_of old) c reported) device went between mid calm refl
        (rw silent (no_text output.written)) (record { counted = ap (λ (o : OutputState). o.faults) silent }) unfailed failed unread all reported.refusal report_is (log_told reported.refusal seen) tt filling filled unfilled)

    -- ---- no job was

    abbrev st : Progress
    st = history_extended sources (filled_of old) None c

    -- a fill was refused
    not_filled : (refusal : Refusal) → reported_of link c.ends c.others ≡ None → c.failed ≡ None → IsFillingRefusal device between mid refusal → output' ≡ output
        → report ≡ loaded (Some refusal) None (length old.history) (length c.reached) 0 0 0 → RanSo
    not_filled refusal is also cause silent report_is =
        goes_on None None is also
        (ran_unfilled (filled_of old) c.reached st device went between mid calm refl
        (rw silent (no_text output.written)) (record { counted = ap (λ (o : OutputState). o.faults) silent }) unfailed failed unread place (stands_still place stands) (λ full. Unit {0}) next (refl, refl) (λ other reported. tt)
        (λ reaches. log_near device mid new healed kept.records 0 (omega (arith, reaches))) refusal cause report_is)

    -- each late interval was filled, and what follows was done
    all_done : (late : ℕ) → reported_of link c.ends c.others ≡ None → c.failed ≡ None → AllLateFilled device between mid late
        → (HasDiskOutcome device disk new.disk c.unread (AllFilled (filled_of old) c.reached) → Ran device next went) → RanSo
    all_done late is also done_is follows =
        goes_on None None is also (ran_all_filled place (λ full. Unit {0}) (filled_of old) c.reached st next device went tt (follows (all late done_is)))

  -- ---- a write failed while they ran

  module _ (addition : Addition) (one : OneFailed device old between) (adds : one.addition ≡ addition) where
    held : HasOneFault between.fills one.count true addition
    held = subst (HasOneFault between.fills one.count true) adds (one_behind old.fills between.fills one.before one.behind one.count true one.addition (none_notes old.fills none_at_first) one.each one.faults)

    wrote_once : device.failed_writes between.disk ≡ raised (device.failed_writes disk)
    wrote_once = one.wrote ∙ ap raised on.opened.no_failed_write

    session : IsTrue device.is_transparent → LeavesOnly device old.disk between.disk (IsDuring (archive_of old) between.history (rows_of_faults between.fills))
    session known = left_during device old between known came.loaded.goes (kept_old.kept known (pending_fault_of-in old.fills ∙ ap pending_fault_of none_at_first))

    what_failed : (a : Addition) → addition ≡ a → IsFailedAddition facts old.history c.reached g link contents c.ends a
        → HasDiskOutcome device disk new.disk true (outcome_of_failure (filled_of old) c.reached a)
    what_failed (additions.Rows rows) is in_hand =
        subst (λ (h : List Item). HasDiskOutcome device disk new.disk true (outcome_of_failure (filled_of old) h (additions.Rows rows))) came.loaded.history
        (batch_failed_disk device disk old between mid new opened on.counts.faults appends.head appends.exponent appends.opened sets filled_on healed kept.images kept.faults kept.kept addition one.count held wrote_once
        filling filled unfilled rows is on.opened.since appends.history session)
    what_failed (additions.Fill i base) is fill =
        subst (λ (h : List Item). HasDiskOutcome device disk new.disk true (outcome_of_failure (filled_of old) h (additions.Fill i base))) came.loaded.history
        (fill_failed_disk device disk old between mid new opened on.counts.faults appends.head appends.exponent appends.opened sets filled_on healed kept.images kept.faults kept.kept addition one.count held wrote_once
        filling filled unfilled i base is)
    what_failed additions.Nothing is never = absurd never

    -- the count at which it is pending was reached in the call
    counted_since : (refusal : Refusal) → IsSeenIn device old between refusal → IsCountedSince device disk new.disk (pending_behind refusal)
    counted_since (NeedsReopen faults) seen =
        fault_count_since device disk old between mid new opened on.counts.faults appends.head appends.exponent appends.opened sets filled_on healed kept.images kept.faults kept.kept addition one.count held wrote_once
        filling filled unfilled faults seen
    counted_since other seen = tt

    write_refused : (reported : ReportedRefusal) → reported_of link c.ends c.others ≡ Some reported → c.failed ≡ Some addition → IsFailedAddition facts old.history c.reached g link contents c.ends addition
        → IsSeenIn device old between reported.refusal → output' ≡ output → report ≡ loaded (Some reported.refusal) reported.link (length old.history) (length c.reached) 0 0 0 → RanSo
    write_refused reported is also failed seen silent report_is =
        goes_on (Some reported) (Some addition) is also (record {
          way = Stopped (write_failed sources (filled_of old) c reported addition) (Some reported.refusal);
          allows = refl;
          did = record {
            report = report_is;
            printed = rw silent (no_text output.written);
            output = record { counted = ap (λ (o : OutputState). o.faults) silent };
            disk = what_failed addition refl failed;
            log = log_told reported.refusal seen;
            pending = counted_since reported.refusal seen;
          };
        })

  -- ---- what is reported

  abbrev reports : ReportedRefusal → Type 0
  reports reported = report ≡ loaded (Some reported.refusal) reported.link (length old.history) (length c.reached) 0 0 0

  -- a job was refused
  job_reported : (reported : ReportedRefusal) → reported_of link c.ends c.others ≡ Some reported → (failed : Option Addition) → c.failed ≡ failed → HasFailed device old between failed c.unread → output' ≡ output → reports reported → RanSo
  job_reported reported is None also none silent report_is = refused none.0 none.1 none.2 reported is also (seen reported is) silent report_is
  job_reported reported is (Some addition) also one silent report_is =
      write_refused addition one.0 one.1 reported is also (subst (λ (f : Option Addition). IfSome f (IsFailedAddition facts old.history c.reached g link contents c.ends)) also outcome.failed)
      (seen reported is) silent report_is

  no_write_failed : reported_of link c.ends c.others ≡ None → c.failed ≡ None
  no_write_failed is = (outcome.reported_so is).0

  none_failed : reported_of link c.ends c.others ≡ None → HasFailed device old between None c.unread
  none_failed is = subst (λ (o : Option Addition). HasFailed device old between o c.unread) (no_write_failed is) came.loaded.failed

  -- the jobs, or else the filling behind them
  pub ran_reported : (reported : ReportedRefusal) → IsReported left.reported filling reported → output' ≡ output → reports reported → RanSo
  ran_reported reported is silent report_is = go left.reported refl is
    where
      go : (s : Option ReportedRefusal) → left.reported ≡ s → IsReported s filling reported → RanSo
      go (Some one) same this =
          let known : reported_of link c.ends c.others ≡ Some reported = sym came.reported ∙ same ∙ ap (λ (t : ReportedRefusal). Some t) (sym this) in
          job_reported reported known c.failed refl came.loaded.failed silent report_is
      go None same this =
          let known : reported_of link c.ends c.others ≡ None = sym came.reported ∙ same in
          let cause = subst (λ (r : Result ℕ Refusal). IfErr r (IsFillingRefusal device between mid)) this.0 unfilled in
          let none = none_failed known in
          not_filled none.0 none.1 none.2 reported.refusal known (no_write_failed known) cause silent
          (subst (λ (l : Option ℕ). report ≡ loaded (Some reported.refusal) l (length old.history) (length c.reached) 0 0 0) this.1 report_is)

  -- nothing was refused, each late interval was filled, and what follows was done
  pub ran_whole : IsNothingReported left.reported filling → (HasDiskOutcome device disk new.disk c.unread (AllFilled (filled_of old) c.reached) → Ran device next went) → RanSo
  ran_whole is follows = go left.reported refl is
    where
      go : (s : Option ReportedRefusal) → left.reported ≡ s → IsNothingReported s filling → RanSo
      go (Some one) same this = absurd this
      go None same this =
          let known : reported_of link c.ends c.others ≡ None = sym came.reported ∙ same in
          let done_is = subst (λ (r : Result ℕ Refusal). IfOk r (AllLateFilled device between mid)) this.1 filled in
          let none = none_failed known in
          all_done none.0 none.1 none.2 this.0 known (no_write_failed known) done_is follows
