-- Where a load ends behind its jobs: the disk that is handed back, and what a refusal is reported by.
use Rattle.std.proofs.Common.{◌≡◌, ◌⊎◌, ◌∙◌, inl, inr, ℕ, ℤ, ◌+◌, ◌-◌, ◌≤◌, List, length, Bool, true, false, Option, Some, None, refl, ap, subst, arith}
use Rattle.std.specs.Prelude.{IsSome, IsTrue}
use Rattle.std.proofs.lemmas.List.{length-append}
use Rattle.arch_disk.specs.Disk.{Device, raised}
use Rattle.arch_types.specs.declared.row.Row.{Row}
use Rattle.asks.specs.declared.ask.Ask.{Ask}
use Rattle.refusals.specs.declared.refusal.Refusal.{Refusal}
use Rattle.refusals.specs.declared.refusal.Refusal.TheVariants.{Limit}
use Rattle.refusals.specs.declared.refusal.Which.TheVariants.{Records}
use Rattle.outer_traits.specs.Outside.{Files}
use Rattle.history_items.specs.declared.fills.Addition.{Addition}
use Rattle.history_items.specs.declared.fills.Addition.TheVariants.{Rows}
use Rattle.history_items.specs.declared.items.Item.{Item}
use Rattle.history_items.specs.Items.{items_of}
use Rattle.archive_store.specs.Entries.{FilledArchive}
use Rattle.archive_store.specs.Stands.{StandsFor}
use Rattle.live_asks.specs.LiveAsks.{DiskFacts}
use Rattle.load_session.specs.During.{with_history}
use Rattle.live_session.specs.declared.reported.ReportedRefusal.{ReportedRefusal}
use Rattle.live_session.specs.Outcome.{JobsOutcome}
use Rattle.command_plans.specs.Ledger.{RoseIf}
use Rattle.command_words.specs.Job.{LoadWords}
use Rattle.command_runs.specs.declared.report.Report.{Report}
use Rattle.command_runs.specs.Causes.{IsCountedSince, IsLogNear}
use Rattle.command_runs.specs.Command.{EndedAt, Progress}
use Rattle.command_runs.specs.Extension.{IsExtended, filled_at}
use Rattle.command_runs.specs.FillingPlan.{FillingEnd, Refused, Unread, Unwritten, Whole, filled_to}
use Rattle.command_runs.proofs.Openings.{plain_stands}
use Rattle.load_command.specs.Load.{job_refused, write_failed}
use Rattle.load_command.specs.Loading.{log_behind, pending_behind}
use Rattle.command_laws.specs.Calls.{Call, effects}
use Rattle.command_laws.specs.Links.{IsGrown}
use Rattle.command_laws.specs.Load.{AreRecordsPassed, IsReached}
use Rattle.command_laws.proofs.JobsLoaded.{CameToJobs, grown, in_hand, moment}
use Rattle.command_laws.proofs.OnTheWay.{IsDiskLoaded, extended_disk, failed_disk, unfilled_disk}
use Rattle.command_laws.proofs.Reported.{IsReportedEnd}

module _ (files : Files) (clock : Option ℤ) (words : LoadWords) (before : FilledArchive) (facts : DiskFacts) (asks : List Ask) (c : JobsOutcome) (came : CameToJobs files clock words before facts asks c)
    {D : Type 0} (device : Device D) (e : Call D) (known : IsTrue device.is_transparent) where
  abbrev now : ℤ
  now = moment files clock words before facts asks c came

  abbrev IsLoadedDisk : Type 0
  IsLoadedDisk = IsDiskLoaded files now words before c.reached device e

  has_grown : IsGrown files now words before c.reached
  has_grown = grown files clock words before facts asks c came

  -- the disk that is handed back stands for what was reached
  abbrev Exact : Type 0
  Exact = StandsFor (device.reads e.disk') (with_history before.plain c.reached)

  -- what was reached, by the disk and the report
  pub is_reached : IsLoadedDisk → e.report.after ≡ length c.reached → (length words.dumps ≡ 1 → Exact) → IsReached device e files now words before c.reached
  is_reached disk after alone = record { held = disk.now (device.reads e.disk') (device.reads_as_image e.disk' known); alone = alone; after = after; grown = has_grown }

  pub no_fewer : length before.plain.history ≤ length c.reached
  no_fewer =
      let all = ap (λ (h : List Item). length h) has_grown.grown in
      let two = length-append before.plain.history (items_of has_grown.more) in omega (arith, all, two)

  -- a log that is near its limit has passed it with the rows that came
  pub near_passed : (more : ℕ) → more + length before.plain.history ≤ length c.reached → IsLogNear device e.disk' (Some more) → AreRecordsPassed device e before c.reached
  near_passed more few near =
      let log = near known in
      let most = log.2 in (log.0, log.1, omega (arith, most, few))

  pub kept_stands : IsExtended device e.disk e.disk' before c.reached → Exact
  kept_stands x = plain_stands (device.reads e.disk') (filled_at before c.reached x.kept.fillings) x.kept.durable.reads

  module _ (dumps : ℕ) (t : ReportedRefusal) where
    by_log : IsLogNear device e.disk' (log_behind t.refusal (length c.reached - length before.plain.history)) → (number : ℕ) → t.refusal ≡ Limit Records number → AreRecordsPassed device e before c.reached
    by_log log number is =
        let more = length c.reached - length before.plain.history in
        let fewer = no_fewer in
        near_passed more (omega (arith, fewer)) (subst (λ (r : Refusal). IsLogNear device e.disk' (log_behind r more)) is log)

    -- ---- no write failed

    module _ (none : c.failed ≡ None) where
      abbrev behind : FillingEnd → Progress
      behind end = filled_to before c.reached (job_refused dumps before c t) end

      unfailed : {Q : Type 0} → IsSome c.failed → Q
      unfailed some = let never = subst IsSome none some in absurd (cc (never))

      -- the count of the disk's faults rose where a read failed
      rose : (faults : Bool) → RoseIf faults (device.fault_count e.disk) (device.fault_count e.disk') → faults ≡ true → raised (device.fault_count e.disk) ≤ device.fault_count e.disk'
      rose true counted is = counted
      rose false counted is = absurd (cc (is))

      reported_end : (s : Progress) → EndedAt device (effects e) s (Some t.refusal) s.failed → (c.unread ≡ true → raised (device.fault_count e.disk) ≤ device.fault_count e.disk') → IsLoadedDisk → s.report.opened ≡ true → s.report.after ≡ length c.reached → s.report.link ≡ t.link → Exact
          → ((number : ℕ) → t.refusal ≡ Limit Records number → AreRecordsPassed device e before c.reached) → IsReportedEnd files clock words before facts asks c came device e t
      reported_end s did unread disk opened after link exact recorded = record {
        refusal = ap (λ (r : Report). r.refusal) did.report;
        opened = ap (λ (r : Report). r.opened) did.report ∙ opened;
        link = ap (λ (r : Report). r.link) did.report ∙ link;
        holds = is_reached disk (ap (λ (r : Report). r.after) did.report ∙ after);
        exact = λ none. exact;
        faulted = risen;
        pending = λ faults is some. unfailed some;
        recorded = recorded;
      }
        where
          risen : IsSome c.failed ⊎ (c.unread ≡ true) → raised (device.fault_count e.disk) ≤ device.fault_count e.disk'
          risen (inl some) = unfailed some
          risen (inr is) = unread is

      -- whatever the filling came to
      pub filled_end : (end : FillingEnd) → EndedAt device (effects e) (behind end) (Some t.refusal) (behind end).failed → IsLoadedDisk × IsReportedEnd files clock words before facts asks c came device e t
      filled_end Whole did =
          let disk = extended_disk files now words before c.reached device e (did.disk.1 known).extended in
          (disk, reported_end (behind Whole) did (rose c.unread did.disk.0.faults) disk refl refl refl (kept_stands (did.disk.1 known).extended) (by_log did.log))
      filled_end Unwritten did =
          let disk = unfilled_disk files now words before c.reached device e (did.disk.1 known) in
          (disk, reported_end (behind Unwritten) did (λ is. did.disk.0.faults) disk refl refl refl (did.disk.1 known).durable.reads (by_log did.log))
      filled_end Unread did =
          let disk = extended_disk files now words before c.reached device e (did.disk.1 known) in
          (disk, reported_end (behind Unread) did (λ is. did.disk.0.faults) disk refl refl refl (kept_stands (did.disk.1 known)) (by_log did.log))
      filled_end Refused did =
          let disk = extended_disk files now words before c.reached device e (did.disk.1 known) in
          (disk, reported_end (behind Refused) did (rose c.unread did.disk.0.faults) disk refl refl refl (kept_stands (did.disk.1 known)) (by_log did.log))

    -- ---- a write failed

    abbrev halted : Addition → Progress
    halted addition = write_failed dumps before c t addition

    fault_end : (addition : Addition) → EndedAt device (effects e) (halted addition) (Some t.refusal) (halted addition).failed → IsLoadedDisk → raised (device.fault_count e.disk) ≤ device.fault_count e.disk'
        → (((rows : List Row) → c.failed ≡ Some (Rows rows) → ⊥) → Exact) → IsReportedEnd files clock words before facts asks c came device e t
    fault_end addition did disk rose exact = record {
      refusal = ap (λ (r : Report). r.refusal) did.report;
      opened = ap (λ (r : Report). r.opened) did.report;
      link = ap (λ (r : Report). r.link) did.report;
      holds = is_reached disk (ap (λ (r : Report). r.after) did.report);
      exact = exact;
      faulted = λ any. rose;
      pending = λ faults is some. subst (λ (r : Refusal). IsCountedSince device e.disk e.disk' (pending_behind r)) is did.pending;
      recorded = by_log did.log;
    }

    -- it is taken back last
    pub written_end : (addition : Addition) → c.failed ≡ Some addition → EndedAt device (effects e) (halted addition) (Some t.refusal) (halted addition).failed
        → IsLoadedDisk × IsReportedEnd files clock words before facts asks c came device e t
    written_end (Rows rows) is did =
        let disk = failed_disk files now words before c.reached device e rows (in_hand files clock words before facts asks c came rows is) (did.disk.1 known) in
        (disk, fault_end (Rows rows) did disk did.disk.0.faults (λ none. absurd (none rows is)))
    written_end other is did =
        let disk = unfilled_disk files now words before c.reached device e (did.disk.1 known) in
        (disk, fault_end other did disk did.disk.0.faults (λ none. (did.disk.1 known).durable.reads))
