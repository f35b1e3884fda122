-- How the jobs of a load went, and what followed them.
use Rattle.std.proofs.Common.{◌≡◌, ℕ, ℤ, List, length, Some, Option, sym, ◌∙◌, subst}
use Rattle.std.specs.Prelude.{IfErr, IfOk, IsTrue, Result}
use Rattle.std.specs.List.{list_any}
use Rattle.arch_disk.specs.Disk.{Device}
use Rattle.asks.specs.declared.ask.Ask.{Ask}
use Rattle.refusals.specs.declared.refusal.Refusal.{Refusal}
use Rattle.archive_store.specs.Keeping.{IsKept}
use Rattle.archive_store.specs.StoreView.{StoreView, archive_of, filled_of}
use Rattle.command_plans.specs.Plan.{CommandPlan}
use Rattle.command_plans.specs.Sources.{UsedSources}
use Rattle.command_plans.proofs.Plans.{end_of}
use Rattle.command_words.specs.Job.{LoadWords}
use Rattle.outer_traits.specs.Outside.{Files}
use Rattle.outer_traits.specs.States.{OutputState, SourceState}
use Rattle.command_runs.specs.declared.report.Report.{Report}
use Rattle.command_runs.specs.ArchiveWork.{RanWith}
use Rattle.command_runs.specs.Command.{AllFilled, Effects, HasDiskOutcome, Progress, Ran, effects_of}
use Rattle.command_runs.specs.Healing.{TriesToHeal}
use Rattle.command_runs.specs.Reading.{OnPages, RowsPlace}
use Rattle.command_runs.proofs.Reading.{StandAt, tells_so}
use Rattle.command_runs.specs.Opened.{IsOpenedOn}
use Rattle.command_runs.specs.Report.{loaded}
use Rattle.live_asks.specs.LiveAsks.{disk_facts}
use Rattle.retrieval.specs.declared.found_asks.FoundAsk.{FoundAsk}
use Rattle.retrieval.specs.FoundAsks.{asks_found}
use Rattle.live_session.specs.declared.loading.LoadJob.{LoadJob}
use Rattle.live_session.specs.declared.loading.Loaded.{Loaded}
use Rattle.live_session.specs.declared.reported.ReportedRefusal.{ReportedRefusal}
use Rattle.live_session.specs.Jobs.{JobSetting}
use Rattle.live_session.specs.Outcome.{IsJobsOutcome, IsLoadOutcome, JobsOutcome, lefts_of, load_setting, reported_of}
use Rattle.load_session.specs.Filling.{AllLateFilled, IsFilledOn, IsFillingRefusal}
use Rattle.load_command.specs.Load.{after_jobs, jobs_plan, load_printing_plan}
use Rattle.load_command.specs.Loading.{HaveUsedSources, IsNothingReported, IsReported, IsSettingOf, dumps_of, is_unread}
use Rattle.load_command.proofs.Dumps.{used_by_links}
use Rattle.load_command.proofs.LoadPlan.{HasUsed, jobs_used}
use Rattle.load_command.proofs.SessionRuns.{outcome as session_outcome, ran_reported as session_told, ran_whole as session_whole}

-- A store was opened, jobs ran over it, what was late still was filled behind them, and a failed write was taken back.
module _ {D S : Type 0} (device : Device D) (disk : D) (old mid new : StoreView D) (on : IsOpenedOn device disk old) (state : S → SourceState) (files : Option Files) (next : Option ℤ) (words : LoadWords)
    (job : LoadJob S) (linked : job.link ≡ words.link) (found : List FoundAsk) (given : IsSettingOf (archive_of old) next job.graph (asks_found found) (load_setting old job found))
    (left : Loaded D S) (came : IsLoadOutcome device state old job found left) (lefts : lefts_of state job.sources.items ≡ dumps_of files words.dumps) (as_many : length words.dumps ≡ length job.sources.items)
    (filling : Result ℕ Refusal) (filled : IfOk filling (AllLateFilled device left.store mid)) (unfilled : IfErr filling (IsFillingRefusal device left.store mid)) (filled_on : IsFilledOn device left.store mid)
    (healed : TriesToHeal device mid new) (kept_old : IsKept device old) (kept : IsKept device new) (output output' : OutputState) (report : Report) where
  abbrev dumps : ℕ
  dumps = length words.dumps

  abbrev asks : List Ask
  asks = asks_found found

  abbrev c : JobsOutcome
  c = came.outcome

  abbrev went : Effects D
  went = effects_of disk new.disk output output' report

  abbrev printing_next : CommandPlan Progress ⊥
  printing_next = load_printing_plan dumps (filled_of old) asks c

  abbrev RanSo : Type 0
  RanSo = RanWith device (jobs_plan (disk_facts device disk) files next words (filled_of old) job.graph asks) went (HaveUsedSources state job.sources.items left.sources.items)

  abbrev behind : ℕ → CommandPlan Progress ⊥
  behind link = after_jobs (IsTrue device.is_transparent) dumps (filled_of old) asks c (reported_of link c.ends c.others) c.failed

  -- rows may stand on pages, which are told where the disk tells what it holds
  abbrev at_pages : RowsPlace
  at_pages = OnPages (IsTrue device.is_transparent)

  told_pages : StandAt device old at_pages
  told_pages = tells_so device old

  abbrev setting : JobSetting
  setting = load_setting old job found

  -- what came of the jobs is chosen, and the sources were used as it says
  chosen : Ran device (behind job.link) went → RanSo
  chosen given_ran =
      let ran = subst (λ (n : ℕ). Ran device (behind n) went) linked given_ran in
      let olds = job.sources.items in
      let news = left.sources.items in
      let came_of = subst (λ (n : ℕ). IsJobsOutcome (disk_facts device disk old.sealed) (filled_of old) setting n (dumps_of files words.dumps) c) linked
      (session_outcome device disk old mid new on state dumps (dumps_of files words.dumps) printing_next job found left came lefts filling filled unfilled filled_on healed kept_old kept at_pages told_pages output output' report) in
      let each = end_of (HasUsed dumps (list_any is_unread c.ends)) (behind words.link) ran.way (jobs_used dumps (filled_of old) c (IsTrue device.is_transparent) asks (reported_of words.link c.ends c.others) c.failed) ran.allows in record {
        ran = record { way = ran.way; allows = (old.sealed, tt, (setting, given, (c, came_of, ran.allows))); did = ran.did };
        used = record { given = each.0 ∙ as_many; used = subst (UsedSources state olds news) (sym each.1) (used_by_links state c.ends olds news came.sources) };
      }

  -- the jobs, or else the filling behind them
  pub ran_reported : (reported : ReportedRefusal) → IsReported left.reported filling reported → output' ≡ output → report ≡ loaded (Some reported.refusal) reported.link (length old.history) (length c.reached) 0 0 0 → RanSo
  ran_reported reported is silent report_is =
      chosen (session_told device disk old mid new on state dumps (dumps_of files words.dumps) printing_next job found left came lefts filling filled unfilled filled_on healed kept_old kept at_pages told_pages
      output output' report reported is silent report_is)

  -- nothing was refused, and what there is to print was printed
  pub ran_whole : IsNothingReported left.reported filling → (HasDiskOutcome device disk new.disk c.unread (AllFilled (filled_of old) c.reached) → Ran device printing_next went) → RanSo
  ran_whole is follows =
      chosen (session_whole device disk old mid new on state dumps (dumps_of files words.dumps) printing_next job found left came lefts filling filled unfilled filled_on healed kept_old kept at_pages told_pages
      output output' report is follows)
