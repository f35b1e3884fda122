-- How the jobs of a load into an archive that was made went, what was filled behind them, and what was summed up.
use Rattle.std.proofs.Common.{◌≡◌, ◌∙◌, ℕ, ℤ, List, [], length, Option, Some, None, refl, sym, ap, subst, arith}
use Rattle.std.specs.Prelude.{IfErr, IfOk, IsTrue, Result}
use Rattle.arch_disk.specs.Disk.{Device}
use Rattle.intervals.specs.Interval.{format_1_exponent}
use Rattle.interval_walks.proofs.Counts.{none_late}
use Rattle.refusals.specs.declared.refusal.Refusal.{Refusal}
use Rattle.outer_traits.specs.States.{OutputState}
use Rattle.history_items.specs.declared.items.Item.{Item}
use Rattle.store_fills.specs.LastFills.{PlacedFills, fillings_in}
use Rattle.store_fills.specs.Sound.{Fillings, no_fillings}
use Rattle.param_segments.specs.Rows.{SetRow}
use Rattle.archive_store.specs.Head.{Head}
use Rattle.archive_store.specs.AddedFills.{AddsRightFills}
use Rattle.archive_store.specs.Calls.{IsStoreCreated}
use Rattle.archive_store.specs.Entries.{FilledArchive, filled_archive}
use Rattle.archive_store.specs.Keeping.{IsKept}
use Rattle.archive_store.specs.LateFills.{late_in_archive}
use Rattle.archive_store.specs.Pages.{HasPages}
use Rattle.archive_store.specs.StoreView.{StoreView, filled_of}
use Rattle.command_plans.specs.Plan.{CommandPlan}
use Rattle.command_runs.specs.declared.report.LoadCounts.{LoadCounts}
use Rattle.command_runs.specs.declared.report.Report.{Report}
use Rattle.command_runs.specs.Command.{AllFilled, Effects, HasDiskOutcome, Progress, Ran, effects_of}
use Rattle.command_runs.specs.Extension.{filled_at}
use Rattle.command_runs.specs.Healing.{TriesToHeal}
use Rattle.command_runs.specs.Moment.{IsMomentOf}
use Rattle.command_runs.specs.Opened.{IsOpenedOn}
use Rattle.command_runs.specs.Reading.{InMemory}
use Rattle.command_runs.specs.Report.{loaded}
use Rattle.command_runs.proofs.FilledDisks.{late_as_filled}
use Rattle.live_asks.specs.LiveAsks.{DiskFacts, disk_facts}
use Rattle.retrieval.specs.declared.found_asks.FoundAsk.{FoundAsk}
use Rattle.live_session.specs.declared.loading.LoadJob.{LoadJob}
use Rattle.live_session.specs.declared.loading.Loaded.{Loaded}
use Rattle.live_session.specs.declared.reported.DumpCounts.{DumpCounts}
use Rattle.live_session.specs.declared.reported.ReportedRefusal.{ReportedRefusal}
use Rattle.live_session.specs.Jobs.{JobSetting, job_setting}
use Rattle.live_session.specs.Outcome.{IsJobsOutcome, IsLoadOutcome, JobsOutcome, counts_of, lefts_of, load_setting, reported_of}
use Rattle.load_session.specs.Filling.{AllLateFilled, IsFilledOn, IsFillingRefusal}
use Rattle.stream_graph.specs.Routes.{every_packet_route}
use Rattle.load_command.specs.Load.{after_session}
use Rattle.load_command.specs.Loading.{IsNothingReported, IsReported}
use Rattle.load_command.proofs.SessionRuns.{nothing_reported, outcome as session_outcome, ran_reported as session_reported, ran_whole as session_whole, right_fills}
use Rattle.make_command.specs.Made.{IsFilledBy, IsMadeOutcome, dumps_of_seed, made_archive, made_contents, made_head, octets_state}
use Rattle.make_command.specs.Make.{made_load_plan, summary_plan}
use Rattle.make_command.specs.Summing.{IsSummaryReply, counts_behind, summary_report}
use Rattle.make_command.proofs.Created.{archive_is, opened_on}
use Rattle.make_command.proofs.MadeLoads.{calm_reads, made_outcome, none_unread}
use Rattle.make_command.proofs.SummaryRuns.{ran_summary}

-- An archive was made, jobs ran over its store, what was late still was filled behind them, and a failed write was taken
-- back.
module _ {D : Type 0} (device : Device D) (disk : D) (s mid new : StoreView D) (created : IsStoreCreated device disk made_head s) (kept_first : IsKept device s) (seed : ℕ) (next : Option ℤ) (moment : ℤ)
    (is_moment : IsMomentOf next moment) (job : LoadJob (List ℕ)) (linked : job.link ≡ 1) (dumps : job.sources.items ≡ dumps_of_seed seed) (asks : List FoundAsk) (setting_is : load_setting s job asks ≡ job_setting made_head every_packet_route moment [])
    (left : Loaded D (List ℕ)) (came : IsLoadOutcome device octets_state s job asks left)
    (filling : Result ℕ Refusal) (filled : IfOk filling (AllLateFilled device left.store mid)) (unfilled : IfErr filling (IsFillingRefusal device left.store mid)) (filled_on : IsFilledOn device left.store mid)
    (healed : TriesToHeal device mid new) (kept : IsKept device new) (output output' : OutputState) (report : Report) where
  abbrev c : JobsOutcome
  c = came.outcome

  abbrev went : Effects D
  went = effects_of s.disk new.disk output output' report

  abbrev RanSo : Type 0
  RanSo = Ran device (made_load_plan device next seed) went

  abbrev between : StoreView D
  between = left.store

  abbrev setting : JobSetting
  setting = load_setting s job asks

  abbrev behind : CommandPlan Progress ⊥
  behind = summary_plan device seed c

  on : IsOpenedOn device s.disk s
  on = opened_on device disk made_head s created kept_first

  first_is : filled_of s ≡ made_archive
  first_is = archive_is device disk made_head s created kept_first

  -- ---- the way of the plan

  lefts : lefts_of octets_state job.sources.items ≡ made_contents seed
  lefts = ap (lefts_of octets_state) dumps

  abbrev facts : DiskFacts
  facts = disk_facts device s.disk s.sealed

  possible : IsJobsOutcome facts (filled_of s) setting 1 (made_contents seed) c
  possible =
      subst (λ (n : ℕ). IsJobsOutcome facts (filled_of s) setting n (made_contents seed) c) linked
      (session_outcome device s.disk s mid new on octets_state 0 (made_contents seed) behind job asks left came lefts filling filled unfilled filled_on healed kept_first kept InMemory created.sealed output output' report)

  came_to : IsMadeOutcome seed moment c
  came_to =
      made_outcome facts created.sealed seed moment c
      (subst (λ (f : FilledArchive). IsJobsOutcome facts f (job_setting made_head every_packet_route moment []) 1 (made_contents seed) c) first_is
      (subst (λ (f : JobSetting). IsJobsOutcome facts (filled_of s) f 1 (made_contents seed) c) setting_is possible))
      (none_unread octets_state c.ends job.sources.items left.sources.items (λ source. tt) (λ source. refl) came.sources, calm_reads device s between created.sealed c.failed c.unread came.loaded.failed)

  chosen : Ran device (after_session InMemory 0 (filled_of s) c behind (reported_of job.link c.ends c.others) c.failed) went → RanSo
  chosen given =
      let ran = subst (λ (n : ℕ). Ran device (after_session InMemory 0 (filled_of s) c behind (reported_of n c.ends c.others) c.failed) went) linked given in
      let made = subst (λ (f : FilledArchive). Ran device (after_session InMemory 0 f c behind (reported_of 1 c.ends c.others) c.failed) went) first_is ran in
      record { way = made.way; allows = (moment, is_moment, (c, came_to, made.allows)); did = made.did }

  -- the jobs were refused, or else the filling behind them
  pub ran_refused : (reported : ReportedRefusal) → IsReported left.reported filling reported → output' ≡ output → report ≡ loaded (Some reported.refusal) reported.link 0 (length c.reached) 0 0 0 → RanSo
  ran_refused reported is silent report_is =
      chosen (session_reported device s.disk s mid new on octets_state 0 (made_contents seed) behind job asks left came lefts filling filled unfilled filled_on healed kept_first kept InMemory created.sealed
      output output' report reported is silent
      (subst (λ (h : List Item). report ≡ loaded (Some reported.refusal) reported.link (length h) (length c.reached) 0 0 0) (sym created.history) report_is))

  -- ---- all was filled

  -- no row stands in a run
  pub plain : mid.sealed ≡ 0
  plain = filled_on.sealed ∙ came.loaded.goes.appends.sealed ∙ created.sealed

  no_pages : HasPages mid → ⊥
  no_pages paged = omega (arith, paged, plain)

  rows : mid.history ≡ c.reached
  rows = filled_on.rows ∙ came.loaded.history

  filled_is : filled_of mid ≡ filled_at made_archive c.reached (fillings_in mid.filled)
  filled_is =
      ap (λ (h : Head). filled_archive h mid.exponent mid.history (fillings_in mid.filled)) (filled_on.head ∙ came.loaded.goes.appends.head ∙ created.head_is)
      ∙ ap (λ (e : ℕ). filled_archive made_head e mid.history (fillings_in mid.filled)) (filled_on.exponent ∙ came.loaded.goes.appends.exponent ∙ created.exponent)
      ∙ ap (λ (l : List Item). filled_archive made_head format_1_exponent l (fillings_in mid.filled)) rows

  -- taking a failed write back leaves rows and fills
  same_rows : new.history ≡ c.reached
  same_rows = ap (λ (v : StoreView D). v.history) healed.left ∙ rows

  same_fills : new.filled ≡ mid.filled
  same_fills = ap (λ (v : StoreView D). v.filled) healed.left

  adds : IsTrue device.is_transparent → AddsRightFills made_head format_1_exponent c.reached no_fillings (fillings_in mid.filled)
  adds known =
      subst (λ (h : Head). AddsRightFills h format_1_exponent c.reached no_fillings (fillings_in mid.filled)) created.head_is
      (subst (λ (e : ℕ). AddsRightFills s.head e c.reached no_fillings (fillings_in mid.filled)) created.exponent
      (subst (λ (l : List Item). AddsRightFills s.head s.exponent l no_fillings (fillings_in mid.filled)) same_rows
      (subst (λ (f : Fillings (List SetRow)). AddsRightFills s.head s.exponent new.history f (fillings_in mid.filled)) created.filled
      (subst (λ (f : PlacedFills). AddsRightFills s.head s.exponent new.history (fillings_in s.filled) (fillings_in f)) same_fills
      (right_fills device s.disk s mid new on octets_state 0 (made_contents seed) behind job asks left came lefts filling filled unfilled filled_on healed kept_first kept InMemory created.sealed output output' report known)))))

  each_filled : (o : Option ReportedRefusal) → IsNothingReported o filling → (count : ℕ) × AllLateFilled device between mid count
  each_filled (Some reported) nothing = absurd nothing
  each_filled None nothing = (nothing.0, subst (λ (r : Result ℕ Refusal). IfOk r (AllLateFilled device between mid)) nothing.1 filled)

  is_filled : IsNothingReported left.reported filling → IsKept device mid → IsFilledBy device c.reached (fillings_in mid.filled)
  is_filled nothing kept_mid = record {
    adds = adds;
    none_late = subst (λ (f : FilledArchive). late_in_archive f ≡ []) filled_is
        (sym (late_as_filled (filled_of mid) mid.fills kept_mid.bases) ∙ none_late mid.exponent mid.history mid.fills (each_filled left.reported nothing).1.none_late);
  }

  -- nothing was refused, and what there is was compared and printed, or not
  pub ran_summed : IsNothingReported left.reported filling → IsKept device mid → (refusal : Option Refusal) → IsSummaryReply (HasPages mid) seed (counts_behind left.counts (length mid.history)) (filled_of mid) refusal output output'
      → report ≡ summary_report refusal (length mid.history) (counts_behind left.counts (length mid.history)) → RanSo
  ran_summed nothing kept_mid refusal reply report_is =
      let same : counts_behind left.counts (length mid.history) ≡ counts_behind (counts_of c.ends) (length c.reached) =
      ap (λ (d : DumpCounts). counts_behind d (length mid.history)) (came.counts (nothing_reported left.reported filling nothing)) ∙ ap (λ (l : List Item). counts_behind (counts_of c.ends) (length l)) rows in
      let replied =
      subst (λ (f : FilledArchive). IsSummaryReply (HasPages mid) seed (counts_behind (counts_of c.ends) (length c.reached)) f refusal output output') filled_is
      (subst (λ (n : LoadCounts). IsSummaryReply (HasPages mid) seed n (filled_of mid) refusal output output') same reply) in
      let reports =
      subst (λ (l : List Item). report ≡ summary_report refusal (length l) (counts_behind (counts_of c.ends) (length c.reached))) rows
      (subst (λ (n : LoadCounts). report ≡ summary_report refusal (length mid.history) n) same report_is) in
      chosen (session_whole device s.disk s mid new on octets_state 0 (made_contents seed) behind job asks left came lefts filling filled unfilled filled_on healed kept_first kept InMemory created.sealed
      output output' report nothing
      (λ disk_is. ran_summary device s.disk new.disk output output' report seed c (fillings_in mid.filled) (is_filled nothing kept_mid)
      (subst (λ (f : FilledArchive). HasDiskOutcome device s.disk new.disk c.unread (AllFilled f c.reached)) first_is disk_is)
      (HasPages mid) no_pages refusal replied reports))
