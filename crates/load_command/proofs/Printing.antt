-- What is printed of a load whose jobs were not refused, once all is filled behind them.
use Rattle.std.proofs.Common.{◌≡◌, inl, inr, ℕ, ◌<◌, ◌-◌, ◌++◌, false, List, [], ◌∷◌, length, Some, None, Option, refl, subst, arith}
use Rattle.arch_disk.specs.Disk.{Device}
use Rattle.asks.specs.declared.ask.Ask.{Ask}
use Rattle.refusals.specs.declared.refusal.Refusal.{Refusal}
use Rattle.refusals.specs.declared.refusal.Refusal.TheVariants.{WriteFault, OutOfMemory}
use Rattle.history_items.specs.Items.{rows_in}
use Rattle.archive_store.specs.Entries.{Archive, FilledArchive}
use Rattle.command_plans.specs.Plan.{OfMemory, OfOutput, CommandPlan, Stop, May, Way, Stopped, Interrupted, Allows}
use Rattle.command_plans.proofs.Ledgers.{risen_counted}
use Rattle.outer_traits.specs.States.{OutputState}
use Rattle.ask_answers.specs.Asks.{ArePrinted}
use Rattle.ask_answers.specs.Collected.{collected_answers_text}
use Rattle.command_runs.specs.declared.report.Report.{Report}
use Rattle.command_runs.specs.Command.{AllFilled, Effects, HasDiskOutcome, Progress, Ran, effects_of}
use Rattle.command_runs.specs.FillingPlan.{all_filled}
use Rattle.live_asks.specs.declared.answered.AskAnswer.{AskAnswer}
use Rattle.live_session.specs.declared.reported.DumpCounts.{DumpCounts}
use Rattle.live_session.specs.Outcome.{JobsOutcome, counts_of}
use Rattle.load_command.specs.Load.{answering_asks_plan, history_extended, load_printing_plan}
use Rattle.load_command.specs.LoadLine.{load_line, load_text, whole_report}
use Rattle.load_command.specs.Loading.{IsBehindJobs}
use Rattle.load_command.proofs.LoadReports.{printed_report, reports_load, wrote_load}

-- where there are asks or not, what may follow their answers
behind_answers : (asks : List Ask) (s : Progress) (plan : CommandPlan Progress ⊥) (way : Way Progress ⊥) → Allows plan way → Allows (answering_asks_plan asks s plan) way
behind_answers [] s plan way allows = allows
behind_answers (ask ∷ asks) s plan way allows = inr allows

-- where there are, memory may be wanting
wanting_memory : (asks : List Ask) (s : Progress) (plan : CommandPlan Progress ⊥) → 0 < length asks → Allows (answering_asks_plan asks s plan) (Interrupted s OfMemory)
wanting_memory [] s plan some = absurd (omega (arith, some))
wanting_memory (ask ∷ asks) s plan some = inl refl

module _ {D : Type 0} (device : Device D) (disk left : D) (sources : ℕ) (opened : FilledArchive) (asks : List Ask) (c : JobsOutcome) (disk_is : HasDiskOutcome device disk left c.unread (AllFilled opened c.reached))
    (output output' : OutputState) (report : Report) where
  abbrev went : Effects D
  went = effects_of disk left output output' report

  -- the report of a load that was printed, or not to its end
  abbrev report_by : Option Refusal → Report
  report_by refusal = printed_report refusal (length opened.plain.history) (length c.reached) (counts_of c.ends).packets (counts_of c.ends).routed (counts_of c.ends).idle

  abbrev done : Progress
  done = all_filled opened c.reached (history_extended sources opened None c)

  abbrev text : List ℕ
  text = load_text opened.plain asks c

  abbrev printing : Progress
  printing = record done { text = text; is_whole = false }

  abbrev printed : Progress
  printed = record done { text = text; report = whole_report (length opened.plain.history) c }

  abbrev line_plan : CommandPlan Progress ⊥
  line_plan = May OfOutput printing (Stop printed None)

  answers_printed : (refusal : Option Refusal) → ArePrinted asks refusal output output' text → report ≡ report_by refusal → Ran device (load_printing_plan sources opened asks c) went
  answers_printed None w report_is = record {
    way = Stopped printed None;
    allows = behind_answers asks printing line_plan (Stopped printed None) (inr refl);
    did = record { report = report_is; printed = w.all; output = record { counted = w.no_fault }; disk = disk_is; log = tt; pending = tt };
  }
  answers_printed (Some WriteFault) w report_is = record {
    way = Interrupted printing OfOutput;
    allows = behind_answers asks printing line_plan (Interrupted printing OfOutput) (inl refl);
    did = record { report = report_is; printed = w.some; output = record { counted = risen_counted output.faults output'.faults w.later w.failed }; disk = disk_is; log = tt; pending = tt };
  }
  answers_printed (Some OutOfMemory) w report_is = record {
    way = Interrupted printing OfMemory;
    allows = wanting_memory asks printing line_plan w.0;
    did = record { report = report_is; printed = w.1.some; output = record { counted = w.1.no_fault }; disk = disk_is; log = tt; pending = tt };
  }
  answers_printed (Some other) w report_is = absurd w

  -- all was printed by an archive behind the jobs, or not to its end
  pub ran_printed : (now : Archive) (counts : DumpCounts) (answers : List AskAnswer) → IsBehindJobs opened.plain c now counts answers → (before : ℕ) → before ≡ length opened.plain.history
      → ArePrinted asks report.refusal output output' (collected_answers_text now 1 asks answers
      ++ load_line counts.packets (length now.history - before) (counts.routed - (length now.history - before)) counts.idle (length (rows_in now.history)))
      → report ≡ printed_report report.refusal before (length now.history) counts.packets counts.routed counts.idle → Ran device (load_printing_plan sources opened asks c) went
  ran_printed now counts answers behind before is wrote report_is =
      let wrote_all = wrote_load opened.plain now c behind.database behind.names behind.rows counts behind.counts_are answers behind.answers_are asks report.refusal output output'
      (subst (λ (n : ℕ). ArePrinted asks report.refusal output output' (collected_answers_text now 1 asks answers
      ++ load_line counts.packets (length now.history - n) (counts.routed - (length now.history - n)) counts.idle (length (rows_in now.history)))) is wrote) in
      let reports = reports_load opened.plain now c behind.database behind.names behind.rows counts behind.counts_are answers behind.answers_are report
      (subst (λ (n : ℕ). report ≡ printed_report report.refusal n (length now.history) counts.packets counts.routed counts.idle) is report_is) in
      answers_printed report.refusal wrote_all reports
