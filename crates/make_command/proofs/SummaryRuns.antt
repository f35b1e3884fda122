-- How the comparing and the printing of an archive of made packets went.
use Rattle.std.proofs.Common.{◌≡◌, inl, inr, ℕ, false, List, length, Option, Some, None, refl, ap}
use Rattle.arch_disk.specs.Disk.{Device}
use Rattle.refusals.specs.declared.refusal.Refusal.{Refusal}
use Rattle.refusals.specs.declared.refusal.Refusal.TheVariants.{DiskFault, Mismatch, OutOfMemory, WriteFault}
use Rattle.outer_traits.specs.States.{OutputState}
use Rattle.param_segments.specs.Rows.{SetRow}
use Rattle.store_fills.specs.Sound.{Fillings}
use Rattle.archive_store.specs.Entries.{FilledArchive}
use Rattle.command_plans.proofs.Ledgers.{risen_counted}
use Rattle.command_plans.specs.Plan.{OfMemory, OfOutput, Interrupted, Stopped}
use Rattle.command_runs.specs.declared.report.LoadCounts.{LoadCounts}
use Rattle.command_runs.specs.declared.report.Report.{Report}
use Rattle.command_runs.specs.Command.{AllFilled, Effects, HasDiskOutcome, Progress, Ran, effects_of}
use Rattle.command_runs.specs.Extension.{filled_at}
use Rattle.command_runs.proofs.Commands.{no_text}
use Rattle.live_session.specs.Outcome.{JobsOutcome, counts_of}
use Rattle.make_command.specs.Made.{IsFilledBy, made_archive}
use Rattle.make_command.specs.Make.{made_and_filled, made_report, summary_plan}
use Rattle.make_command.specs.Summary.{summary_text}
use Rattle.make_command.specs.Summing.{IsSummaryReply, counts_behind, summary_report}

-- All was loaded and filled, with these fills.
module _ {D : Type 0} (device : Device D) (disk disk' : D) (output output' : OutputState) (report : Report) (seed : ℕ) (c : JobsOutcome) (fillings : Fillings (List SetRow)) (is_filled : IsFilledBy device c.reached fillings)
    (disk_is : HasDiskOutcome device disk disk' c.unread (AllFilled made_archive c.reached)) (OnPages : Type 0) (no_pages : OnPages → ⊥) where
  abbrev went : Effects D
  went = effects_of disk disk' output output' report

  abbrev filled : FilledArchive
  filled = filled_at made_archive c.reached fillings

  abbrev counts : LoadCounts
  counts = counts_behind (counts_of c.ends) (length c.reached)

  abbrev text : List ℕ
  text = summary_text seed counts.packets counts.duplicates filled

  abbrev printing : Progress
  printing = record (made_and_filled c) { text = text; is_whole = false }

  abbrev Summed : Type 0
  Summed = Ran device (summary_plan device seed c) went

  -- all was printed, or not to its end; or nothing was, since memory was wanting, or a mismatch was found
  pub ran_summary : (refusal : Option Refusal) → IsSummaryReply OnPages seed counts filled refusal output output' → report ≡ summary_report refusal (length c.reached) counts → Summed
  ran_summary None reply is = record {
    way = Stopped (record (made_and_filled c) { text = text; report = made_report c }) None;
    allows = (fillings, is_filled, inr (None, (λ told. reply.0), inr (inr refl)));
    did = record { report = is; printed = reply.1.all; output = record { counted = reply.1.no_fault }; disk = disk_is; log = tt; pending = tt };
  }
  ran_summary (Some WriteFault) reply is = record {
    way = Interrupted printing OfOutput;
    allows = (fillings, is_filled, inr (None, (λ told. reply.0), inr (inl refl)));
    did = record { report = is; printed = reply.1.some; output = record { counted = risen_counted output.faults output'.faults reply.1.later reply.1.failed }; disk = disk_is; log = tt; pending = tt };
  }
  ran_summary (Some OutOfMemory) (inl silent) is = record {
    way = Interrupted (made_and_filled c) OfMemory;
    allows = (fillings, is_filled, inl refl);
    did = record { report = is; printed = rw silent (no_text output.written); output = record { counted = ap (λ (o : OutputState). o.faults) silent }; disk = disk_is; log = tt; pending = tt };
  }
  ran_summary (Some OutOfMemory) (inr part) is = record {
    way = Interrupted printing OfMemory;
    allows = (fillings, is_filled, inr (None, (λ told. part.0), inl refl));
    did = record { report = is; printed = part.1.some; output = record { counted = part.1.no_fault }; disk = disk_is; log = tt; pending = tt };
  }
  ran_summary (Some DiskFault) reply is = absurd (no_pages reply.0)
  ran_summary (Some (Mismatch i n k s r)) reply is = record {
    way = Stopped (made_and_filled c) (Some (Mismatch i n k s r));
    allows = (fillings, is_filled, inr (Some (Mismatch i n k s r), (λ told. reply.0), refl));
    did = record { report = is; printed = rw reply.1 (no_text output.written); output = record { counted = ap (λ (o : OutputState). o.faults) reply.1 }; disk = disk_is; log = tt; pending = tt };
  }
  ran_summary (Some other) reply is = absurd reply.0
