-- How the plan of `query` goes.
use Rattle.std.proofs.Common.{◌≡◌, inl, inr, ℕ, List, length, Option, Some, None, refl}
use Rattle.std.specs.Prelude.{IsSome, IsTrue, Result, Ok, Err}
use Rattle.arch_disk.specs.Disk.{Device}
use Rattle.asks.specs.declared.ask.Ask.{Ask}
use Rattle.refusals.specs.declared.refusal.Refusal.{Refusal}
use Rattle.outer_traits.specs.Outside.{Files}
use Rattle.outer_traits.specs.States.{OutputState}
use Rattle.archive_store.specs.Entries.{FilledArchive}
use Rattle.archive_store.specs.Keeping.{IsKept}
use Rattle.archive_store.specs.StoreView.{StoreView, filled_of}
use Rattle.command_plans.specs.Plan.{EachEnd, IsDetermined}
use Rattle.command_plans.proofs.Plans.{determined, each_end}
use Rattle.ask_answers.specs.Asks.{after_asks_check, archive_asks_text, asks_check_plan}
use Rattle.command_runs.specs.Command.{Effects, Ran, archive_opened, effects_of, opening_plan}
use Rattle.command_runs.specs.Healing.{TriesToHeal}
use Rattle.command_runs.specs.Opened.{IsOpenedOn}
use Rattle.command_runs.specs.declared.report.Report.{Report}
use Rattle.query_commands.specs.Query.{answering_plan, answers_plan, archive_asks_plan, query_plan}
use Rattle.query_commands.specs.QueryReplying.{IsSheetReply}
use Rattle.command_runs.specs.Report.{read_only}
use Rattle.ask_answers.proofs.AskSheets.{asked_determined, check_determined, checked, ran_refused}
use Rattle.command_runs.proofs.Commands.{no_text, ran_then}
use Rattle.command_runs.proofs.Openings.{opening_reads, opens_determined}
use Rattle.command_runs.proofs.OverInputs.{HasRead}
use Rattle.command_runs.proofs.ReadOnly.{left_opened, not_read}
use Rattle.command_runs.proofs.Reading.{ran_rows_text, rows_printing_determined, rows_printing_reads, tells_so}

-- ---- an archive was opened

module _ {D : Type 0} (device : Device D) (disk : D) (s new healed : StoreView D) (on : IsOpenedOn device disk s) (heals : TriesToHeal device new healed) (kept : IsKept device healed) (output output' : OutputState) (report : Report) where
  abbrev Tells : Type 0
  Tells = IsTrue device.is_transparent

  abbrev filled : FilledArchive
  filled = filled_of s

  abbrev went : Effects D
  went = effects_of disk healed.disk output output' report

  -- the sheet was refused, or its asks were answered
  pub ran_replied : (sheet : Result (List Ask) Refusal) (refusal : Option Refusal) → IsSheetReply device s new sheet refusal output output' →
      report ≡ read_only refusal (length s.history) → Ran device (answering_plan Tells sheet filled) went
  ran_replied sheet None (inl refused) is = absurd refused.0
  ran_replied sheet (Some refusal) (inl refused) is =
      ran_refused (archive_opened 0 filled) filled.plain device went (answers_plan Tells filled) sheet refusal refused.0
      (record {
        report = is;
        printed = rw refused.1 (no_text output.written);
        output = record { counted = rw refused.1 refl };
        disk = left_opened device disk s new healed on None (not_read device s new refused.2) heals kept;
        log = tt;
        pending = tt;
      })
  ran_replied sheet refusal (inr reply) is =
      ran_then device went (asks_check_plan (archive_opened 0 filled) filled.plain sheet) (answers_plan Tells filled) reply.0
      (checked (archive_opened 0 filled) filled.plain sheet reply.0 reply.1)
      (ran_rows_text device went (archive_opened 0 filled) Tells s (tells_so device s) refl refl (refl, refl) (archive_asks_text filled 1 reply.0) refusal reply.2
      (left_opened device disk s new healed on refusal reply.3 heals kept) is)

-- ---- over inputs

-- nothing is asked of them behind the sheet
check_reads : (opened : FilledArchive) (sheet : Result (List Ask) Refusal) → EachEnd (HasRead 0) (asks_check_plan (archive_opened 0 opened) opened.plain sheet)
check_reads opened (Err refusal) = (refl, refl)
check_reads opened (Ok asks) = ((refl, refl), λ found h. each found)
  where
    each : (found : Option Refusal) → EachEnd (HasRead 0) (after_asks_check (archive_opened 0 opened) asks found)
    each None = tt
    each (Some refusal) = (refl, refl)

pub asks_read : {D : Type 0} (device : Device D) (disk : D) (sheet : Result (List Ask) Refusal) → EachEnd (HasRead 0) (archive_asks_plan device disk sheet)
asks_read device disk sheet = (
  (refl, refl),
  each_end (HasRead 0) (opening_plan 0 device disk) (answering_plan (IsTrue device.is_transparent) sheet) (opening_reads 0 device disk)
      (λ filled. each_end (HasRead 0) (asks_check_plan (archive_opened 0 filled) filled.plain sheet) (answers_plan (IsTrue device.is_transparent) filled) (check_reads filled sheet)
      (λ asks. rows_printing_reads 0 (IsTrue device.is_transparent) (archive_opened 0 filled) (archive_asks_text filled 1 asks) (refl, refl))),
)

-- ---- which answer is due

pub query_determined : {D : Type 0} (device : Device D) (disk : D) (files : Option Files) (name : List ℕ) → IsTrue device.is_transparent → IsSome files →
    IsDetermined (query_plan device disk files name)
query_determined device disk None name known some = absurd (cc (some))
query_determined device disk (Some all) name known some =
    asked_determined all (Some name) (archive_asks_plan device disk)
    (λ sheet. determined (opening_plan 0 device disk) (answering_plan (IsTrue device.is_transparent) sheet) (opens_determined 0 device disk known)
    (λ filled. determined (asks_check_plan (archive_opened 0 filled) filled.plain sheet) (answers_plan (IsTrue device.is_transparent) filled) (check_determined (archive_opened 0 filled) filled.plain sheet)
    (λ asks. rows_printing_determined (IsTrue device.is_transparent) (archive_opened 0 filled) (archive_asks_text filled 1 asks) known)))
