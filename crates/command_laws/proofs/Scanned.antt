-- The ends of the plan of `scan`.
use Rattle.std.proofs.Common.{◌≡◌, ◌⊎◌, ◌∙◌, inl, inr, ℤ, ℕ, ◌<◌, List, [], ◌∷◌, length, Option, Some, refl, sym, ap, subst}
use Rattle.std.specs.Prelude.{IsNone, IsSomeAnd}
use Rattle.std.specs.FinMap.{get}
use Rattle.arch_disk.specs.Disk.{Device}
use Rattle.arch_types.specs.Dump.{IsDump}
use Rattle.arch_types.proofs.Dumps.{dump_is_one}
use Rattle.refusals.specs.declared.refusal.BadKind.{BadKind}
use Rattle.refusals.specs.declared.refusal.Refusal.{Refusal}
use Rattle.refusals.specs.declared.refusal.Refusal.TheVariants.{BadPacket, Limit, Missing, OutOfMemory, WriteFault}
use Rattle.refusals.specs.declared.refusal.Which.TheVariants.{DumpOctets}
use Rattle.outer_traits.specs.Outside.{Files}
use Rattle.dump_lines.specs.Text.{last_line, row_lines, scan_text}
use Rattle.command_plans.specs.Plan.{EachEnd, Requires, Way}
use Rattle.command_plans.proofs.Plans.{end_of}
use Rattle.command_words.specs.Job.{Scan}
use Rattle.command_runs.specs.declared.report.Report.{Report}
use Rattle.command_runs.specs.Command.{HasEffects, Progress, nothing_done}
use Rattle.command_runs.specs.DumpRest.{IsBadRest, dump_limit, ending_of_rest}
use Rattle.command_runs.specs.Moment.{IsMomentOf}
use Rattle.command_runs.specs.Report.{unopened}
use Rattle.dump_commands.specs.Scan.{receiving_plan, rows_plan, scan_plan}
use Rattle.command_laws.specs.Calls.{Call, IsRefusedBy, IsRun, Prints, PrintsSome, Succeeded, WasInterrupted, effects}
use Rattle.command_laws.specs.NamedFiles.{HasFile}
use Rattle.command_laws.specs.Scan.{IsScanPrinted, IsScanned}
use Rattle.command_laws.proofs.Dumps.{bad_due, silent_dump, some_dump, some_moment, text_by, whole_due, whole_dump}
use Rattle.command_laws.proofs.Files.{one_content}
use Rattle.command_laws.proofs.Readings.{IsUnread, IsUnreadCause, each_read, long_due, missing_due, no_bad_packet, none_there, read_due, too_long_there}
use Rattle.command_laws.proofs.Runs.{IsEndOf, by_due, by_job, same_refusal}

-- all but what is due
record IsLeft {D : Type 0} (e : Call D) (files : Files) (clock : Option ℤ) (name : List ℕ) : Type 0 where
  disk : e.disk' ≡ e.disk
  report : e.report ≡ unopened e.report.refusal
  printed : (dump rest : List ℕ) (packets : List (List ℕ)) → get files name ≡ Some dump → IsDump dump packets rest → (moment : ℤ) × IsMomentOf clock moment × IsScanPrinted e dump packets rest moment
  missing : e.report.refusal ≡ Some (Missing name) → IsNone (get files name) × Prints e []
  too_long : e.report.refusal ≡ Some (Limit DumpOctets dump_limit) → IsSomeAnd (get files name) (λ dump. dump_limit < length dump) × Prints e []

-- the text of a dump, by its lines and the last
text_is : (packets : List (List ℕ)) (rest : List ℕ) (moment : ℤ) → scan_text packets rest moment ≡ text_by rest (row_lines packets moment) (last_line packets moment)
text_is packets [] moment = refl
text_is packets (octet ∷ rest) moment = refl

module _ {D : Type 0} (device : Device D) (e : Call D) (files : Files) (clock : Option ℤ) (name : List ℕ) where
  refusal_is : (refusal : Option Refusal) → e.report ≡ unopened refusal → e.report.refusal ≡ refusal
  refusal_is refusal report = ap (λ (r : Report). r.refusal) report

  report_is : (refusal : Option Refusal) → e.report ≡ unopened refusal → e.report ≡ unopened e.report.refusal
  report_is refusal report = report ∙ sym (ap unopened (refusal_is refusal report))

  -- memory was wanting, or the dump wasn't read
  left_unread : (refusal : Refusal) → IsUnread e refusal → IsUnreadCause files DumpOctets name refusal → IsLeft e files clock name
  left_unread refusal unread cause = let is = refusal_is (Some refusal) unread.report in record {
    disk = unread.disk;
    report = report_is (Some refusal) unread.report;
    printed = λ dump rest packets there parts. let some = some_moment clock in
        (some.0, some.1, silent_dump e (row_lines packets some.0) (last_line packets some.0) refusal (no_bad_packet files DumpOctets name refusal cause) is unread.silent dump rest);
    missing = λ missing. (none_there files DumpOctets name name (subst (IsUnreadCause files DumpOctets name) (same_refusal e.report.refusal refusal (Missing name) is missing) cause), unread.silent);
    too_long = λ long. (too_long_there files DumpOctets DumpOctets name dump_limit (subst (IsUnreadCause files DumpOctets name) (same_refusal e.report.refusal refusal (Limit DumpOctets dump_limit) is long) cause), unread.silent);
  }

  -- ---- it was read

  module _ (dump : List ℕ) (has : HasFile files DumpOctets name dump) (moment : ℤ) (known : IsMomentOf clock moment) (packets : List (List ℕ)) (rest : List ℕ) (parts : IsDump dump packets rest) where
    -- what is known of its packets and its rest is known of any that it has
    of_any : IsScanPrinted e dump packets rest moment → (other left : List ℕ) (others : List (List ℕ)) → get files name ≡ Some other → IsDump other others left → IsScanPrinted e other others left moment
    of_any mine other left others there parts' =
        let same = one_content (get files name) dump other has.there there in
        let one = dump_is_one dump packets others rest left parts (subst (λ (d : List ℕ). IsDump d others left) (sym same) parts') in
        subst (λ (d : List ℕ). IsScanPrinted e d others left moment) same
        (subst (λ (ps : List (List ℕ)). IsScanPrinted e dump ps left moment) one.0 (subst (λ (r : List ℕ). IsScanPrinted e dump packets r moment) one.1 mine))

    left_printed : e.disk' ≡ e.disk → (refusal : Option Refusal) → e.report ≡ unopened refusal → IsScanPrinted e dump packets rest moment
        → (refusal ≡ Some (Missing name) → ⊥) → (refusal ≡ Some (Limit DumpOctets dump_limit) → ⊥) → IsLeft e files clock name
    left_printed disk refusal report mine not_missing not_long = let is = refusal_is refusal report in record {
      disk = disk;
      report = report_is refusal report;
      printed = λ other left others there parts'. (moment, known, of_any mine other left others there parts');
      missing = λ missing. absurd (not_missing (sym is ∙ missing));
      too_long = λ long. absurd (not_long (sym is ∙ long));
    }

    not_missing : (r : List ℕ) → ending_of_rest dump r ≡ Some (Missing name) → ⊥
    not_missing [] is = cc (is)
    not_missing (octet ∷ r) is = cc (is)

    not_long : (r : List ℕ) → ending_of_rest dump r ≡ Some (Limit DumpOctets dump_limit) → ⊥
    not_long [] is = cc (is)
    not_long (octet ∷ r) is = cc (is)

    cut_left : EachEnd (λ (way : Way Progress ⊥). HasEffects device (effects e) way → IsLeft e files clock name) (rows_plan dump moment (packets, rest))
    cut_left = (
      λ did. left_printed did.disk (Some WriteFault) did.report
          (some_dump e (row_lines packets moment) (last_line packets moment) WriteFault refl (refusal_is (Some WriteFault) did.report) dump rest
          (subst (PrintsSome e) (text_is packets rest moment) did.printed))
          (λ is. cc (is)) (λ is. cc (is)),
      λ did. left_printed did.disk (ending_of_rest dump rest) did.report
          (whole_dump e (row_lines packets moment) (last_line packets moment) dump rest packets parts (refusal_is (ending_of_rest dump rest) did.report)
          (subst (Prints e) (text_is packets rest moment) did.printed))
          (not_missing rest) (not_long rest),
    )

  each_left : EachEnd (λ (way : Way Progress ⊥). HasEffects device (effects e) way → IsLeft e files clock name) (scan_plan (Some files) clock name)
  each_left = each_read device e (IsLeft e files clock name) files DumpOctets (λ octets. octets) name 0 (receiving_plan clock) left_unread
      (λ dump has moment known cut parts. cut_left dump has moment known cut.0 cut.1 parts)

  -- ---- what is due

  module _ (way : Way Progress ⊥) (at : IsEndOf device e way) where
    abbrev Required : Type 0
    Required = Requires (scan_plan (Some files) clock name) way

    -- of a dump that is read
    rows_due : (dump rest : List ℕ) (packets : List (List ℕ)) → HasFile files DumpOctets name dump → IsDump dump packets rest → Required
        → ((moment : ℤ) × Requires (rows_plan dump moment (packets, rest)) way) ⊎ WasInterrupted device e
    rows_due dump rest packets has parts required = elim (read_due e files way at nothing_done DumpOctets (λ octets. octets) name 0 (receiving_plan clock) dump has required) [
      | inl received ↦ inl (received.0, received.2 (packets, rest) parts)
      | inr cut ↦ inr cut
    ]

    complete_due : (dump : List ℕ) (packets : List (List ℕ)) → HasFile files DumpOctets name dump → IsDump dump packets [] → Required → Succeeded e ⊎ WasInterrupted device e
    complete_due dump packets has parts required = elim (rows_due dump [] packets has parts required) [
      | inl rows ↦ whole_due e way at (nothing_done 1) (scan_text packets [] rows.0) dump [] refl rows.1
      | inr cut ↦ inr cut
    ]

    broken_due : (dump rest : List ℕ) (packets : List (List ℕ)) (place : ℕ) (kind : BadKind) → HasFile files DumpOctets name dump → IsDump dump packets rest → IsBadRest dump rest place kind → Required
        → IsRefusedBy device e (BadPacket place kind)
    broken_due dump rest packets place kind has parts bad required = elim (rows_due dump rest packets has parts required) [
      | inl rows ↦ bad_due e way at (nothing_done 1) (scan_text packets rest rows.0) dump rest place kind bad rows.1
      | inr cut ↦ inr cut
    ]

-- ---- the clause

module _ {D : Type 0} (device : Device D) (e : Call D) (files : Files) (clock : Option ℤ) (name : List ℕ) (run : IsRun device e files clock (Scan name)) where
  left : IsLeft e files clock name
  left = by_job device e files clock (Scan name) run (IsLeft e files clock name)
      (λ did. left_unread device e files clock name OutOfMemory (record { report = did.report; silent = did.printed; disk = did.disk }) (inr refl))
      (λ way allows end. end_of (λ (w : Way Progress ⊥). HasEffects device (effects e) w → IsLeft e files clock name) (scan_plan (Some files) clock name) way (each_left device e files clock name) allows end.did)

  due : (P : Type 0) → (WasInterrupted device e → P) → ((way : Way Progress ⊥) → IsEndOf device e way → Requires (scan_plan (Some files) clock name) way → P) → P
  due P cut go = by_due device e files clock (Scan name) run P cut (λ way required at. go way at required)

  pub scanned : IsScanned device e files clock name
  scanned = record {
    disk = left.disk;
    report = left.report;
    printed = left.printed;
    missing = left.missing;
    too_long = left.too_long;
    lacking = λ none. due (IsRefusedBy device e (Missing name)) (λ cut. inr cut)
        (λ way at required. missing_due e files way at nothing_done DumpOctets (λ octets. octets) name 0 (receiving_plan clock) none required);
    overlong = λ long. due (IsRefusedBy device e (Limit DumpOctets dump_limit)) (λ cut. inr cut)
        (λ way at required. long_due e files way at nothing_done DumpOctets (λ octets. octets) name 0 (receiving_plan clock) long required);
    broken = λ dump rest packets place kind has parts bad. due (IsRefusedBy device e (BadPacket place kind)) (λ cut. inr cut)
        (λ way at required. broken_due device e files clock name way at dump rest packets place kind has parts bad required);
    complete = λ dump packets has parts. due (Succeeded e ⊎ WasInterrupted device e) (λ cut. inr cut)
        (λ way at required. complete_due device e files clock name way at dump packets has parts required);
  }
