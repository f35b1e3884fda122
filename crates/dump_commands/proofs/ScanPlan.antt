-- How the plan of `scan` goes.
use Rattle.std.proofs.Common.{◌≡◌, ◌≤◌, ◌∙◌, inl, inr, ℕ, ℤ, false, true, List, drop, Option, Some, None, refl, ap, subst}
use Rattle.std.specs.Prelude.{IsSome, Err}
use Rattle.arch_disk.specs.Disk.{Device}
use Rattle.refusals.specs.declared.refusal.Refusal.{Refusal}
use Rattle.refusals.specs.declared.refusal.Refusal.TheVariants.{WriteFault}
use Rattle.refusals.specs.declared.refusal.Which.TheVariants.{DumpOctets}
use Rattle.arch_types.specs.Dump.{IsDump}
use Rattle.arch_types.proofs.Dumps.{dump_is_one}
use Rattle.space_packet.specs.declared.dump.Why.{Why}
use Rattle.outer_traits.specs.Outside.{Files, HasRisen, WritesSome}
use Rattle.command_plans.specs.Plan.{OfOutput, Stopped, Interrupted, EachEnd, IsDetermined, map_done}
use Rattle.command_plans.proofs.Plans.{determined, determined_map_done}
use Rattle.dump_pieces.specs.declared.reading.DumpEnd.{DumpEnd}
use Rattle.dump_pieces.specs.Reading.{IsWholeDump}
use Rattle.dump_lines.specs.declared.index.DumpIndex.{DumpIndex}
use Rattle.dump_lines.specs.declared.receiving.Received.{Received}
use Rattle.dump_lines.specs.DumpIndex.{IsIndexed}
use Rattle.line_buffer.specs.Output.{Appends}
use Rattle.dump_lines.specs.Printing.{text_of_index}
use Rattle.dump_lines.specs.Text.{scan_text}
use Rattle.command_plans.specs.Inputs.{AnsweredByPlan, WasRead}
use Rattle.command_plans.proofs.Inputs.{reads_determined}
use Rattle.outer_traits.specs.States.{InputsState}
use Rattle.command_plans.proofs.Ledgers.{risen_counted}
use Rattle.command_runs.specs.Moment.{IsMomentOf}
use Rattle.command_runs.specs.Command.{Effects, RanOver, nothing_done}
use Rattle.command_runs.specs.DumpRest.{ending_of_rest, ending_of}
use Rattle.command_runs.specs.Report.{unopened}
use Rattle.dump_commands.specs.Scan.{dump_plan, receiving_plan, scan_plan}
use Rattle.command_runs.proofs.DumpRest.{end_is, ending_same}
use Rattle.command_runs.proofs.OverInputs.{HasRead, ran_read, ran_unread}
use Rattle.dump_commands.proofs.Scanned.{text_of_received}

-- ---- the ending of a dump's rest

pub ending_is : (dump : List ℕ) (packets : List (List ℕ)) (end : DumpEnd) → IsWholeDump dump packets end → ending_of end.why end.at ≡ ending_of_rest dump (drop end.at dump)
ending_is dump packets end r = ap (λ (reason : Why). ending_of reason end.at) r.why ∙ ending_same dump (drop end.at dump) end.at (end_is dump end.at r.within)

-- ---- over inputs

-- one source was given, and no call of the inputs failed
pub receives_after : (next : Option ℤ) (dump : List ℕ) → EachEnd (HasRead 1) (receiving_plan next dump)
receives_after next dump = λ moment told cut is. ((refl, refl), (refl, refl))

module _ {D : Type 0} (device : Device D) (e : Effects D) (files : Option Files) (next : Option ℤ) (name : List ℕ) (a b : InputsState) where
  -- the dump wasn't read
  pub ran_unscanned : (refusal : Refusal) → AnsweredByPlan {X = List ℕ} 1 (dump_plan files name) (Err refusal) a b → e.report ≡ unopened (Some refusal) → e.disk' ≡ e.disk →
      e.output' ≡ e.output → RanOver device (scan_plan files next name) e a b
  ran_unscanned refusal read report same silent = ran_unread device e (dump_plan files name) (receiving_plan next) a b 1 refusal read report same silent

  module _ (dump : List ℕ) (packets : List (List ℕ)) (moment : ℤ) (received : Received DumpIndex) (read : WasRead (dump_plan files name) dump 1 a b) (told : IsMomentOf next moment)
      (r : IsWholeDump dump packets received.end) (i : IsIndexed packets moment received.rows.lengths.entries received.rows.counts) (same : e.disk' ≡ e.disk) where
    -- its rows were printed
    pub ran_scanned : e.report ≡ unopened (ending_of received.end.why received.end.at) → Appends e.output.written e.output'.written (text_of_index received) → e.output'.faults ≡ e.output.faults →
        RanOver device (scan_plan files next name) e a b
    ran_scanned report text still = ran_read device e (dump_plan files name) (receiving_plan next) a b 1 dump read (receives_after next dump) (record {
      way = Stopped (record (nothing_done 1) { text = scan_text packets (drop received.end.at dump) moment; is_whole = true }) (ending_of_rest dump (drop received.end.at dump));
      allows = (moment, told, ((packets, drop received.end.at dump), r.parts, inr refl));
      did = record {
        report = report ∙ ap unopened (ending_is dump packets received.end r);
        printed = subst (Appends e.output.written e.output'.written) (text_of_received dump packets moment received r i) text;
        output = record { counted = still };
        disk = same;
        log = tt;
        pending = tt;
      };
    })

    -- a write failed in that
    pub ran_scan_failed : e.report ≡ unopened (Some WriteFault) → WritesSome e.output.written e.output'.written (text_of_index received) → e.output.faults ≤ e.output'.faults →
        HasRisen e.output.faults e.output'.faults → RanOver device (scan_plan files next name) e a b
    ran_scan_failed report text later risen = ran_read device e (dump_plan files name) (receiving_plan next) a b 1 dump read (receives_after next dump) (record {
      way = Interrupted (record (nothing_done 1) { text = scan_text packets (drop received.end.at dump) moment; is_whole = false }) OfOutput;
      allows = (moment, told, ((packets, drop received.end.at dump), r.parts, inl refl));
      did = record {
        report = report;
        printed = subst (WritesSome e.output.written e.output'.written) (text_of_received dump packets moment received r i) text;
        output = record { counted = risen_counted e.output.faults e.output'.faults later risen };
        disk = same;
        log = tt;
        pending = tt;
      };
    })

-- ---- which answer is due

pub cut_once : (dump : List ℕ) (a b : List (List ℕ) × List ℕ) → IsDump dump a.0 a.1 → IsDump dump b.0 b.1 → a ≡ b
cut_once dump a b h k =
    let both = dump_is_one dump a.0 b.0 a.1 b.1 h k in
    ap (λ (packets : List (List ℕ)). (packets, a.1)) both.0 ∙ ap (λ (rest : List ℕ). (b.0, rest)) both.1

receives_determined : (next : Option ℤ) (dump : List ℕ) → IsDetermined (receiving_plan next dump)
receives_determined next dump = λ moment told. (cut_once dump, λ cut is. tt)

pub scan_determined : (files : Option Files) (next : Option ℤ) (name : List ℕ) → IsSome files → IsDetermined (scan_plan files next name)
scan_determined None next name some = absurd (cc (some))
scan_determined (Some all) next name some =
    determined (map_done nothing_done (dump_plan (Some all) name 0)) (receiving_plan next)
    (determined_map_done nothing_done (dump_plan (Some all) name 0) (reads_determined DumpOctets (λ octets. octets) all name 0)) (receives_determined next)
