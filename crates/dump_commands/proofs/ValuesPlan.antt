-- How the plan of `values` goes.
use Rattle.std.proofs.Common.{◌≡◌, ◌+◌, ◌∙◌, inl, inr, ℕ, ℤ, false, true, List, [], drop, Option, Some, None, refl, sym, ap, subst}
use Rattle.std.specs.Prelude.{IsSome, Err}
use Rattle.arch_disk.specs.Disk.{Device}
use Rattle.refusals.specs.declared.refusal.Refusal.{Refusal}
use Rattle.refusals.specs.declared.refusal.Which.TheVariants.{DumpOctets}
use Rattle.mdb_items.specs.Database.{Database}
use Rattle.mdb_items.specs.declared.sheet.RawMdb.{RawMdb}
use Rattle.mdb_model.specs.Sheets.{sheets_database}
use Rattle.mdb_sheets.proofs.Sheets.{sheets_determined}
use Rattle.mdb_sheets.specs.Plans.{sheets_plan}
use Rattle.outer_traits.specs.Outside.{Files, WritesSome}
use Rattle.command_plans.specs.Plan.{OfMemory, OfOutput, CommandPlan, Returned, Stopped, Interrupted, EachEnd, IsDetermined, map_done}
use Rattle.command_plans.proofs.Plans.{determined, determined_map_done, gave}
use Rattle.command_words.specs.Job.{ValuesWords}
use Rattle.outer_traits.specs.declared.print_fault.PrintFault.{PrintFault}
use Rattle.outer_traits.specs.declared.print_fault.PrintFault.TheVariants as printing
use Rattle.dump_lines.specs.declared.receiving.Received.{Received}
use Rattle.dump_lines.specs.declared.table.DumpTable.{DumpTable}
use Rattle.dump_lines.specs.DumpTable.{IsGathered}
use Rattle.dump_pieces.specs.Reading.{IsWholeDump}
use Rattle.line_buffer.specs.Output.{Appends}
use Rattle.line_buffer.specs.Printed.{IsPrinted, PrintsText}
use Rattle.line_buffer.proofs.PrintedTexts.{all_went}
use Rattle.command_plans.specs.Inputs.{AnsweredByPlan, WasRead}
use Rattle.command_plans.proofs.Inputs.{reads_determined}
use Rattle.command_plans.proofs.Readings.{first_not_read, then_not_read, then_read}
use Rattle.outer_traits.specs.States.{InputsState}
use Rattle.command_plans.proofs.Ledgers.{risen_counted}
use Rattle.asks.specs.Names.{parameter_number}
use Rattle.retrieval.specs.Parameter.{IsNamedParameter, IsNoParameter}
use Rattle.retrieval.specs.ValuesText.{values_text}
use Rattle.command_runs.specs.Moment.{IsMomentOf}
use Rattle.command_runs.specs.Command.{Effects, RanOver, nothing_done}
use Rattle.command_runs.specs.DumpRest.{ending_of_rest, ending_of}
use Rattle.command_runs.specs.Report.{unopened}
use Rattle.dump_commands.specs.Scan.{dump_plan}
use Rattle.dump_commands.specs.Values.{beside_sheets_plan, dump_behind_plan, after_parameter_check, values_inputs_plan, values_plan, valuing_plan}
use Rattle.refusals.specs.Refusal.{refusal_of_print}
use Rattle.dump_commands.specs.ValuesPrinting.{text_of_cells}
use Rattle.command_runs.proofs.Commands.{no_text}
use Rattle.command_runs.proofs.OverInputs.{HasRead, ran_read, ran_unread}
use Rattle.dump_commands.proofs.ScanPlan.{cut_once, ending_is}
use Rattle.dump_commands.proofs.Valued.{text_of_rows}

-- ---- the inputs

module _ (files : Option Files) (words : ValuesWords) (a b : InputsState) where
  abbrev three : ℕ → CommandPlan ℕ RawMdb
  three = sheets_plan files words.parameters words.calibrations words.containers

  -- a sheet wasn't read
  pub sheets_were_unread : (refusal : Refusal) → AnsweredByPlan {X = RawMdb} 3 three (Err refusal) a b → AnsweredByPlan {X = RawMdb × List ℕ} 4 (values_inputs_plan files words) (Err refusal) a b
  sheets_were_unread refusal read = first_not_read three (λ before. dump_behind_plan files words.dump (before + 3)) refusal 3 4 a b read

  module _ (raw : RawMdb) (read : WasRead three raw 3 a b) (c : InputsState) where
    -- the dump wasn't
    pub dump_was_unread : (refusal : Refusal) → AnsweredByPlan {X = List ℕ} 1 (dump_plan files words.dump) (Err refusal) b c →
        AnsweredByPlan {X = RawMdb × List ℕ} 4 (values_inputs_plan files words) (Err refusal) a c
    dump_was_unread refusal unread = then_not_read three (dump_behind_plan files words.dump) 3 raw a b c read refusal 1
        (first_not_read (dump_plan files words.dump) (λ before. beside_sheets_plan raw) refusal 1 1 b c unread)

    -- or all were read
    pub inputs_were_read : (dump : List ℕ) → WasRead (dump_plan files words.dump) dump 1 b c → WasRead (values_inputs_plan files words) (raw, dump) 4 a c
    inputs_were_read dump next = then_read three (dump_behind_plan files words.dump) 3 raw a b c read (raw, dump) 1 (record {
      allows = λ before. gave (dump_plan files words.dump before) (beside_sheets_plan raw) dump (Returned (raw, dump)) (next.allows before) refl;
      used = next.used;
    })

-- four sources were given, and no call of the inputs failed
pub valued_after : (next : Option ℤ) (name : List ℕ) (given : RawMdb × List ℕ) → EachEnd (HasRead 4) (valuing_plan next name given)
valued_after next name given = λ moment told. ((refl, refl), λ found is. each moment found)
  where
    each : (moment : ℤ) (found : Option Refusal) → EachEnd (HasRead 4) (after_parameter_check given.0 name given.1 moment found)
    each moment None = λ number named cut is. ((refl, refl), ((refl, refl), (refl, refl)))
    each moment (Some refusal) = (refl, refl)

module _ {D : Type 0} (device : Device D) (e : Effects D) (files : Option Files) (next : Option ℤ) (words : ValuesWords) (a b : InputsState) where
  -- an input wasn't read
  pub ran_unvalued : (refusal : Refusal) → AnsweredByPlan {X = RawMdb × List ℕ} 4 (values_inputs_plan files words) (Err refusal) a b → e.report ≡ unopened (Some refusal) → e.disk' ≡ e.disk →
      e.output' ≡ e.output → RanOver device (values_plan files next words) e a b
  ran_unvalued refusal read report same silent = ran_unread device e (values_inputs_plan files words) (valuing_plan next words.name) a b 4 refusal read report same silent

  module _ (raw : RawMdb) (dump : List ℕ) (moment : ℤ) (read : WasRead (values_inputs_plan files words) (raw, dump) 4 a b) (told : IsMomentOf next moment) (same : e.disk' ≡ e.disk) where
    -- there's no parameter
    pub ran_no_parameter : (refusal : Refusal) → IsNoParameter raw words.name refusal → e.report ≡ unopened (Some refusal) → e.output' ≡ e.output → RanOver device (values_plan files next words) e a b
    ran_no_parameter refusal (inl cause) report silent = ran_read device e (values_inputs_plan files words) (valuing_plan next words.name) a b 4 (raw, dump) read (valued_after next words.name (raw, dump)) (record {
      way = Stopped (nothing_done 4) (Some refusal);
      allows = (moment, told, inr (Some refusal, sym cause, refl));
      did = record { report = report; printed = rw silent (no_text e.output.written); output = record { counted = rw silent refl }; disk = same; log = tt; pending = tt };
    })
    ran_no_parameter refusal (inr memory) report silent = ran_read device e (values_inputs_plan files words) (valuing_plan next words.name) a b 4 (raw, dump) read (valued_after next words.name (raw, dump)) (record {
      way = Interrupted (nothing_done 4) OfMemory;
      allows = (moment, told, inl refl);
      did = record {
        report = report ∙ ap (λ (r : Refusal). unopened (Some r)) memory;
        printed = rw silent (no_text e.output.written);
        output = record { counted = rw silent refl };
        disk = same;
        log = tt;
        pending = tt;
      };
    })

    module _ (packets : List (List ℕ)) (received : Received DumpTable) (r : IsWholeDump dump packets received.end) (g : IsGathered packets moment received.rows.table.stored received.rows.counts) (db : Database) (number : ℕ) (p : IsNamedParameter raw words.name db number) where
      abbrev text : List ℕ
      text = values_text (sheets_database raw) number packets (drop received.end.at dump) moment

      text_is : text_of_cells db number received.rows.table.stored received.end.why ≡ text
      text_is = text_of_rows db number dump packets moment received r g ∙ ap (λ (d : Database). values_text d number packets (drop received.end.at dump) moment) p.database

      -- its cells were printed
      pub ran_valued : e.report ≡ unopened (ending_of received.end.why received.end.at) → IsPrinted e.output e.output' (text_of_cells db number received.rows.table.stored received.end.why) [] →
          RanOver device (values_plan files next words) e a b
      ran_valued report printed = ran_read device e (values_inputs_plan files words) (valuing_plan next words.name) a b 4 (raw, dump) read (valued_after next words.name (raw, dump)) (record {
        way = Stopped (record (nothing_done 4) { text = text; is_whole = true }) (ending_of_rest dump (drop received.end.at dump));
        allows = (moment, told, inr (None, sym p.admitted, (number, ap (λ (d : Database). parameter_number d words.name) (sym p.database) ∙ p.named, ((packets, drop received.end.at dump), r.parts, inr (inr refl)))));
        did = record {
          report = report ∙ ap unopened (ending_is dump packets received.end r);
          printed = subst (Appends e.output.written e.output'.written) text_is (all_went e.output e.output' (text_of_cells db number received.rows.table.stored received.end.why) printed).all;
          output = record { counted = printed.no_fault };
          disk = same;
          log = tt;
          pending = tt;
        };
      })

      -- or some of them
      pub ran_some_valued : (fault : PrintFault) → e.report ≡ unopened (Some (refusal_of_print fault)) →
          PrintsText {X = Unit {0}} (Err fault) e.output e.output' (text_of_cells db number received.rows.table.stored received.end.why) [] → RanOver device (values_plan files next words) e a b
      ran_some_valued printing.Write report printed = ran_read device e (values_inputs_plan files words) (valuing_plan next words.name) a b 4 (raw, dump) read (valued_after next words.name (raw, dump)) (record {
        way = Interrupted (record (nothing_done 4) { text = text; is_whole = false }) OfOutput;
        allows = (moment, told, inr (None, sym p.admitted, (number, ap (λ (d : Database). parameter_number d words.name) (sym p.database) ∙ p.named, ((packets, drop received.end.at dump), r.parts, inr (inl refl)))));
        did = record {
          report = report;
          printed = subst (WritesSome e.output.written e.output'.written) text_is printed.some;
          output = record { counted = risen_counted e.output.faults e.output'.faults printed.later printed.failed };
          disk = same;
          log = tt;
          pending = tt;
        };
      })
      ran_some_valued printing.DiskFault report printed = absurd printed
      ran_some_valued (printing.Damaged file at) report printed = absurd printed
      ran_some_valued printing.OutOfMemory report printed = ran_read device e (values_inputs_plan files words) (valuing_plan next words.name) a b 4 (raw, dump) read (valued_after next words.name (raw, dump)) (record {
        way = Interrupted (record (nothing_done 4) { text = text; is_whole = false }) OfMemory;
        allows = (moment, told, inr (None, sym p.admitted, (number, ap (λ (d : Database). parameter_number d words.name) (sym p.database) ∙ p.named, ((packets, drop received.end.at dump), r.parts, inl refl))));
        did = record {
          report = report;
          printed = subst (WritesSome e.output.written e.output'.written) text_is printed.some;
          output = record { counted = printed.no_fault };
          disk = same;
          log = tt;
          pending = tt;
        };
      })

-- ---- which answer is due

some_number : (o : Option ℕ) (x y : ℕ) → o ≡ Some x → o ≡ Some y → x ≡ y
some_number o x y h k = let same : ◌≡◌ {A = Option ℕ} (Some x) (Some y) = sym h ∙ k in cc

values_follow : (next : Option ℤ) (name : List ℕ) (given : RawMdb × List ℕ) → IsDetermined (valuing_plan next name given)
values_follow next name given = λ moment told. (λ a b h k. h ∙ sym k, λ found is. each moment found)
  where
    each : (moment : ℤ) (found : Option Refusal) → IsDetermined (after_parameter_check given.0 name given.1 moment found)
    each moment None = (λ a b h k. some_number (parameter_number (sheets_database given.0) name) a b h k, λ number named. (cut_once given.1, λ cut is. tt))
    each moment (Some refusal) = tt

pub values_determined : (files : Option Files) (next : Option ℤ) (words : ValuesWords) → IsSome files → IsDetermined (values_plan files next words)
values_determined None next words some = absurd (cc (some))
values_determined (Some all) next words some =
    determined (map_done nothing_done (values_inputs_plan (Some all) words 0)) (valuing_plan next words.name)
    (determined_map_done nothing_done (values_inputs_plan (Some all) words 0)
    (determined (sheets_plan (Some all) words.parameters words.calibrations words.containers 0) (dump_behind_plan (Some all) words.dump (0 + 3))
    (sheets_determined all words.parameters words.calibrations words.containers 0)
    (λ raw. determined (dump_plan (Some all) words.dump (0 + 3)) (beside_sheets_plan raw) (reads_determined DumpOctets (λ octets. octets) all words.dump (0 + 3)) (λ dump. tt))))
    (values_follow next words.name)
