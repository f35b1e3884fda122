use Rattle.std.proofs.Common.{◌≡◌, ap, refl, subst, Option, Some}
use Rattle.std.specs.Result.{result_err}
use Rattle.std.proofs.lemmas.Result.{err_from_is_err_and}
use Rattle.refusals.specs.Refusal.{refusal_of_print}
use Rattle.refusals.specs.declared.refusal.Refusal.{Refusal}
use Rattle.refusals.specs.declared.refusal.Which.TheVariants.{DumpOctets}
use Rattle.command_words.specs.JobView.{words_of}
use Rattle.outer_traits.specs.Outside.{Files}
use Rattle.command_plans.specs.Inputs.{WasRead}
use Rattle.command_runs.specs.Command.{effects_of}
use Rattle.command_plans.specs.Reading.{IsInputUnread}
use Rattle.command_runs.specs.Report.{unopened}
use Rattle.dump_commands.specs.Scan.{dump_plan}
use Rattle.command_plans.proofs.Ledgers.{clock_unused}
use Rattle.dump_commands.proofs.CellCounts.{rows_few}
use Rattle.dump_commands.proofs.ValuesPlan.{dump_was_unread, inputs_were_read, ran_no_parameter, ran_some_valued, ran_unvalued, ran_valued, sheets_were_unread}
use Rattle.retrieval.proofs.Parameters.{number_within}
use Rattle.dump_commands.proofs.values.work.Goals as goal

pub print-requires-clause-empty : goal.print-requires-clause-empty
print-requires-clause-empty g c = c.in_ok-scan_input.ensures.empty

pub print-requires-clause-shown : goal.print-requires-clause-shown
print-requires-clause-shown g c = c.in_ok-scan_input.ensures.read.kept.shown

pub print-requires-clause-few : goal.print-requires-clause-few
print-requires-clause-few g c =
    let r = c.in_ok-scan_input.ensures.read in rows_few r.dump r.packets r.moment c.in_ok-scan_input.scan_input.received r.received r.kept r.short

pub print-requires-clause-number : goal.print-requires-clause-number
print-requires-clause-number g c =
    number_within c.in_ok-sheets.sheets c.args.words.name.now c.in_ok-known.known.mdb c.in_ok-known.known.number c.in_ok-known.ensures.known

pub returns-in_err-sheets-clause-ran : goal.returns-in_err-sheets-clause-ran
returns-in_err-sheets-clause-ran g c = λ disk.
    let files = (g.I.Inputs.state c.args.inputs.now).files in
    let next = (g.C.Clock.state c.args.clock.now).next in
    let words = words_of c.args.words in
    let a = g.I.Inputs.state c.args.inputs.now in
    let b = g.I.Inputs.state c.read_mdb.new.inputs in
    let output = g.K.Sink.state c.args.sink.now in
    let refusal = c.in_err-sheets.field-0.0 in
    let p = err_from_is_err_and c.from_residual.result c.from_residual.ensures.1 in
    rw (p.1, p.2)
    (ran_unvalued g.D.Disk.device (effects_of disk disk output output (unopened (Some refusal))) files next words a b refusal (sheets_were_unread files words a b refusal c.in_err-sheets.ensures.read) refl refl refl)

pub returns-in_err-scan_input-clause-ran : goal.returns-in_err-scan_input-clause-ran
returns-in_err-scan_input-clause-ran g c = λ disk.
    let files = (g.I.Inputs.state c.args.inputs.now).files in
    let next = (g.C.Clock.state c.args.clock.now).next in
    let words = words_of c.args.words in
    let a = g.I.Inputs.state c.args.inputs.now in
    let b = g.I.Inputs.state c.read_mdb.new.inputs in
    let output = g.K.Sink.state c.args.sink.now in
    let d = g.I.Inputs.state c.read_scan_input.new.inputs in
    let raw = c.in_ok-sheets.sheets in
    let refusal = c.in_err-scan_input.field-0.0 in
    let p = err_from_is_err_and c.from_residual-in_err-scan_input.result c.from_residual-in_err-scan_input.ensures.1 in
    rw (p.1, p.2)
    (ran_unvalued g.D.Disk.device (effects_of disk disk output output (unopened (Some refusal))) files next words a d refusal
    (dump_was_unread files words a b raw c.in_ok-sheets.ensures.read d refusal (subst (λ (f : Option Files). IsInputUnread f DumpOctets words.dump b d refusal) c.read_mdb.ensures.same c.in_err-scan_input.ensures.unread))
    refl refl refl)

pub returns-in_err-known-clause-ran : goal.returns-in_err-known-clause-ran
returns-in_err-known-clause-ran g c = λ disk.
    let files = (g.I.Inputs.state c.args.inputs.now).files in
    let next = (g.C.Clock.state c.args.clock.now).next in
    let words = words_of c.args.words in
    let a = g.I.Inputs.state c.args.inputs.now in
    let b = g.I.Inputs.state c.read_mdb.new.inputs in
    let output = g.K.Sink.state c.args.sink.now in
    let d = g.I.Inputs.state c.read_scan_input.new.inputs in
    let raw = c.in_ok-sheets.sheets in
    let r = c.in_ok-scan_input.ensures.read in
    let read = subst (λ (f : Option Files). WasRead (dump_plan f words.dump) r.dump 1 b d) c.read_mdb.ensures.same r.read in
    let given = inputs_were_read files words a b raw c.in_ok-sheets.ensures.read d r.dump read in
    let refusal = c.in_err-known.field-0.0 in
    let p = err_from_is_err_and c.from_residual-in_err-known.result c.from_residual-in_err-known.ensures.1 in
    rw (p.1, p.2)
    (ran_no_parameter g.D.Disk.device (effects_of disk disk output output (unopened (Some refusal))) files next words a d raw r.dump r.moment given r.known refl refusal c.in_err-known.ensures.refused refl refl)

pub returns-in-Ok-clause-ran : goal.returns-in-Ok-clause-ran
returns-in-Ok-clause-ran g c = λ disk.
    let files = (g.I.Inputs.state c.args.inputs.now).files in
    let next = (g.C.Clock.state c.args.clock.now).next in
    let words = words_of c.args.words in
    let a = g.I.Inputs.state c.args.inputs.now in
    let b = g.I.Inputs.state c.read_mdb.new.inputs in
    let output = g.K.Sink.state c.args.sink.now in
    let d = g.I.Inputs.state c.read_scan_input.new.inputs in
    let raw = c.in_ok-sheets.sheets in
    let r = c.in_ok-scan_input.ensures.read in
    let read = subst (λ (f : Option Files). WasRead (dump_plan f words.dump) r.dump 1 b d) c.read_mdb.ensures.same r.read in
    let given = inputs_were_read files words a b raw c.in_ok-sheets.ensures.read d r.dump read in
    let output' = g.K.Sink.state c.print.new.sink in
    let received = c.in_ok-scan_input.scan_input.received in
    let known = c.in_ok-known.known in
    ran_valued g.D.Disk.device (effects_of disk disk output output' (unopened (result_err c.ended.result))) files next words a d raw r.dump r.moment given r.known refl r.packets received r.received r.kept known.mdb known.number
    c.in_ok-known.ensures.known (ap unopened c.ended.ensures) c.in-Ok.ensures

pub returns-clause-ran : goal.returns-clause-ran
returns-clause-ran g c = λ disk.
    let files = (g.I.Inputs.state c.args.inputs.now).files in
    let next = (g.C.Clock.state c.args.clock.now).next in
    let words = words_of c.args.words in
    let a = g.I.Inputs.state c.args.inputs.now in
    let b = g.I.Inputs.state c.read_mdb.new.inputs in
    let output = g.K.Sink.state c.args.sink.now in
    let d = g.I.Inputs.state c.read_scan_input.new.inputs in
    let raw = c.in_ok-sheets.sheets in
    let r = c.in_ok-scan_input.ensures.read in
    let read = subst (λ (f : Option Files). WasRead (dump_plan f words.dump) r.dump 1 b d) c.read_mdb.ensures.same r.read in
    let given = inputs_were_read files words a b raw c.in_ok-sheets.ensures.read d r.dump read in
    let output' = g.K.Sink.state c.print.new.sink in
    let received = c.in_ok-scan_input.scan_input.received in
    let known = c.in_ok-known.known in
    let from : c.from.result ≡ refusal_of_print c.in-Err.fault = c.from.ensures in
    ran_some_valued g.D.Disk.device (effects_of disk disk output output' (unopened (Some c.from.result))) files next words a d raw r.dump r.moment given r.known refl r.packets received r.received r.kept known.mdb known.number
    c.in_ok-known.ensures.known c.in-Err.fault (ap (λ (x : Refusal). unopened (Some x)) from) c.in-Err.ensures

pub returns-in_err-sheets-clause-clock : goal.returns-in_err-sheets-clause-clock
returns-in_err-sheets-clause-clock g c = clock_unused (g.C.Clock.state c.args.clock.now)
