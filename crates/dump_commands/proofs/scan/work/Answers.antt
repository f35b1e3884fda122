use Rattle.std.proofs.Common.{ap, refl, Some}
use Rattle.std.specs.Result.{result_err}
use Rattle.std.proofs.lemmas.Result.{err_from_is_err_and}
use Rattle.refusals.specs.declared.refusal.Refusal.TheVariants.{WriteFault}
use Rattle.command_runs.specs.Command.{effects_of}
use Rattle.command_runs.specs.Report.{unopened}
use Rattle.dump_commands.proofs.ScanPlan.{ran_scan_failed, ran_scanned, ran_unscanned}
use Rattle.dump_commands.proofs.scan.work.Goals as goal

pub returns-in_err-scan_input-clause-ran : goal.returns-in_err-scan_input-clause-ran
returns-in_err-scan_input-clause-ran g c = λ disk.
    let files = (g.I.Inputs.state c.args.inputs.now).files in
    let next = (g.C.Clock.state c.args.clock.now).next in
    let a = g.I.Inputs.state c.args.inputs.now in
    let b = g.I.Inputs.state c.read_scan_input.new.inputs in
    let output = g.K.Sink.state c.args.sink.now in
    let refusal = c.in_err-scan_input.field-0.0 in
    let p = err_from_is_err_and c.from_residual.result c.from_residual.ensures.1 in
    rw (p.1, p.2)
    (ran_unscanned g.D.Disk.device (effects_of disk disk output output (unopened (Some refusal))) files next c.args.name.now a b refusal c.in_err-scan_input.ensures.unread refl refl refl)

pub returns-in-Ok-clause-ran : goal.returns-in-Ok-clause-ran
returns-in-Ok-clause-ran g c = λ disk.
    let files = (g.I.Inputs.state c.args.inputs.now).files in
    let next = (g.C.Clock.state c.args.clock.now).next in
    let a = g.I.Inputs.state c.args.inputs.now in
    let b = g.I.Inputs.state c.read_scan_input.new.inputs in
    let output = g.K.Sink.state c.args.sink.now in
    let output' = g.K.Sink.state c.print.new.sink in
    let r = c.in_ok-scan_input.ensures.read in
    ran_scanned g.D.Disk.device (effects_of disk disk output output' (unopened (result_err c.ended.result))) files next c.args.name.now a b r.dump r.packets r.moment c.in_ok-scan_input.scan_input.received
    r.read r.known r.received r.kept refl (ap unopened c.ended.ensures) c.in-Ok.ensures.all c.in-Ok.ensures.no_fault

pub returns-clause-ran : goal.returns-clause-ran
returns-clause-ran g c = λ disk.
    let files = (g.I.Inputs.state c.args.inputs.now).files in
    let next = (g.C.Clock.state c.args.clock.now).next in
    let a = g.I.Inputs.state c.args.inputs.now in
    let b = g.I.Inputs.state c.read_scan_input.new.inputs in
    let output = g.K.Sink.state c.args.sink.now in
    let output' = g.K.Sink.state c.print.new.sink in
    let r = c.in_ok-scan_input.ensures.read in
    ran_scan_failed g.D.Disk.device (effects_of disk disk output output' (unopened (Some WriteFault))) files next c.args.name.now a b r.dump r.packets r.moment c.in_ok-scan_input.scan_input.received
    r.read r.known r.received r.kept refl refl c.in-Err.ensures.some c.in-Err.ensures.later c.in-Err.ensures.failed
