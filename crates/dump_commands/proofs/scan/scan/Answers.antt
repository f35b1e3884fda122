use Rattle.std.proofs.Common.{◌∙◌, ap}
use Rattle.command_runs.specs.Command.{effects_of}
use Rattle.command_runs.specs.Report.{unopened}
use Rattle.dump_commands.specs.Scan.{scan_plan}
use Rattle.command_runs.proofs.Commands.{is_due_over}
use Rattle.dump_commands.proofs.ScanPlan.{scan_determined}
use Rattle.dump_commands.proofs.scan.scan.Goals as goal

pub returns-clause-ran : goal.returns-clause-ran
returns-clause-ran g c = rw (c.unopened.ensures.disk, c.unopened.ensures.report ∙ ap unopened c.err.ensures.value) (c.work-done.ensures.ran c.args.disk)

pub returns-clause-due : goal.returns-clause-due
returns-clause-due g c = λ some.
    let files = (g.I.Inputs.state c.args.inputs.now).files in
    let next = (g.C.Clock.state c.args.clock.now).next in
    is_due_over g.D.Disk.device (effects_of c.args.disk c.unopened.result.disk (g.K.Sink.state c.args.sink.now) (g.K.Sink.state c.work-done.new.sink) c.unopened.result.report)
    (scan_plan files next c.args.name.now) (g.I.Inputs.state c.args.inputs.now) (g.I.Inputs.state c.work-done.new.inputs) (scan_determined files next c.args.name.now some) (returns-clause-ran g c)
