use Rattle.command_words.specs.JobView.{words_of}
use Rattle.std.proofs.Common.{◌∙◌, ap}
use Rattle.command_runs.specs.Command.{effects_of}
use Rattle.command_runs.specs.Report.{unopened}
use Rattle.dump_commands.specs.Values.{values_plan}
use Rattle.command_runs.proofs.Commands.{is_due_over}
use Rattle.dump_commands.proofs.ValuesPlan.{values_determined}
use Rattle.dump_commands.proofs.values.values.Goals as goal

pub returns-clause-ran : goal.returns-clause-ran
returns-clause-ran g c = rw (c.unopened.ensures.disk, c.unopened.ensures.report ∙ ap unopened c.err.ensures.value) (c.work-done.ensures.ran c.args.disk)

pub returns-clause-due : goal.returns-clause-due
returns-clause-due g c = λ some.
    let files = (g.I.Inputs.state c.args.inputs.now).files in
    let next = (g.C.Clock.state c.args.clock.now).next in
    is_due_over g.D.Disk.device (effects_of c.args.disk c.unopened.result.disk (g.K.Sink.state c.args.sink.now) (g.K.Sink.state c.work-done.new.sink) c.unopened.result.report)
    (values_plan files next (words_of c.args.words)) (g.I.Inputs.state c.args.inputs.now) (g.I.Inputs.state c.work-done.new.inputs) (values_determined files next (words_of c.args.words) some) (returns-clause-ran g c)
