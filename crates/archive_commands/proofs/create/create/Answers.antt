use Rattle.command_words.specs.JobView.{create_words_of}
use Rattle.command_runs.specs.Command.{effects_of}
use Rattle.archive_commands.specs.Create.{create_plan}
use Rattle.command_runs.proofs.Commands.{is_due_over}
use Rattle.archive_commands.proofs.CreatePlan.{create_determined}
use Rattle.archive_commands.proofs.create.create.Goals as goal

pub returns-clause-ran : goal.returns-clause-ran
returns-clause-ran g c = rw (c.of_work.ensures.disk, c.of_work.ensures.report) c.work.ensures

pub returns-clause-due : goal.returns-clause-due
returns-clause-due g c = λ known some.
    let device = g.D.Disk.device in
    let files = (g.I.Inputs.state c.args.inputs.now).files in
    let words = create_words_of c.args.words in
    is_due_over device (effects_of c.args.disk c.of_work.result.disk (g.K.Sink.state c.args.sink.now) (g.K.Sink.state c.work.new.sink) c.of_work.result.report)
    (create_plan device c.args.disk files words) (g.I.Inputs.state c.args.inputs.now) (g.I.Inputs.state c.work.new.inputs)
    (create_determined device c.args.disk files words known some) (returns-clause-ran g c)
