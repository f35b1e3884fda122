use Rattle.std.proofs.Common.{refl, Some}
use Rattle.command_words.specs.JobView.{create_words_of}
use Rattle.command_runs.specs.Command.{effects_of}
use Rattle.archive_commands.specs.Create.{head_inputs}
use Rattle.command_runs.specs.Report.{disk_of_work, report_of_work, unopened}
use Rattle.archive_commands.proofs.CreatePlan.{ran_headed, ran_headless}
use Rattle.archive_commands.proofs.create.work.Goals as goal

pub returns-in-Ok : goal.returns-in-Ok
returns-in-Ok g c =
    let state = g.I.Inputs.state in
    let output = g.K.Sink.state c.args.sink.now in
    let output' = g.K.Sink.state c.make.new.sink in
    ran_headed g.D.Disk.device (effects_of c.args.disk (disk_of_work c.make.result) output output' (report_of_work c.make.result)) (g.I.Inputs.state c.args.inputs.now).files (create_words_of c.args.words)
    (state c.args.inputs.now) (state c.read_head.new.inputs) c.in-Ok.head c.in-Ok.ensures.read (c.make.ensures (head_inputs (create_words_of c.args.words)))

pub returns-in-Err : goal.returns-in-Err
returns-in-Err g c =
    let state = g.I.Inputs.state in
    let output = g.K.Sink.state c.args.sink.now in
    ran_headless g.D.Disk.device (effects_of c.args.disk c.args.disk output output (unopened (Some c.in-Err.refusal))) (g.I.Inputs.state c.args.inputs.now).files (create_words_of c.args.words)
    (state c.args.inputs.now) (state c.read_head.new.inputs) c.in-Err.refusal c.in-Err.ensures.read refl refl refl
