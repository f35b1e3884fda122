use Rattle.command_runs.specs.Command.{effects_of}
use Rattle.query_commands.specs.Query.{query_plan}
use Rattle.command_runs.proofs.Commands.{is_due_over}
use Rattle.query_commands.proofs.QueryPlan.{query_determined}
use Rattle.query_commands.proofs.query.query.Goals as goal

pub returns-clause-ran : goal.returns-clause-ran
returns-clause-ran g c = rw (c.of_work.ensures.disk, c.of_work.ensures.report) c.work.ensures

pub returns-clause-due : goal.returns-clause-due
returns-clause-due g c = λ known some.
    let device = g.D.Disk.device in
    let files = (g.I.Inputs.state c.args.inputs.now).files in
    is_due_over device (effects_of c.args.disk c.of_work.result.disk (g.K.Sink.state c.args.sink.now) (g.K.Sink.state c.work.new.sink) c.of_work.result.report)
    (query_plan device c.args.disk files c.args.name.now) (g.I.Inputs.state c.args.inputs.now) (g.I.Inputs.state c.work.new.inputs)
    (query_determined device c.args.disk files c.args.name.now known some) (returns-clause-ran g c)
