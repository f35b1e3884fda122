use Rattle.command_runs.specs.Command.{effects_of}
use Rattle.archive_commands.specs.Verify.{verify_plan}
use Rattle.command_runs.proofs.Commands.{is_due}
use Rattle.archive_commands.proofs.Comparing.{verify_determined}
use Rattle.archive_commands.proofs.verify.verify.Goals as goal

pub returns-clause-ran : goal.returns-clause-ran
returns-clause-ran g c = rw (c.of_work.ensures.disk, c.of_work.ensures.report) (c.with_archive.ensures 0)

pub returns-clause-due : goal.returns-clause-due
returns-clause-due g c = λ known.
    let device = g.D.Disk.device in
    is_due device (effects_of c.args.disk c.of_work.result.disk (g.K.Sink.state c.args.sink.now) (g.K.Sink.state c.with_archive.new.sink) c.of_work.result.report) (verify_plan device c.args.disk)
    (verify_determined device c.args.disk known) (returns-clause-ran g c)
