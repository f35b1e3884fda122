use Rattle.std.proofs.Common.{SFits, w64, to_z, of_z, rules}
use Rattle.std.proofs.lemmas.Int.{to_z-of_z}
use Rattle.command_runs.specs.Command.{effects_of}
use Rattle.command_runs.specs.Moment.{IsMomentOf}
use Rattle.command_runs.proofs.Commands.{is_due}
use Rattle.command_runs.proofs.Moments.{moment_of}
use Rattle.make_command.specs.Make.{make_plan}
use Rattle.make_command.proofs.MakePlan.{make_determined}
use Rattle.make_command.proofs.make.make.Goals as goal

pub returns-clause-ran : goal.returns-clause-ran
returns-clause-ran g c =
    let next = (g.C.Clock.state c.args.clock.now).next in
    let moment = c.now-moment.result in
    let clock = c.now-moment.ensures in
    let fits : SFits w64 moment = search rules in
    let told : IsMomentOf next (to_z w64 (of_z w64 moment)) = rw (to_z-of_z w64 moment fits) (moment_of next moment clock.known clock.range) in
    rw (c.of_work.ensures.disk, c.of_work.ensures.report) (c.make_archive.ensures next told)

pub returns-clause-due : goal.returns-clause-due
returns-clause-due g c = λ known.
    let device = g.D.Disk.device in
    let next = (g.C.Clock.state c.args.clock.now).next in
    is_due device (effects_of c.args.disk c.of_work.result.disk (g.K.Sink.state c.args.sink.now) (g.K.Sink.state c.make_archive.new.sink) c.of_work.result.report)
    (make_plan device c.args.disk next c.args.seed) (make_determined device c.args.disk next c.args.seed known) (returns-clause-ran g c)
