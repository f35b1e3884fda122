use Rattle.std.proofs.Common.{◌∙◌, ap}
use Rattle.command_runs.specs.Command.{effects_of}
use Rattle.command_runs.specs.Report.{read_only}
use Rattle.command_runs.proofs.ReadOnly.{left_opened}
use Rattle.archive_commands.proofs.Comparing.{ran_compared}
use Rattle.archive_commands.proofs.verify.VerifyingArchiveWork.work.Goals as goal

pub returns : goal.returns
returns g c = λ disk healed on heals kept.
    let device = g.D.Disk.device in
    let s = c.args.store in
    let refusal = c.compare-refusal.result in
    let went = effects_of disk healed.disk (g.K.Sink.state c.args.sink.now) (g.K.Sink.state c.compare-refusal.new.sink) c.read_only.result in
    ran_compared device went s refusal (left_opened device disk s c.compare-refusal.new.store healed on refusal c.compare-refusal.ensures.read heals kept) c.compare-refusal.ensures.reply
    (c.read_only.ensures ∙ ap (read_only refusal) c.front-front.ensures)
