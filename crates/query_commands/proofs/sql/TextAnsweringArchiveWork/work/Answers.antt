use Rattle.std.proofs.Common.{◌≡◌, ◌∙◌, length, ap}
use Rattle.command_runs.specs.Report.{read_only}
use Rattle.query_commands.proofs.SqlPlan.{ran_reply}
use Rattle.query_commands.proofs.sql.TextAnsweringArchiveWork.work.Goals as goal

pub returns : goal.returns
returns g c = λ disk healed on heals kept.
    let s = c.args.store in
    let refusal = c.answer_text-refusal.result in
    let is : c.read_only.result ≡ read_only refusal (length s.history) = c.read_only.ensures ∙ ap (read_only refusal) c.front-front.ensures in
    ran_reply g.D.Disk.device disk s c.answer_text-refusal.new.store healed on heals kept (g.K.Sink.state c.args.sink.now) (g.K.Sink.state c.answer_text-refusal.new.sink) c.read_only.result
    c.args.self.text.now refusal c.answer_text-refusal.ensures is
