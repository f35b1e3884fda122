use Rattle.std.proofs.Common.{◌≡◌, ◌∙◌, length, ap}
use Rattle.command_runs.specs.Report.{read_only}
use Rattle.query_commands.proofs.QueryPlan.{ran_replied}
use Rattle.query_commands.proofs.query.SheetAnsweringArchiveWork.work.Goals as goal

pub returns : goal.returns
returns g c = λ disk healed on heals kept.
    let s = c.args.store in
    let refusal = c.answer_sheet-refusal.result in
    let is : c.read_only.result ≡ read_only refusal (length s.history) = c.read_only.ensures ∙ ap (read_only refusal) c.front-front.ensures in
    ran_replied g.D.Disk.device disk s c.answer_sheet-refusal.new.store healed on heals kept (g.K.Sink.state c.args.sink.now) (g.K.Sink.state c.answer_sheet-refusal.new.sink) c.read_only.result
    c.args.self.sheet refusal c.answer_sheet-refusal.ensures is
