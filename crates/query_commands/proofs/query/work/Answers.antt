use Rattle.std.proofs.Common.{refl}
use Rattle.command_runs.specs.Command.{effects_of}
use Rattle.query_commands.specs.Query.{archive_asks_plan}
use Rattle.command_runs.specs.Report.{disk_of_work, report_of_work}
use Rattle.ask_answers.proofs.AskSheets.{ran_asked, ran_unread_sheet}
use Rattle.command_runs.proofs.OverInputs.{over_any_inputs}
use Rattle.query_commands.proofs.QueryPlan.{asks_read}
use Rattle.query_commands.proofs.query.work.Goals as goal

pub returns-in-Ok : goal.returns-in-Ok
returns-in-Ok g c =
    let device = g.D.Disk.device in
    let read = g.I.Inputs.state c.read_asks.new.inputs in
    let went = effects_of c.args.disk (disk_of_work c.with_archive.result) (g.K.Sink.state c.args.sink.now) (g.K.Sink.state c.with_archive.new.sink) (report_of_work c.with_archive.result) in
    ran_asked device went _ (archive_asks_plan device c.args.disk) _ read read _ _ refl c.in-Ok.sheet c.in-Ok.ensures.read
    (over_any_inputs device went (archive_asks_plan device c.args.disk c.in-Ok.sheet) (asks_read device c.args.disk c.in-Ok.sheet) (c.with_archive.ensures 0) read)

pub returns-in-Err : goal.returns-in-Err
returns-in-Err g c = ran_unread_sheet g.D.Disk.device _ _ (archive_asks_plan g.D.Disk.device c.args.disk) _ _ _ _ refl c.in-Err.refusal c.in-Err.ensures.read refl refl refl
