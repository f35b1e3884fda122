use Rattle.std.proofs.Common.{List, ℕ, Some, refl}
use Rattle.command_runs.specs.Command.{effects_of}
use Rattle.command_runs.specs.Report.{disk_of_work, report_of_work, unopened}
use Rattle.query_commands.specs.Sql.{archive_text_plan}
use Rattle.script_answers.specs.Scripts.{script_octets_plan}
use Rattle.command_runs.proofs.OverInputs.{ran_read, ran_unread}
use Rattle.query_commands.proofs.SqlPlan.{archive_reads}
use Rattle.query_commands.proofs.sql.work.Goals as goal

pub returns-in-Ok : goal.returns-in-Ok
returns-in-Ok g c =
    let device = g.D.Disk.device in
    let files = (g.I.Inputs.state c.args.inputs.now).files in
    let text : List ℕ = c.in-Ok.octets.items in
    let went = effects_of c.args.disk (disk_of_work c.with_archive.result) (g.K.Sink.state c.args.sink.now) (g.K.Sink.state c.with_archive.new.sink) (report_of_work c.with_archive.result) in
    ran_read device went (script_octets_plan files c.args.name.now) (archive_text_plan device c.args.disk) (g.I.Inputs.state c.args.inputs.now) (g.I.Inputs.state c.read_limited.new.inputs) 1 text
    c.in-Ok.ensures.read (archive_reads device c.args.disk text) (rw c.as_slice-text.ensures.value at (c.with_archive.ensures 1))

pub returns-in-Err : goal.returns-in-Err
returns-in-Err g c =
    let device = g.D.Disk.device in
    let files = (g.I.Inputs.state c.args.inputs.now).files in
    let output = g.K.Sink.state c.args.sink.now in
    ran_unread device (effects_of c.args.disk c.args.disk output output (unopened (Some c.in-Err.refusal))) (script_octets_plan files c.args.name.now) (archive_text_plan device c.args.disk)
    (g.I.Inputs.state c.args.inputs.now) (g.I.Inputs.state c.read_limited.new.inputs) 1 c.in-Err.refusal c.in-Err.ensures.unread refl refl refl
