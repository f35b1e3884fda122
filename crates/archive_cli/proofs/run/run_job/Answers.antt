use Rattle.command_runs.specs.Command.{effects_of}
use Rattle.command_plans.proofs.Ledgers.{clock_unused}
use Rattle.archive_commands.specs.Recover.{recover_plan}
use Rattle.archive_commands.specs.Verify.{verify_plan}
use Rattle.archive_commands.proofs.Recovered.{recover_reads}
use Rattle.archive_commands.proofs.Comparing.{verify_reads}
use Rattle.make_command.specs.Make.{make_plan}
use Rattle.make_command.proofs.MakePlan.{make_reads}
use Rattle.command_runs.proofs.OverInputs.{over_any_inputs}
use Rattle.archive_cli.proofs.RunPlan.{job_due, job_ran}
use Rattle.archive_cli.proofs.run.run_job.Goals as goal

pub returns-in-Scan-clause-ran : goal.returns-in-Scan-clause-ran
returns-in-Scan-clause-ran g c =
    let state = g.I.Inputs.state in
    let went = effects_of c.args.disk c.scan.result.disk (g.K.Sink.state c.args.sink.now)
    (g.K.Sink.state c.scan.new.sink) c.scan.result.report in
    job_ran g.D.Disk.device went (g.I.Inputs.state c.args.inputs.now).files (g.C.Clock.state c.args.clock.now).next (state c.args.inputs.now) (state c.scan.new.inputs) c.args.job _ c.in-Scan.is c.scan.ensures.ran

pub returns-in-Scan-clause-due : goal.returns-in-Scan-clause-due
returns-in-Scan-clause-due g c = λ transparent known.
    job_due g.D.Disk.device c.args.disk (g.I.Inputs.state c.args.inputs.now).files (g.C.Clock.state c.args.clock.now).next c.args.job _ c.scan.result.report.refusal c.in-Scan.is (c.scan.ensures.due known)

pub returns-in-Values-clause-ran : goal.returns-in-Values-clause-ran
returns-in-Values-clause-ran g c =
    let state = g.I.Inputs.state in
    let went = effects_of c.args.disk c.values.result.disk (g.K.Sink.state c.args.sink.now)
    (g.K.Sink.state c.values.new.sink) c.values.result.report in
    job_ran g.D.Disk.device went (g.I.Inputs.state c.args.inputs.now).files (g.C.Clock.state c.args.clock.now).next (state c.args.inputs.now) (state c.values.new.inputs) c.args.job _ c.in-Values.is c.values.ensures.ran

pub returns-in-Values-clause-due : goal.returns-in-Values-clause-due
returns-in-Values-clause-due g c = λ transparent known.
    job_due g.D.Disk.device c.args.disk (g.I.Inputs.state c.args.inputs.now).files (g.C.Clock.state c.args.clock.now).next c.args.job _ c.values.result.report.refusal c.in-Values.is (c.values.ensures.due known)

pub returns-in-Create-clause-ran : goal.returns-in-Create-clause-ran
returns-in-Create-clause-ran g c =
    let state = g.I.Inputs.state in
    let went = effects_of c.args.disk c.create.result.disk (g.K.Sink.state c.args.sink.now)
    (g.K.Sink.state c.create.new.sink) c.create.result.report in
    job_ran g.D.Disk.device went (g.I.Inputs.state c.args.inputs.now).files (g.C.Clock.state c.args.clock.now).next (state c.args.inputs.now) (state c.create.new.inputs) c.args.job _ c.in-Create.is c.create.ensures.ran

pub returns-in-Create-clause-due : goal.returns-in-Create-clause-due
returns-in-Create-clause-due g c = λ transparent known.
    job_due g.D.Disk.device c.args.disk (g.I.Inputs.state c.args.inputs.now).files (g.C.Clock.state c.args.clock.now).next c.args.job _ c.create.result.report.refusal c.in-Create.is (c.create.ensures.due transparent known)

pub returns-in-Load-clause-ran : goal.returns-in-Load-clause-ran
returns-in-Load-clause-ran g c =
    let state = g.I.Inputs.state in
    let went = effects_of c.args.disk c.load.result.disk (g.K.Sink.state c.args.sink.now)
    (g.K.Sink.state c.load.new.sink) c.load.result.report in
    job_ran g.D.Disk.device went (g.I.Inputs.state c.args.inputs.now).files (g.C.Clock.state c.args.clock.now).next (state c.args.inputs.now) (state c.load.new.inputs) c.args.job _ c.in-Load.is c.load.ensures.ran

pub returns-in-Load-clause-due : goal.returns-in-Load-clause-due
returns-in-Load-clause-due g c = λ transparent known.
    job_due g.D.Disk.device c.args.disk (g.I.Inputs.state c.args.inputs.now).files (g.C.Clock.state c.args.clock.now).next c.args.job _ c.load.result.report.refusal c.in-Load.is (c.load.ensures.due transparent known)

pub returns-in-Query-clause-ran : goal.returns-in-Query-clause-ran
returns-in-Query-clause-ran g c =
    let state = g.I.Inputs.state in
    let went = effects_of c.args.disk c.query.result.disk (g.K.Sink.state c.args.sink.now)
    (g.K.Sink.state c.query.new.sink) c.query.result.report in
    job_ran g.D.Disk.device went (g.I.Inputs.state c.args.inputs.now).files (g.C.Clock.state c.args.clock.now).next (state c.args.inputs.now) (state c.query.new.inputs) c.args.job _ c.in-Query.is c.query.ensures.ran

pub returns-in-Query-clause-due : goal.returns-in-Query-clause-due
returns-in-Query-clause-due g c = λ transparent known.
    job_due g.D.Disk.device c.args.disk (g.I.Inputs.state c.args.inputs.now).files (g.C.Clock.state c.args.clock.now).next c.args.job _ c.query.result.report.refusal c.in-Query.is (c.query.ensures.due transparent known)

pub returns-in-Sql-clause-ran : goal.returns-in-Sql-clause-ran
returns-in-Sql-clause-ran g c =
    let state = g.I.Inputs.state in
    let went = effects_of c.args.disk c.query_sql.result.disk (g.K.Sink.state c.args.sink.now)
    (g.K.Sink.state c.query_sql.new.sink) c.query_sql.result.report in
    job_ran g.D.Disk.device went (g.I.Inputs.state c.args.inputs.now).files (g.C.Clock.state c.args.clock.now).next (state c.args.inputs.now) (state c.query_sql.new.inputs) c.args.job _ c.in-Sql.is c.query_sql.ensures.ran

pub returns-in-Sql-clause-due : goal.returns-in-Sql-clause-due
returns-in-Sql-clause-due g c = λ transparent known.
    job_due g.D.Disk.device c.args.disk (g.I.Inputs.state c.args.inputs.now).files (g.C.Clock.state c.args.clock.now).next c.args.job _ c.query_sql.result.report.refusal c.in-Sql.is (c.query_sql.ensures.due transparent known)

pub returns-in-Recover-clause-ran : goal.returns-in-Recover-clause-ran
returns-in-Recover-clause-ran g c =
    let state = g.I.Inputs.state in
    let went = effects_of c.args.disk c.recover.result.disk (g.K.Sink.state c.args.sink.now)
    (g.K.Sink.state c.recover.new.sink) c.recover.result.report in
    job_ran g.D.Disk.device went (g.I.Inputs.state c.args.inputs.now).files (g.C.Clock.state c.args.clock.now).next (state c.args.inputs.now) (state c.args.inputs.now) c.args.job _ c.in-Recover.is (over_any_inputs g.D.Disk.device went (recover_plan g.D.Disk.device c.args.disk) (recover_reads g.D.Disk.device c.args.disk) c.recover.ensures.ran (state c.args.inputs.now))

pub returns-in-Recover-clause-due : goal.returns-in-Recover-clause-due
returns-in-Recover-clause-due g c = λ transparent known.
    job_due g.D.Disk.device c.args.disk (g.I.Inputs.state c.args.inputs.now).files (g.C.Clock.state c.args.clock.now).next c.args.job _ c.recover.result.report.refusal c.in-Recover.is (c.recover.ensures.due transparent)

pub returns-in-Verify-clause-ran : goal.returns-in-Verify-clause-ran
returns-in-Verify-clause-ran g c =
    let state = g.I.Inputs.state in
    let went = effects_of c.args.disk c.verify.result.disk (g.K.Sink.state c.args.sink.now)
    (g.K.Sink.state c.verify.new.sink) c.verify.result.report in
    job_ran g.D.Disk.device went (g.I.Inputs.state c.args.inputs.now).files (g.C.Clock.state c.args.clock.now).next (state c.args.inputs.now) (state c.args.inputs.now) c.args.job _ c.in-Verify.is (over_any_inputs g.D.Disk.device went (verify_plan g.D.Disk.device c.args.disk) (verify_reads g.D.Disk.device c.args.disk) c.verify.ensures.ran (state c.args.inputs.now))

pub returns-in-Verify-clause-due : goal.returns-in-Verify-clause-due
returns-in-Verify-clause-due g c = λ transparent known.
    job_due g.D.Disk.device c.args.disk (g.I.Inputs.state c.args.inputs.now).files (g.C.Clock.state c.args.clock.now).next c.args.job _ c.verify.result.report.refusal c.in-Verify.is (c.verify.ensures.due transparent)

pub returns-in-Make-clause-ran : goal.returns-in-Make-clause-ran
returns-in-Make-clause-ran g c =
    let device = g.D.Disk.device in
    let state = g.I.Inputs.state in
    let next = (g.C.Clock.state c.args.clock.now).next in
    let went = effects_of c.args.disk c.make.result.disk (g.K.Sink.state c.args.sink.now)
    (g.K.Sink.state c.make.new.sink) c.make.result.report in
    job_ran device went (g.I.Inputs.state c.args.inputs.now).files next (state c.args.inputs.now) (state c.args.inputs.now) c.args.job _ c.in-Make.is
    (over_any_inputs device went (make_plan device c.args.disk next c.in-Make.seed) (make_reads device c.args.disk next c.in-Make.seed) c.make.ensures.ran (state c.args.inputs.now))

pub returns-in-Make-clause-due : goal.returns-in-Make-clause-due
returns-in-Make-clause-due g c = λ transparent known.
    job_due g.D.Disk.device c.args.disk (g.I.Inputs.state c.args.inputs.now).files (g.C.Clock.state c.args.clock.now).next c.args.job _ c.make.result.report.refusal c.in-Make.is (c.make.ensures.due transparent)

pub returns-in-Create-clause-clock : goal.returns-in-Create-clause-clock
returns-in-Create-clause-clock g c = clock_unused (g.C.Clock.state c.args.clock.now)

pub returns-in-Query-clause-clock : goal.returns-in-Query-clause-clock
returns-in-Query-clause-clock g c = clock_unused (g.C.Clock.state c.args.clock.now)

pub returns-in-Sql-clause-clock : goal.returns-in-Sql-clause-clock
returns-in-Sql-clause-clock g c = clock_unused (g.C.Clock.state c.args.clock.now)

pub returns-in-Recover-clause-clock : goal.returns-in-Recover-clause-clock
returns-in-Recover-clause-clock g c = clock_unused (g.C.Clock.state c.args.clock.now)

pub returns-in-Verify-clause-clock : goal.returns-in-Verify-clause-clock
returns-in-Verify-clause-clock g c = clock_unused (g.C.Clock.state c.args.clock.now)
