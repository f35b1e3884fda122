use Rattle.std.proofs.Common.{map, refl, string_bytes, subst, sym}
use Rattle.command_words.specs.JobView.{job_view}
use Rattle.command_plans.specs.Plan.{IsDue}
use Rattle.command_runs.specs.declared.report.Report.{Report}
use Rattle.command_runs.specs.Command.{effects_of}
use Rattle.archive_cli.specs.Run.{run_plan}
use Rattle.command_plans.proofs.Ledgers.{clock_unused}
use Rattle.archive_cli.proofs.RunPlan.{jobless_due, jobless_ran, run_due, run_ran}
use Rattle.archive_cli.proofs.run.run.Goals as goal

pub returns-in-Ok-clause-ran : goal.returns-in-Ok-clause-ran
returns-in-Ok-clause-ran g c =
    let state = g.I.Inputs.state in
    let went = effects_of c.args.disk c.run_job.result.disk (g.K.Sink.state c.args.sink.now)
    (g.K.Sink.state c.run_job.new.sink) c.run_job.result.report in
    run_ran g.D.Disk.device went (g.I.Inputs.state c.args.inputs.now).files (g.C.Clock.state c.args.clock.now).next (state c.args.inputs.now) (state c.run_job.new.inputs)
    (map (λ w. string_bytes w) c.args.words.now) (job_view c.in-Ok.job) c.in-Ok.ensures.job c.run_job.ensures.ran

pub returns-in-Ok-clause-due : goal.returns-in-Ok-clause-due
returns-in-Ok-clause-due g c = λ transparent known.
    run_due g.D.Disk.device c.args.disk (g.I.Inputs.state c.args.inputs.now).files (g.C.Clock.state c.args.clock.now).next (map (λ w. string_bytes w) c.args.words.now) (job_view c.in-Ok.job)
    c.run_job.result.report.refusal c.in-Ok.ensures.job (c.run_job.ensures.due transparent known)

pub returns-in-Err-clause-ran : goal.returns-in-Err-clause-ran
returns-in-Err-clause-ran g c =
    let state = g.I.Inputs.state in
    let output = g.K.Sink.state c.args.sink.now in
    let went = effects_of c.args.disk c.unopened.result.disk output output c.unopened.result.report in
    jobless_ran g.D.Disk.device went (g.I.Inputs.state c.args.inputs.now).files (g.C.Clock.state c.args.clock.now).next (state c.args.inputs.now) (map (λ w. string_bytes w) c.args.words.now)
    c.in-Err.refusal c.in-Err.ensures.none c.unopened.ensures.report c.unopened.ensures.disk refl

pub returns-in-Err-clause-due : goal.returns-in-Err-clause-due
returns-in-Err-clause-due g c = λ transparent known.
    subst (λ (r : Report). IsDue (run_plan g.D.Disk.device c.args.disk (g.I.Inputs.state c.args.inputs.now).files (g.C.Clock.state c.args.clock.now).next (map (λ w. string_bytes w) c.args.words.now)) r.refusal)
    (sym c.unopened.ensures.report)
    (jobless_due g.D.Disk.device c.args.disk (g.I.Inputs.state c.args.inputs.now).files (g.C.Clock.state c.args.clock.now).next (map (λ w. string_bytes w) c.args.words.now) c.in-Err.refusal c.in-Err.ensures.none)

pub returns-in-Err-clause-clock : goal.returns-in-Err-clause-clock
returns-in-Err-clause-clock g c = clock_unused (g.C.Clock.state c.args.clock.now)
