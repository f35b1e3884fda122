use Rattle.std.proofs.Common.{refl, sym, ◌∙◌}
use Rattle.command_plans.proofs.Ledgers.{clock_unused}
use Rattle.command_words.specs.JobView.{load_words_of}
use Rattle.command_runs.specs.Command.{effects_of}
use Rattle.load_command.specs.Load.{load_plan}
use Rattle.command_runs.proofs.Commands.{is_due_over}
use Rattle.load_command.proofs.LoadPlan.{load_determined, ran_limited, ran_unlimited}
use Rattle.load_command.proofs.load.load.Goals as goal

-- the words pass no limit

pub returns-in-None-clause-ran : goal.returns-in-None-clause-ran
returns-in-None-clause-ran g c =
    ran_unlimited g.D.Disk.device _ _ _ _ _ _ (sym c.limit_refusal.ensures ∙ c.in-None.is) (rw (c.of_work.ensures.disk, c.of_work.ensures.report) c.work.ensures.ran)

pub returns-in-None-clause-due : goal.returns-in-None-clause-due
returns-in-None-clause-due g c = λ known some.
    let device = g.D.Disk.device in
    let files = (g.I.Inputs.state c.args.inputs.now).files in
    let next = (g.C.Clock.state c.args.clock.now).next in
    let words = load_words_of c.args.words.now in
    is_due_over device (effects_of c.args.disk c.of_work.result.disk (g.K.Sink.state c.args.sink.now) (g.K.Sink.state c.work.new.sink) c.of_work.result.report)
    (load_plan device c.args.disk files next words) (g.I.Inputs.state c.args.inputs.now) (g.I.Inputs.state c.work.new.inputs)
    (load_determined device c.args.disk files next words known some) (returns-in-None-clause-ran g c)

-- or they do

pub returns-in-Some-clause-ran : goal.returns-in-Some-clause-ran
returns-in-Some-clause-ran g c =
    let output = g.K.Sink.state c.args.sink.now in
    ran_limited g.D.Disk.device (effects_of c.args.disk c.unopened.result.disk output output c.unopened.result.report) (g.I.Inputs.state c.args.inputs.now).files (g.C.Clock.state c.args.clock.now).next (load_words_of c.args.words.now) (g.I.Inputs.state c.args.inputs.now) (g.I.Inputs.state c.args.inputs.now)
    c.in-Some.refusal (sym c.limit_refusal.ensures ∙ c.in-Some.is) c.unopened.ensures.report c.unopened.ensures.disk refl

pub returns-in-Some-clause-due : goal.returns-in-Some-clause-due
returns-in-Some-clause-due g c = λ known some.
    let device = g.D.Disk.device in
    let files = (g.I.Inputs.state c.args.inputs.now).files in
    let next = (g.C.Clock.state c.args.clock.now).next in
    let words = load_words_of c.args.words.now in
    let output = g.K.Sink.state c.args.sink.now in
    is_due_over device (effects_of c.args.disk c.unopened.result.disk output output c.unopened.result.report)
    (load_plan device c.args.disk files next words) (g.I.Inputs.state c.args.inputs.now) (g.I.Inputs.state c.args.inputs.now)
    (load_determined device c.args.disk files next words known some) (returns-in-Some-clause-ran g c)

pub returns-in-Some-clause-clock : goal.returns-in-Some-clause-clock
returns-in-Some-clause-clock g c = clock_unused (g.C.Clock.state c.args.clock.now)
