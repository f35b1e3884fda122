use Rattle.std.proofs.Common.{◌≡◌, Bor, List, ℕ, Option, Some, w64, SFits, to_z, of_z, length, refl, rules}
use Rattle.std.specs.Prelude.{option_map}
use Rattle.std.proofs.lemmas.Int.{to_z-of_z}
use Rattle.command_words.specs.JobView.{load_words_of}
use Rattle.command_plans.proofs.Ledgers.{clock_unused}
use Rattle.command_plans.proofs.Sources.{new_sources_length}
use Rattle.command_runs.specs.Command.{effects_of}
use Rattle.command_runs.specs.Moment.{IsMomentOf}
use Rattle.command_runs.specs.Report.{disk_of_work, report_of_work, unopened}
use Rattle.command_runs.proofs.Moments.{moment_of}
use Rattle.load_command.proofs.Dumps.{lefts_are}
use Rattle.load_command.proofs.LoadPlan.{ran_loaded, ran_unopened_dumps}
use Rattle.load_command.proofs.load.load_archive.Goals as goal

abbrev named : Option (Bor (List ℕ)) → Option (List ℕ)
named = option_map (λ (text : Bor (List ℕ)). text.now)

-- ---- the dumps weren't opened

pub returns-in-Err-clause-ran : goal.returns-in-Err-clause-ran
returns-in-Err-clause-ran g c =
    let output = g.K.Sink.state c.args.sink.now in
    let asked = c.args.asked in
    ran_unopened_dumps g.D.Disk.device (effects_of c.args.disk c.args.disk output output (unopened (Some c.in-Err.refusal))) (g.I.Inputs.state c.args.inputs.now).files (g.C.Clock.state c.args.clock.now).next
    (load_words_of asked.words.now) (named asked.text) asked.sheet (g.I.Inputs.state c.args.inputs.now) (g.I.Inputs.state c.open_all.new.inputs) c.in-Err.refusal
    (rw c.as_slice.ensures.value at c.in-Err.ensures.refused) refl refl refl

pub returns-in-Err-clause-clock : goal.returns-in-Err-clause-clock
returns-in-Err-clause-clock g c = clock_unused (g.C.Clock.state c.args.clock.now)

-- ---- they were, and are loaded

pub load_opened-loaded-requires-clause-opened : goal.load_opened-loaded-requires-clause-opened
load_opened-loaded-requires-clause-opened g c =
    let given = rw c.as_slice.ensures.value at c.in-Ok.ensures.opened in
    let as_many : length c.in-Ok.sources.items ≡ length (load_words_of c.args.asked.words.now).dumps =
    new_sources_length g.I.Source.Source.state (g.I.Inputs.state c.args.inputs.now) (load_words_of c.args.asked.words.now).dumps c.in-Ok.sources.items given.are_new in
    search rules

pub returns-clause-ran : goal.returns-clause-ran
returns-clause-ran g c =
    let device = g.D.Disk.device in
    let state = g.I.Source.Source.state in
    let a = g.I.Inputs.state c.args.inputs.now in
    let m = g.I.Inputs.state c.open_all.new.inputs in
    let b = g.I.Inputs.state c.close_all.new.inputs in
    let asked = c.args.asked in
    let words = load_words_of asked.words.now in
    let next = (g.C.Clock.state c.args.clock.now).next in
    let firsts = c.in-Ok.sources.items in
    let opened = c.load_opened-loaded.result in
    let given = rw c.as_slice.ensures.value at c.in-Ok.ensures.opened in
    let moment = c.now-moment.result in
    let clock = c.now-moment.ensures in
    let fits : SFits w64 moment = search rules in
    let told : IsMomentOf next (to_z w64 (of_z w64 moment)) = rw (to_z-of_z w64 moment fits) (moment_of next moment clock.known clock.range) in
    let went = effects_of c.args.disk (disk_of_work opened.0) (g.K.Sink.state c.args.sink.now) (g.K.Sink.state c.load_opened-loaded.new.sink) (report_of_work opened.0) in
    ran_loaded device went a.files next words (named asked.text) asked.sheet a b state firsts opened.1.items m given.allows given.gave given.are_new c.close_all.ensures
    (c.load_opened-loaded.ensures a.files next (lefts_are state a words.dumps firsts given.are_new) told)

pub returns-clause-clock : goal.returns-clause-clock
returns-clause-clock g c = record { known = c.now-moment.ensures.same; stands = c.now-moment.ensures.reliable }
