use Rattle.std.proofs.Common.{Bor, List, ℕ, Option, None, w64, to_z, of_z, refl, sym}
use Rattle.std.proofs.lemmas.Int.{to_z-of_z}
use Rattle.command_runs.specs.Moment.{IsMomentOf}
use Rattle.std.specs.Prelude.{option_map}
use Rattle.archive_store.specs.StoreView.{filled_of}
use Rattle.command_words.specs.JobView.{load_words_of}
use Rattle.retrieval.specs.FoundAsks.{asks_found}
use Rattle.command_runs.specs.Command.{effects_of}
use Rattle.command_runs.proofs.ReadOnly.{left_opened, not_read}
use Rattle.live_asks.specs.LiveAsks.{disk_facts}
use Rattle.load_command.proofs.LoadPlan.{load_run, load_unready}
use Rattle.load_command.proofs.opened.load_into.Goals as goal

abbrev named : Option (Bor (List ℕ)) → Option (List ℕ)
named = option_map (λ (text : Bor (List ℕ)). text.now)

-- all was ready
pub returns-in-Ok : goal.returns-in-Ok
returns-in-Ok g c = λ disk healed files next on heals kept left told.
    let device = g.D.Disk.device in
    let s = c.args.store in
    let asked = c.args.asked in
    let ready = c.in-Ok.ready in
    let went = effects_of disk healed.disk (g.K.Sink.state c.args.sink.now) (g.K.Sink.state c.run_jobs.new.sink) c.run_jobs.result.2 in
    let moment : IsMomentOf next (to_z w64 (of_z w64 c.args.moment)) = rw (to_z-of_z w64 c.args.moment c.ranges.moment) told in
    load_run device went (disk_facts device disk) files next (load_words_of asked.words.now) (named asked.text) asked.sheet (filled_of s) g.S.Source.state c.args.sources.items (sym c.requires.dumps)
    ready.graph (asks_found ready.asks) c.in-Ok.ensures.ready c.run_jobs.result.1.items (c.run_jobs.ensures disk healed files next on heals kept left moment)

-- it wasn't
pub returns-in-Err : goal.returns-in-Err
returns-in-Err g c = λ disk healed files next on heals kept left told.
    let device = g.D.Disk.device in
    let s = c.args.store in
    let asked = c.args.asked in
    let output = g.K.Sink.state c.args.sink.now in
    let went = effects_of disk healed.disk output output c.read_only-report.result in
    load_unready device went (disk_facts device disk) files next (load_words_of asked.words.now) (named asked.text) asked.sheet (filled_of s) g.S.Source.state c.args.sources.items (sym c.requires.dumps)
    refl (left_opened device disk s s healed on None (not_read device s s refl) heals kept) c.in-Err.refusal c.in-Err.ensures.unready (rw c.front.ensures at c.read_only-report.ensures)
