use Rattle.std.proofs.Common.{Bor, List, ℕ, Option, w64, to_z, of_z, length, sym, subst, rules}
use Rattle.std.proofs.lemmas.Int.{to_z-of_z}
use Rattle.command_runs.specs.Moment.{IsMomentOf}
use Rattle.command_runs.specs.Opened.{WasOpened}
use Rattle.std.specs.Prelude.{option_map}
use Rattle.command_words.specs.JobView.{load_words_of}
use Rattle.command_runs.specs.ArchiveWork.{RanWith, UsedByWork, opened_plan}
use Rattle.command_runs.specs.Command.{effects_of}
use Rattle.command_runs.proofs.Commands.{work_done, work_unopened, work_without_memory}
use Rattle.command_runs.proofs.Openings.{opened_on}
use Rattle.archive_store.specs.StoreView.{filled_of}
use Rattle.live_asks.specs.LiveAsks.{disk_facts}
use Rattle.load_command.specs.Load.{loading_plan}
use Rattle.load_command.specs.Loading.{HaveUsedSources, load_asked}
use Rattle.load_command.proofs.opened.load_opened.Goals as goal

abbrev named : Option (Bor (List ℕ)) → Option (List ℕ)
named = option_map (λ (text : Bor (List ℕ)). text.now)

pub returns-in_default : goal.returns-in_default
returns-in_default g c = λ files next left told.
    let device = g.D.Disk.device in
    let sources = c.args.sources.items in
    let asked = c.args.asked in
    work_without_memory device c.args.disk (g.K.Sink.state c.args.sink.now) (length sources) sources (λ news way. HaveUsedSources g.S.Source.state sources news way)
    (λ known. loading_plan (disk_facts device c.args.disk) files next (load_asked (load_words_of asked.words.now) (named asked.text) asked.sheet))

pub returns-in-Err : goal.returns-in-Err
returns-in-Err g c = λ files next left told.
    let device = g.D.Disk.device in
    let sources = c.args.sources.items in
    let asked = c.args.asked in
    let e = c.in-Err.ensures in
    work_unopened device c.args.disk (g.K.Sink.state c.args.sink.now) (length sources) sources (λ news way. HaveUsedSources g.S.Source.state sources news way)
    (λ known. loading_plan (disk_facts device c.args.disk) files next (load_asked (load_words_of asked.words.now) (named asked.text) asked.sheet)) c.in-Err.refused e.refused e.reads e.crash

-- ---- the archive was opened

pub load_into-store-requires-clause-opened : goal.load_into-store-requires-clause-opened
load_into-store-requires-clause-opened g c =
    let e = c.in-Ok-open.ensures in
    let opened : WasOpened g.D.Disk.device c.in-Ok-open.store = (c.args.disk, opened_on e.opened e.reads e.crash e.counts) in
    search rules

-- and the dumps loaded
pub returns : goal.returns
returns g c = λ files next left told.
    let device = g.D.Disk.device in
    let disk = c.args.disk in
    let s = c.in-Ok-open.store in
    let e = c.in-Ok-open.ensures in
    let healed = c.heal.new.store in
    let loaded = c.load_into-store.result in
    let sources = c.args.sources.items in
    let asked = c.args.asked in
    let words = load_words_of asked.words.now in
    let output = g.K.Sink.state c.args.sink.now in
    let output' = g.K.Sink.state c.load_into-store.new.sink in
    let moment : IsMomentOf next (to_z w64 (of_z w64 c.args.moment)) = rw (to_z-of_z w64 c.args.moment c.ranges.moment) told in
    subst
    (λ (d : g.row.D.Denot).
    RanWith device (opened_plan (length sources) device disk (λ known. loading_plan (disk_facts device disk) files next (load_asked words (named asked.text) asked.sheet))) (effects_of disk d output output' loaded.2)
    (UsedByWork (length sources) sources loaded.1.items (HaveUsedSources g.S.Source.state sources loaded.1.items)))
    (sym c.into_disk.ensures.disk)
    (work_done device disk output (length sources) sources (λ news way. HaveUsedSources g.S.Source.state sources news way)
    (λ known. loading_plan (disk_facts device disk) files next (load_asked words (named asked.text) asked.sheet)) (effects_of disk healed.disk output output' loaded.2) loaded.1.items (filled_of s) (λ known. e.opened.filled known)
    (c.load_into-store.ensures disk healed files next (opened_on e.opened e.reads e.crash e.counts) c.heal.ensures c.is_kept.ensures left moment))
