use Rattle.std.proofs.Common.{sym, subst}
use Rattle.std.proofs.lemmas.Result.{err_from_is_err_and}
use Rattle.archive_store.specs.StoreView.{filled_of}
use Rattle.command_runs.specs.ArchiveWork.{opened_plan}
use Rattle.command_runs.specs.Command.{Ran, effects_of}
use Rattle.command_runs.proofs.Commands.{work_done, work_unopened, work_without_memory}
use Rattle.command_runs.proofs.Openings.{opened_on}
use Rattle.command_runs.proofs.archive_work.with_archive.Goals as goal

pub returns-in_default : goal.returns-in_default
returns-in_default g c = λ sources.
    (work_without_memory g.D.Disk.device c.args.disk (g.K.Sink.state c.args.sink.now) sources {Input = Unit {0}} tt (λ new way. Unit {0}) (g.W.ArchiveWork.plan c.args.work)).ran

pub returns-in_err-store : goal.returns-in_err-store
returns-in_err-store g c = λ sources.
    let e = c.in_err-store.ensures in
    let p = err_from_is_err_and c.from_residual.result c.from_residual.ensures.1 in
    rw (p.1, p.2)
    (work_unopened g.D.Disk.device c.args.disk (g.K.Sink.state c.args.sink.now) sources {Input = Unit {0}} tt (λ new way. Unit {0}) (g.W.ArchiveWork.plan c.args.work) c.in_err-store.field-0.0 e.refused e.reads e.crash).ran

-- ---- the archive was opened

pub work-store-requires-clause-opened : goal.work-store-requires-clause-opened
work-store-requires-clause-opened g c = let e = c.in_ok-store.ensures in (c.args.disk, opened_on e.opened e.reads e.crash e.counts)

-- and the work done
pub returns : goal.returns
returns g c = λ sources.
    let device = g.D.Disk.device in
    let disk = c.args.disk in
    let s = c.in_ok-store.store in
    let e = c.in_ok-store.ensures in
    let healed = c.heal.new.store in
    let output = g.K.Sink.state c.args.sink.now in
    let output' = g.K.Sink.state c.work-store.new.sink in
    let report = c.work-store.result.1 in
    let plan = g.W.ArchiveWork.plan c.args.work in
    subst (λ (d : g.row.D.Denot). Ran device (opened_plan sources device disk plan) (effects_of disk d output output' report)) (sym c.into_disk.ensures.disk)
    (work_done device disk output sources {Input = Unit {0}} tt (λ new way. Unit {0}) plan (effects_of disk healed.disk output output' report) tt (filled_of s) (λ known. e.opened.filled known)
    (record { ran = c.work-store.ensures disk healed (opened_on e.opened e.reads e.crash e.counts) c.heal.ensures c.is_kept.ensures; used = tt })).ran
