use Rattle.std.proofs.Common.{SFits, w64, to_z, of_z, refl, sym, subst, arith, rules, Some}
use Rattle.std.proofs.lemmas.Int.{to_z-of_z}
use Rattle.std.proofs.lemmas.Result.{err_from_is_err_and}
use Rattle.refusals.specs.declared.refusal.Refusal.TheVariants.{OutOfMemory}
use Rattle.archive_store.specs.Calls.{CrashLeavesHead, IsStoreCreated}
use Rattle.archive_commands.proofs.Created.{made_store}
use Rattle.command_runs.specs.Command.{Ran, effects_of}
use Rattle.command_runs.specs.Moment.{IsMomentOf}
use Rattle.command_runs.specs.Report.{unopened}
use Rattle.make_command.specs.Made.{made_head}
use Rattle.make_command.specs.Make.{make_plan}
use Rattle.make_command.proofs.MadeRuns.{ran_made_and_loaded, ran_not_made, ran_unprepared}
use Rattle.make_command.proofs.make.make_archive.Goals as goal

-- memory was wanting before
pub returns-in_default : goal.returns-in_default
returns-in_default g c = λ next told.
    let output = g.K.Sink.state c.args.sink.now in
    ran_unprepared g.D.Disk.device c.args.disk c.args.disk output output (unopened (Some OutOfMemory)) next c.args.seed refl refl refl

-- no archive was made
pub returns-in_err-store : goal.returns-in_err-store
returns-in_err-store g c = λ next told.
    let device = g.D.Disk.device in
    let output = g.K.Sink.state c.args.sink.now in
    let e = c.in_err-store.ensures in
    let refused = c.in_err-store.field-0.0 in
    let crash : CrashLeavesHead device c.args.disk refused.0 made_head = rw c.in-Ok.ensures.head at e.crash in
    let p = err_from_is_err_and c.from_residual.result c.from_residual.ensures.1 in
    rw (p.1, p.2) (ran_not_made device c.args.disk refused.0 output output (unopened (Some refused.1)) next c.args.seed refused.1 e.refused e.kept crash e.counts refl refl)

pub load_made-store-requires-clause-created : goal.load_made-store-requires-clause-created
load_made-store-requires-clause-created g c = λ lifetimes lives. (c.args.disk, rw c.in-Ok.ensures.head at c.in_ok-store.ensures.created)

-- one was made, and loaded
pub returns : goal.returns
returns g c = λ next told.
    let device = g.D.Disk.device in
    let s = c.in_ok-store.store in
    let created : IsStoreCreated device c.args.disk made_head s = rw c.in-Ok.ensures.head at c.in_ok-store.ensures.created in
    let crash : CrashLeavesHead device c.args.disk s.disk made_head = rw c.in-Ok.ensures.head at c.in_ok-store.ensures.crash in
    let healed = c.heal.new.store in
    let report = c.load_made-store.result.1 in
    let output = g.K.Sink.state c.args.sink.now in
    let output' = g.K.Sink.state c.load_made-store.new.sink in
    let fits : SFits w64 c.args.moment = search rules in
    let moment : IsMomentOf next (to_z w64 (of_z w64 c.args.moment)) = rw (to_z-of_z w64 c.args.moment fits) told in
    let loaded = c.load_made-store.ensures next healed moment c.heal.ensures c.is_kept-2.ensures in
    subst (λ (d : g.row.D.Denot). Ran device (make_plan device c.args.disk next c.args.seed) (effects_of c.args.disk d output output' report)) (sym c.into_disk.ensures.disk)
    (ran_made_and_loaded device c.args.disk healed.disk output output' report next c.args.seed s.disk
    (record { faults = created.no_fault; writes = (0, omega arith, omega arith, created.no_failed_write) })
    (λ known. made_store device c.args.disk s made_head (created.none known) created.history created.fills created.head_is created.exponent created.opened (created.sound known) (crash known (created.none known))
    (c.is_kept.ensures.images known)) created.none loaded)
