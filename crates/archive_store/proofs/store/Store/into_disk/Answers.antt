use Rattle.std.proofs.Common.{subst}
use Rattle.archive_store.specs.StoreView.{StoreView, CrashInvariant}
use Rattle.archive_store.proofs.PlainLog.{crash_of}
use Rattle.archive_store.proofs.store.Store.into_disk.Goals as goal

pub returns-clause-images : goal.returns-clause-images
returns-clause-images g c transparent =
    let device = g.D.Disk.device in
    let s = c.self.inside in
    subst (λ (x : StoreView g.row.D.Denot). CrashInvariant device x) c.self.view_is (crash_of device s.disk s.opened.value s.journal s.head s.history.exponent s.history.items s.tracker.fills s.sets.filled s.pending_fault c.self.invariant.0 transparent)
