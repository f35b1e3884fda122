use Rattle.std.proofs.Common.{subst}
use Rattle.std.specs.List.{AllByRecursion}
use Rattle.history_items.specs.Items.{rows_in}
use Rattle.archive_store.specs.Replays.{ArePartitions, IsNamedPartition}
use Rattle.archive_store.specs.StoreView.{StoreView}
use Rattle.archive_store.proofs.ReplayedRows.{each_named}
use Rattle.archive_store.proofs.store.Store.parts.Goals as goal

pub returns-clause-parts : goal.returns-clause-parts
returns-clause-parts g c =
    let got = c.in_ok-pruned.ensures in
    let parts = c.in_ok-pruned.field-0 in
    subst (λ (x : StoreView g.row.D.Denot). ArePartitions x.history c.args.table c.args.bounds.now parts) c.self.view_is (record { exactly = got.exactly; rising = got.rising })

pub returns-clause-named : goal.returns-clause-named
returns-clause-named g c =
    let s = c.self.inside in
    let parts = c.in_ok-pruned.field-0 in
    subst (λ (x : StoreView g.row.D.Denot). AllByRecursion (IsNamedPartition x.head x.history) parts) c.self.view_is
    (each_named s.head s.history.items c.args.table (rows_in s.history.items) c.args.bounds.now parts c.self.invariant.0.rows c.in_ok-pruned.ensures.exactly)
