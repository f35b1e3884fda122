use Rattle.std.proofs.Common.{◌≡◌, ◌⊎◌, List, None, sym, ap, subst}
use Rattle.std.specs.Arc.{arc_value}
use Rattle.std.specs.Option.{is_some}
use Rattle.history_items.specs.Databases.{database_in}
use Rattle.history_items.specs.Late.{IsLate}
use Rattle.interval_fills.specs.Intervals.{rows_of_interval}
use Rattle.param_segments.specs.Rows.{SetRow}
use Rattle.store_fills.specs.Filled.{HoldsRows}
use Rattle.store_fills.specs.LastFills.{fillings_in}
use Rattle.archive_store.specs.CurrentSets.{IsCurrentSet}
use Rattle.archive_store.specs.Inside.{view_of}
use Rattle.archive_images.specs.Stands.{IsSoundImage}
use Rattle.archive_store.specs.StoreView.{StoreView}
use Rattle.archive_store.proofs.CurrentSets.{current_holds, current_is}
use Rattle.archive_store.proofs.IntervalRows.{filled_stands}
use Rattle.archive_store.proofs.PlainLog.{sound_of}
use Rattle.archive_store.proofs.store.Store.segments.Goals as goal

pub returns-clause-some : goal.returns-clause-some
returns-clause-some g c =
    let s = c.self.inside in
    let i = c.args.interval in
    let fill = c.in-Some.fill.now in
    let store : StoreView g.row.D.Denot = view_of s.disk s.opened.value s.journal s.head s.history.exponent s.history.items s.tracker.fills s.sets.filled in
    let row = filled_stands s.head s.history.exponent s.history.items s.tracker.fills s.tracker.marks s.sets.filled i c.self.invariant.3 c.self.invariant.4 (ap is_some c.in-Some.ensures.filled) in
    let current = current_is store i fill.base (arc_value fill.set) c.self.invariant.4 c.in-Some.ensures.filled (c.in-Some.ensures.current s.history.exponent s.history.items c.self.invariant.3) row in
    subst (λ (x : StoreView g.row.D.Denot). IsCurrentSet x i (arc_value c.in_ok-set.set)) c.self.view_is (subst (IsCurrentSet store i) (sym c.in_ok-set.ensures) current)

pub returns-in_default-clause-none : goal.returns-in_default-clause-none
returns-in_default-clause-none g c =
    subst (λ (x : StoreView g.row.D.Denot). IsLate x.exponent c.args.interval x.history x.fills ⊎ (fillings_in x.filled c.args.interval ≡ None)) c.self.view_is
    (c.in_default.ensures.none c.self.inside.history.exponent c.self.inside.history.items c.self.invariant.3)

pub returns-clause-holds : goal.returns-clause-holds
returns-clause-holds g c transparent image =
    let device = g.D.Disk.device in
    let s = c.self.inside in
    let i = c.args.interval in
    let fill = c.in-Some.fill.now in
    let opened = subst (λ (x : StoreView g.row.D.Denot). IsSoundImage (device.reads x.opened)) (sym c.self.view_is) image in
    let sound = sound_of device s.disk s.opened.value s.journal s.head s.history.exponent s.history.items s.tracker.fills s.sets.filled s.pending_fault c.self.invariant.0 transparent opened in
    let row = filled_stands s.head s.history.exponent s.history.items s.tracker.fills s.tracker.marks s.sets.filled i c.self.invariant.3 c.self.invariant.4 (ap is_some c.in-Some.ensures.filled) in
    let holds = current_holds s.head s.history.exponent s.history.items s.tracker.fills s.sets.filled i fill.base (arc_value fill.set) c.self.invariant.4.bases c.in-Some.ensures.filled (c.in-Some.ensures.current s.history.exponent s.history.items c.self.invariant.3) row sound in
    subst (λ (x : StoreView g.row.D.Denot). HoldsRows (database_in x.head.mdb x.history) (arc_value c.in_ok-set.set) (rows_of_interval x.exponent i x.history)) c.self.view_is
    (subst (λ (set : List SetRow). HoldsRows (database_in s.head.mdb s.history.items) set (rows_of_interval s.history.exponent i s.history.items)) (sym c.in_ok-set.ensures) holds)
