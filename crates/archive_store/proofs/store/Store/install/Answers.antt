use Rattle.std.proofs.Common.{◌≡◌, ◌⊎◌, ◌≤◌, ◌<◌, ℕ, Some, None, refl, sym, ◌∙◌, ap, subst, arith, true≢false}
use Rattle.arch_disk.specs.Disk.{LeavesOnly}
use Rattle.intervals.specs.declared.interval.Interval.{Interval}
use Rattle.history_items.specs.Fills.{pending_fault_of}
use Rattle.history_items.specs.Late.{last_in}
use Rattle.interval_fills.specs.Intervals.{NoneSince}
use Rattle.archive_store.specs.Installs.{IsAbandoned, IsInstallable, filled_with}
use Rattle.archive_images.specs.Stands.{StandsFilled}
use Rattle.archive_store.specs.StoreView.{StoreView, filled_of}
use Rattle.archive_store.specs.Tasks.{machine_state}
use Rattle.archive_store.proofs.Installs.{at_done, counts_on, counts_same, goes_given_up, goes_on, install_refused, same_disk}
use Rattle.archive_store.proofs.KeptFills.{unharmed}
use Rattle.archive_store.proofs.store.Store.install.Given.{Over}
use Rattle.archive_store.proofs.store.Store.install.Goals.{In_default, Else-is_full}
use Rattle.archive_store.proofs.store.Store.install.Goals as goal

-- below a limit that isn't reached
below_limit : (limit records : ℕ) → (limit ≤ records → ⊥) → records < limit
below_limit limit records few = omega (arith, few)

-- nothing changed the interval since the fill's base
none_since : (g : Over) (c : In_default g) → NoneSince c.args.self.now.exponent c.args.done.interval c.args.done.base c.args.self.now.history
none_since g c = at_done c.args.done c.interval-interval.result c.base-base.result c.interval-interval.ensures c.base-base.ensures (λ j n. NoneSince c.args.self.now.exponent j n c.args.self.now.history) c.in_default.ensures.none

-- and one record more may come
able : (g : Over) (c : Else-is_full g) → IsInstallable c.args.self.now
able g c = record {
  healed = subst (λ (x : StoreView g.row.D.Denot). pending_fault_of x.fills ≡ None) c.self.view_is (sym c.self.invariant.0.pending_fault_is ∙ c.in-None.is);
  below = below_limit _ _ (λ full. true≢false (sym (c.is_full.ensures.1 full) ∙ c.if-is_full.false));
}

pub append_fill-requires-clause-none : goal.append_fill-requires-clause-none
append_fill-requires-clause-none g c = none_since g (goal.at.append_fill-requires-clause-none g c).In_default

-- ---- a failed write is pending

pub returns-in-Some-clause-refused : goal.returns-in-Some-clause-refused
returns-in-Some-clause-refused g c = (
  subst (λ (x : StoreView g.row.D.Denot). pending_fault_of x.fills ≡ Some c.in-Some.faults) c.self.view_is (sym c.self.invariant.0.pending_fault_is ∙ c.in-Some.is),
  subst (λ (j : Interval). IsAbandoned c.args.self.now c.give_up.new.self j) c.interval-interval.ensures c.give_up.ensures,
)

pub returns-in-Some-clause-crash : goal.returns-in-Some-clause-crash
returns-in-Some-clause-crash g c no_failed_write transparent =
    let device = g.D.Disk.device in
    let s = c.self.inside in
    let now = c.args.self.now in
    let new = c.give_up.new.self in
    unharmed device s.disk s.opened.value s.journal s.head s.history.exponent s.history.items s.tracker.fills s.sets.filled s.pending_fault c.self.invariant.0 now c.self.view_is (λ x. filled_with x c.args.done) new.disk (same_disk now new c.interval-interval.result c.give_up.ensures) no_failed_write transparent

pub returns-in-Some-clause-grows : goal.returns-in-Some-clause-grows
returns-in-Some-clause-grows g c = goes_given_up c.args.self.now c.give_up.new.self c.interval-interval.result c.give_up.ensures

pub returns-in-Some-clause-counts : goal.returns-in-Some-clause-counts
returns-in-Some-clause-counts g c = counts_same g.D.Disk.device c.args.self.now c.give_up.new.self c.interval-interval.result c.give_up.ensures

-- ---- the interval changed

pub returns-in-Some-later_change-clause-installed : goal.returns-in-Some-later_change-clause-installed
returns-in-Some-later_change-clause-installed g c =
    let now = c.args.self.now in
    let done = c.args.done in
    let healed : pending_fault_of now.fills ≡ None = subst (λ (x : StoreView g.row.D.Denot). pending_fault_of x.fills ≡ None) c.self.view_is (sym c.self.invariant.0.pending_fault_is ∙ c.in-None.is) in
    let up : IsAbandoned now c.give_up-in-Some-later_change.new.self done.interval = subst (λ (j : Interval). IsAbandoned now c.give_up-in-Some-later_change.new.self j) c.interval-interval.ensures c.give_up-in-Some-later_change.ensures in
    let position = c.in-Some-later_change.position in
    let later = at_done done c.interval-interval.result c.base-base.result c.interval-interval.ensures c.base-base.ensures (λ j n. (n ≤ position) × (last_in now.exponent j now.history ≡ Some position)) c.in-Some-later_change.ensures.later in
    (healed, (later.0, later.1, ap machine_state up), up)

pub returns-in-Some-later_change-clause-crash : goal.returns-in-Some-later_change-clause-crash
returns-in-Some-later_change-clause-crash g c no_failed_write transparent =
    let device = g.D.Disk.device in
    let s = c.self.inside in
    let now = c.args.self.now in
    let new = c.give_up-in-Some-later_change.new.self in
    unharmed device s.disk s.opened.value s.journal s.head s.history.exponent s.history.items s.tracker.fills s.sets.filled s.pending_fault c.self.invariant.0 now c.self.view_is (λ x. filled_with x c.args.done) new.disk (same_disk now new c.interval-interval.result c.give_up-in-Some-later_change.ensures) no_failed_write transparent

pub returns-in-Some-later_change-clause-grows : goal.returns-in-Some-later_change-clause-grows
returns-in-Some-later_change-clause-grows g c = goes_given_up c.args.self.now c.give_up-in-Some-later_change.new.self c.interval-interval.result c.give_up-in-Some-later_change.ensures

pub returns-in-Some-later_change-clause-counts : goal.returns-in-Some-later_change-clause-counts
returns-in-Some-later_change-clause-counts g c = counts_same g.D.Disk.device c.args.self.now c.give_up-in-Some-later_change.new.self c.interval-interval.result c.give_up-in-Some-later_change.ensures

-- ---- the limit of records

pub returns-then-is_full-clause-refused : goal.returns-then-is_full-clause-refused
returns-then-is_full-clause-refused g c = (
  subst (λ (x : StoreView g.row.D.Denot). pending_fault_of x.fills ≡ None) c.self.view_is (sym c.self.invariant.0.pending_fault_is ∙ c.in-None.is),
  none_since g (goal.at.returns-then-is_full-clause-refused g c).In_default,
  refl,
  c.limit.ensures,
  c.is_full.ensures.0 c.if-is_full.true,
  subst (λ (j : Interval). IsAbandoned c.args.self.now c.give_up-then-is_full.new.self j) c.interval-interval.ensures c.give_up-then-is_full.ensures,
)

pub returns-then-is_full-clause-crash : goal.returns-then-is_full-clause-crash
returns-then-is_full-clause-crash g c no_failed_write transparent =
    let device = g.D.Disk.device in
    let s = c.self.inside in
    let now = c.args.self.now in
    let new = c.give_up-then-is_full.new.self in
    unharmed device s.disk s.opened.value s.journal s.head s.history.exponent s.history.items s.tracker.fills s.sets.filled s.pending_fault c.self.invariant.0 now c.self.view_is (λ x. filled_with x c.args.done) new.disk (same_disk now new c.interval-interval.result c.give_up-then-is_full.ensures) no_failed_write transparent

pub returns-then-is_full-clause-grows : goal.returns-then-is_full-clause-grows
returns-then-is_full-clause-grows g c = goes_given_up c.args.self.now c.give_up-then-is_full.new.self c.interval-interval.result c.give_up-then-is_full.ensures

pub returns-then-is_full-clause-counts : goal.returns-then-is_full-clause-counts
returns-then-is_full-clause-counts g c = counts_same g.D.Disk.device c.args.self.now c.give_up-then-is_full.new.self c.interval-interval.result c.give_up-then-is_full.ensures

-- ---- it is there

pub returns-in-Ok-clause-installed : goal.returns-in-Ok-clause-installed
returns-in-Ok-clause-installed g c = (able g (goal.at.returns-in-Ok-clause-installed g c).Else-is_full, c.in-Ok.ensures.appended)

-- ---- it could not be written, or may not stand

pub returns-in-Err-clause-refused : goal.returns-in-Err-clause-refused
returns-in-Err-clause-refused g c =
    let at = goal.at.returns-in-Err-clause-refused g c in
    install_refused g.D.Disk.device c.args.self.now c.append_fill.new.self c.give_up-in-Err.new.self c.args.done c.in-Err.refusal (able g at.Else-is_full) (none_since g at.In_default) c.in-Err.ensures.refused
    (subst (λ (j : Interval). IsAbandoned c.append_fill.new.self c.give_up-in-Err.new.self j) c.interval-interval.ensures c.give_up-in-Err.ensures)

pub returns-in-Err-clause-crash : goal.returns-in-Err-clause-crash
returns-in-Err-clause-crash g c no_failed_write transparent =
    let now = c.args.self.now in
    let done = c.args.done in
    subst (λ d. LeavesOnly g.D.Disk.device now.disk d (λ i. StandsFilled i (filled_of now) ⊎ StandsFilled i (filled_with now done))) (same_disk c.append_fill.new.self c.give_up-in-Err.new.self c.interval-interval.result c.give_up-in-Err.ensures)
    (c.append_fill.ensures.crash transparent)

pub returns-in-Err-clause-grows : goal.returns-in-Err-clause-grows
returns-in-Err-clause-grows g c =
    goes_on c.args.self.now c.append_fill.new.self c.give_up-in-Err.new.self c.append_fill.ensures.grows (goes_given_up c.append_fill.new.self c.give_up-in-Err.new.self c.interval-interval.result c.give_up-in-Err.ensures)

pub returns-in-Err-clause-counts : goal.returns-in-Err-clause-counts
returns-in-Err-clause-counts g c = counts_on g.D.Disk.device c.args.self.now c.append_fill.new.self c.give_up-in-Err.new.self c.interval-interval.result c.append_fill.ensures.counts c.give_up-in-Err.ensures
