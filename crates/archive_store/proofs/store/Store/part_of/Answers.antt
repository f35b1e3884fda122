use Rattle.std.proofs.Common.{◌≡◌, ◌⊎◌, None, inl, refl, subst}
use Rattle.std.specs.Prelude.{IfNone, IfSome}
use Rattle.std.specs.Arc.{arc_value}
use Rattle.history_items.specs.Late.{IsLate}
use Rattle.store_fills.specs.LastFills.{fillings_in}
use Rattle.archive_store.specs.CurrentSets.{IsCurrentSet}
use Rattle.archive_store.specs.UnreadRows.{IsReadFault}
use Rattle.archive_store.proofs.Calls.{passed_on}
use Rattle.archive_store.proofs.CurrentSets.{last_row, late_or_never_filled}
use Rattle.archive_store.proofs.UnreadRows.{left_by_read, left_passed_on, memory_unread}
use Rattle.archive_store.proofs.store.Store.part_of.Goals as goal

-- ---- there was no memory for the set

pub returns-in_err-set-clause-refused : goal.returns-in_err-set-clause-refused
returns-in_err-set-clause-refused g c = memory_unread g.D.Disk.device c.args.self.now c.args.self.now c.from_residual.result c.from_residual.ensures.1

pub returns-in_err-set-clause-same : goal.returns-in_err-set-clause-same
returns-in_err-set-clause-same g c =
    let s = c.args.self.now in
    let r = c.from_residual.result in
    left_by_read g.D.Disk.device s s r (memory_unread g.D.Disk.device s s r c.from_residual.ensures.1) refl

-- ---- rows are read

pub returns-in_err-rows-clause-refused : goal.returns-in_err-rows-clause-refused
returns-in_err-rows-clause-refused g c =
    passed_on c.from_residual-in_err-rows.result c.in_err-rows.field-0.0 (IsReadFault g.D.Disk.device c.args.self.now c.interval_rows.new.self) c.from_residual-in_err-rows.ensures.1 c.in_err-rows.ensures.refused

pub returns-in_err-rows-clause-same : goal.returns-in_err-rows-clause-same
returns-in_err-rows-clause-same g c =
    let device = g.D.Disk.device in
    let old = c.args.self.now in
    let new = c.interval_rows.new.self in
    left_passed_on device old new c.from_residual-in_err-rows.result c.in_err-rows.field-0.0 c.from_residual-in_err-rows.ensures.1 c.in_err-rows.ensures.same

pub returns-in_default-clause-part : goal.returns-in_default-clause-part
returns-in_default-clause-part g c =
    let s = c.args.self.now in
    let i = c.args.interval in
    let row = last_row s.exponent s.history i c.requires in
    let none = subst (λ o. IfNone o (IsLate s.exponent i s.history s.fills ⊎ (fillings_in s.filled i ≡ None))) c.in_default.is c.in_ok-set.ensures.none in
    let late = late_or_never_filled s.exponent s.history s.fills s.filled i c.is_kept.ensures.bases row none in
    (late, c.in_ok-rows.ensures.archived, c.in_ok-rows.ensures.rows)

pub returns-in_default-clause-same : goal.returns-in_default-clause-same
returns-in_default-clause-same g c = c.in_ok-rows.ensures.same

-- ---- its set stands

pub returns-clause-part : goal.returns-clause-part
returns-clause-part g c = subst (λ o. IfSome o (λ set. IsCurrentSet c.args.self.now c.args.interval (arc_value set))) c.in-Some.is c.in_ok-set.ensures.some

pub returns-clause-same : goal.returns-clause-same
returns-clause-same g c = inl refl
