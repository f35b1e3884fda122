use Rattle.std.proofs.Common.{◌≡◌, ◌∙◌, ◌<◌, inl, inr, length, List, Result, Ok, Err, IfErr, refl, sym, ap, subst}
use Rattle.std.specs.Prelude.{IfNone, IfSome, IsErrAnd, filter}
use Rattle.std.specs.List.{AllByRecursion}
use Rattle.arch_disk.specs.Disk.{Device}
use Rattle.arch_types.specs.declared.row_fault.RowFault.TheVariants as unread
use Rattle.intervals.specs.declared.interval.Interval.{Interval}
use Rattle.history_items.specs.Late.{is_late_in}
use Rattle.mdb_items.specs.Database.{Database}
use Rattle.refusals.specs.declared.refusal.Refusal.{Refusal}
use Rattle.refusals.specs.declared.refusal.Refusal.TheVariants.{Mismatch, OutOfMemory}
use Rattle.refusals.specs.Refusal.{refusal_of_rows}
use Rattle.archive_store.specs.StoreView.{StoreView, filled_of}
use Rattle.archive_store.specs.UnreadRows.{IsLeftByAnswer, IsLeftByRefusal, ReadsRows}
use Rattle.archive_store.proofs.Calls.{passed_on}
use Rattle.archive_store.proofs.ReadOn.{reads_but_disk}
use Rattle.archive_store.proofs.UnreadRows.{left_by_memory}
use Rattle.archive_verify.specs.declared.compared_sets.SetDifference.{SetDifference}
use Rattle.archive_verify.specs.Verified.{HoldBelow, HoldsWhereCurrent, IsIntervalMismatch, IsMismatch, IsMismatchOf, IsVerifyRefusal, database_of_archive}
use Rattle.archive_verify.proofs.Counting.{as_many_intervals, as_many_passed}
use Rattle.archive_verify.proofs.Currents.{all_held, named_refusal}
use Rattle.archive_verify.proofs.verified.verify.Goals as goal

-- memory that is wanting is why rows aren't read
wanting : {D X : Type 0} (device : Device D) (old new : StoreView D) (r : Result X Refusal) → IsErrAnd r (λ e. e ≡ OutOfMemory) → IfErr r (IsVerifyRefusal device old new)
wanting device old new (Ok x) is = tt
wanting device old new (Err e) is = inr (unread.OutOfMemory, tt, is)

-- what is left where rows aren't read, of the refusal that is handed on
unread_left : {D X : Type 0} (device : Device D) (old new : StoreView D) (r : Result X Refusal) (refusal : Refusal) → IsErrAnd r (λ e. e ≡ refusal) → IsLeftByRefusal device old new refusal → IsLeftByAnswer device old new r
unread_left device old new (Ok x) refusal is left = absurd is
unread_left device old new (Err e) refusal is left = subst (IsLeftByRefusal device old new) (sym is) left

-- a mismatch is one,
a_mismatch : (db : Database) (interval : Interval) (d : SetDifference) (refusal : Refusal) → IsMismatchOf db interval d refusal → IsMismatch refusal
a_mismatch db interval d (Mismatch i name key stored replayed) is = tt
a_mismatch db interval d other is = absurd is

-- and so no failed read
mismatch_left : {D : Type 0} (device : Device D) (old new : StoreView D) (refusal : Refusal) → IsMismatch refusal → ReadsRows device old new → IsLeftByRefusal device old new refusal
mismatch_left device old new (Mismatch i name key stored replayed) is left = left
mismatch_left device old new other is left = absurd is

pub returns-in_err-intervals-clause-refused : goal.returns-in_err-intervals-clause-refused
returns-in_err-intervals-clause-refused g c = wanting g.D.Disk.device c.args.store.now c.args.store.now c.from_residual.result c.from_residual.ensures.1

pub returns-in_err-difference-clause-refused : goal.returns-in_err-difference-clause-refused
returns-in_err-difference-clause-refused g c =
    let device = g.D.Disk.device in
    let old = c.args.store.now in
    let new = c.first_difference_among.new.store in
    let fault = c.in_err-difference.field-0.0 in
    passed_on c.from_residual-in_err-difference.result (refusal_of_rows fault) (IsVerifyRefusal device old new) c.from_residual-in_err-difference.ensures.1 (inr (fault, c.in_err-difference.ensures.refused, refl))

pub returns-in_err-mismatch_of-clause-refused : goal.returns-in_err-mismatch_of-clause-refused
returns-in_err-mismatch_of-clause-refused g c = wanting g.D.Disk.device c.args.store.now c.first_difference_among.new.store c.from_residual-in_err-mismatch_of.result c.from_residual-in_err-mismatch_of.ensures.1

pub returns-clause-sound : goal.returns-clause-sound
returns-clause-sound g c = λ tells.
    let store = c.args.store.now in
    let is = c.in_ok-intervals.intervals.items in
    let all = subst (λ o. IfNone o (AllByRecursion (HoldsWhereCurrent (filled_of store)) c.as_slice.result.now)) c.in_default.is (c.in_ok-difference.ensures.none tells) in
    all_held store is c.in_ok-intervals.ensures.filled (subst (AllByRecursion (HoldsWhereCurrent (filled_of store))) c.as_slice.ensures.value all)

pub returns-clause-counted : goal.returns-clause-counted
returns-clause-counted g c =
    let store = c.args.store.now in
    let is = c.in_ok-intervals.intervals.items in
    let e = c.in_ok-intervals.ensures in
    let late = λ (i : Interval). is_late_in store.exponent i store.history store.fills in
    record {
      rows = c.row_count-rows.ensures;
      intervals = c.len.ensures ∙ c.in_ok-intervals.intervals.ok.0 ∙ as_many_intervals store.exponent store.history is e.rising e.rows e.cover;
      late = c.late_among.ensures ∙ ap (λ (x : StoreView g.row.D.Denot). length (filter (λ (i : Interval). is_late_in x.exponent i x.history x.fills) c.as_slice-2.result.now)) (reads_but_disk g.D.Disk.device store c.first_difference_among.new.store c.in_ok-difference.ensures.same) ∙ ap (λ (l : List Interval). length (filter late l)) c.as_slice-2.ensures.value ∙ as_many_passed store.exponent store.history is e.rising e.rows e.cover late;
    }

-- its parameter is one of the database's
pub mismatch_of-requires : goal.mismatch_of-requires
mismatch_of-requires g c =
    let store = c.args.store.now in
    let d = c.in-Some.difference in
    let known = subst (λ o. IfSome o (λ x. x.sets.parameter < length (database_of_archive (filled_of store)).parameters)) c.in-Some.is c.in_ok-difference.ensures.known in
    subst (λ (db : Database). d.sets.parameter < length db.parameters)
    (sym (c.mdb.ensures ∙ ap (λ (x : StoreView g.row.D.Denot). database_of_archive (filled_of x)) (reads_but_disk g.D.Disk.device store c.first_difference_among.new.store c.in_ok-difference.ensures.same))) known

pub returns-in-Some-clause-refused : goal.returns-in-Some-clause-refused
returns-in-Some-clause-refused g c =
    let store = c.args.store.now in
    let is = c.in_ok-intervals.intervals.items in
    let d = c.in-Some.difference in
    inl (
      a_mismatch c.mdb.result.now d.interval d.sets c.in_ok-mismatch_of.field-0 c.in_ok-mismatch_of.ensures,
      λ tells.
          (let found = subst (λ o. IfSome o (λ x. IsIntervalMismatch (filled_of store) x.interval x.sets × HoldBelow (filled_of store) c.as_slice.result.now x.interval)) c.in-Some.is (c.in_ok-difference.ensures.some tells) in
          named_refusal store is d.interval d.sets c.in_ok-mismatch_of.field-0 c.in_ok-intervals.ensures.filled found.0 (subst (λ (l : List Interval). HoldBelow (filled_of store) l d.interval) c.as_slice.ensures.value found.1)
          (subst (λ (db : Database). IsMismatchOf db d.interval d.sets c.in_ok-mismatch_of.field-0)
          (c.mdb.ensures ∙ ap (λ (x : StoreView g.row.D.Denot). database_of_archive (filled_of x)) (reads_but_disk g.D.Disk.device store c.first_difference_among.new.store c.in_ok-difference.ensures.same)) c.in_ok-mismatch_of.ensures)),
    )

-- ---- what it leaves

pub returns-in_err-intervals-clause-same : goal.returns-in_err-intervals-clause-same
returns-in_err-intervals-clause-same g c = left_by_memory g.D.Disk.device c.args.store.now c.args.store.now c.from_residual.result c.from_residual.ensures.1 refl

pub returns-in_err-difference-clause-same : goal.returns-in_err-difference-clause-same
returns-in_err-difference-clause-same g c =
    unread_left g.D.Disk.device c.args.store.now c.first_difference_among.new.store c.from_residual-in_err-difference.result (refusal_of_rows c.in_err-difference.field-0.0) c.from_residual-in_err-difference.ensures.1 c.in_err-difference.ensures.same

pub returns-in_err-mismatch_of-clause-same : goal.returns-in_err-mismatch_of-clause-same
returns-in_err-mismatch_of-clause-same g c =
    unread_left g.D.Disk.device c.args.store.now c.first_difference_among.new.store c.from_residual-in_err-mismatch_of.result OutOfMemory c.from_residual-in_err-mismatch_of.ensures.1 c.in_ok-difference.ensures.same

pub returns-in-Some-clause-same : goal.returns-in-Some-clause-same
returns-in-Some-clause-same g c =
    let d = c.in-Some.difference in
    mismatch_left g.D.Disk.device c.args.store.now c.first_difference_among.new.store c.in_ok-mismatch_of.field-0
    (a_mismatch c.mdb.result.now d.interval d.sets c.in_ok-mismatch_of.field-0 c.in_ok-mismatch_of.ensures) c.in_ok-difference.ensures.same

pub returns-clause-same : goal.returns-clause-same
returns-clause-same g c = c.in_ok-difference.ensures.same
