use Rattle.std.proofs.Common.{◌≡◌, ◌<◌, inl, length, Some, get_or, pos, refl, sym, subst}
use Rattle.std.specs.Prelude.{slice_get, IfNone, IfSome, IsSome}
use Rattle.std.specs.List.{AllByRecursion}
use Rattle.std.proofs.lemmas.List.{take_all}
use Rattle.std.proofs.lemmas.List.Elements.{All-from_recursion}
use Rattle.history_items.specs.Late.{last_in}
use Rattle.std.proofs.lemmas.Option.{slice_get-get_or}
use Rattle.arch_disk.specs.Disk.{Device}
use Rattle.intervals.specs.declared.interval.Interval.{Interval}
use Rattle.refusals.specs.Refusal.{refusal_of_rows}
use Rattle.archive_store.specs.Pages.{TellsRows}
use Rattle.archive_store.specs.StoreView.{StoreView, filled_of}
use Rattle.archive_store.specs.UnreadRows.{IsReadFault, ReadsRows}
use Rattle.archive_store.proofs.Calls.{passed_on}
use Rattle.archive_store.proofs.ReadOn.{fault_after, left_after, reads_but_disk, reads_more, reads_on, told_after}
use Rattle.archive_store.proofs.UnreadRows.{left_passed_on}
use Rattle.archive_verify.specs.Verified.{HoldsWhereCurrent, IsIntervalMismatch, database_of_archive}
use Rattle.archive_verify.proofs.Currents.{holds_before, holds_more}
use Rattle.archive_verify.proofs.verified.first_difference_among.Goals as goal

-- what a store tells that was read it told before
told_then : {D : Type 0} (device : Device D) (old mid : StoreView D) → ReadsRows device old mid → TellsRows device old → TellsRows device mid
told_then device old mid reads = told_after device old mid (reads_on device old mid reads)

pub loop-interval-init : goal.loop-interval-init
loop-interval-init g c = record { read = inl refl; held = λ tells. tt }

pub interval_difference-requires : goal.interval_difference-requires
interval_difference-requires g c =
    let store = c.args.store.now in
    let n = c.loop-interval.interval-index in
    let none : Interval = record { 0 = pos 0 } in
    subst (λ (s : StoreView g.row.D.Denot). IsSome (last_in s.exponent (get_or c.args.intervals.now n none) s.history)) (sym (reads_but_disk g.D.Disk.device store c.loop-interval.store c.loop-interval.invariant.read))
    (All-from_recursion (λ i. IsSome (last_in store.exponent i store.history)) c.args.intervals.now c.requires.rows n none c.loop-interval-test.true)

pub loop-interval-preserved : goal.loop-interval-preserved
loop-interval-preserved g c =
    let device = g.D.Disk.device in
    let old = c.args.store.now in
    let mid = c.loop-interval.store in
    let inv = c.loop-interval.invariant in
    let filled = filled_of old in
    let is = c.args.intervals.now in
    let n = c.loop-interval.interval-index in
    let none : Interval = record { 0 = pos 0 } in
    let x = get_or is n none in
    let at : slice_get is n ≡ Some x = slice_get-get_or is n none c.loop-interval-test.true in
    record {
      read = reads_more device old mid c.interval_difference.new.store inv.read c.in_ok-sets.ensures.same;
      held = λ tells.
          (let here = subst (λ o. IfNone o (HoldsWhereCurrent (filled_of mid) x)) c.in_default.is (c.in_ok-sets.ensures.none (told_then device old mid inv.read tells)) in
          holds_more (HoldsWhereCurrent filled) n is x at (inv.held tells) (subst (λ (s : StoreView g.row.D.Denot). HoldsWhereCurrent (filled_of s) x) (reads_but_disk device old mid inv.read) here));
    }

pub returns-in-Some-clause-some : goal.returns-in-Some-clause-some
returns-in-Some-clause-some g c = λ tells.
    let device = g.D.Disk.device in
    let old = c.args.store.now in
    let mid = c.loop-interval.store in
    let inv = c.loop-interval.invariant in
    let filled = filled_of old in
    let is = c.args.intervals.now in
    let n = c.loop-interval.interval-index in
    let none : Interval = record { 0 = pos 0 } in
    let x = get_or is n none in
    let at : slice_get is n ≡ Some x = slice_get-get_or is n none c.loop-interval-test.true in
    let found = subst (λ o. IfSome o (IsIntervalMismatch (filled_of mid) x)) c.in-Some.is (c.in_ok-sets.ensures.some (told_then device old mid inv.read tells)) in (
      subst (λ (s : StoreView g.row.D.Denot). IsIntervalMismatch (filled_of s) x c.in-Some.sets) (reads_but_disk device old mid inv.read) found,
      λ other there less. holds_before (HoldsWhereCurrent filled) n is x c.requires.rising at (inv.held tells) other there less,
    )

pub returns-in-Some-clause-known : goal.returns-in-Some-clause-known
returns-in-Some-clause-known g c =
    let old = c.args.store.now in
    let mid = c.loop-interval.store in
    let known = subst (λ o. IfSome o (λ d. d.parameter < length (database_of_archive (filled_of mid)).parameters)) c.in-Some.is c.in_ok-sets.ensures.known in
    subst (λ (s : StoreView g.row.D.Denot). c.in-Some.sets.parameter < length (database_of_archive (filled_of s)).parameters) (reads_but_disk g.D.Disk.device old mid c.loop-interval.invariant.read) known

pub returns-in-Some-clause-same : goal.returns-in-Some-clause-same
returns-in-Some-clause-same g c =
    reads_more g.D.Disk.device c.args.store.now c.loop-interval.store c.interval_difference.new.store c.loop-interval.invariant.read c.in_ok-sets.ensures.same

pub returns-in_err-sets-clause-refused : goal.returns-in_err-sets-clause-refused
returns-in_err-sets-clause-refused g c =
    let device = g.D.Disk.device in
    let old = c.args.store.now in
    let new = c.interval_difference.new.store in
    let fault = c.in_err-sets.field-0.0 in
    passed_on c.from_residual.result fault (IsReadFault device old new) c.from_residual.ensures.1
    (fault_after device old c.loop-interval.store new c.loop-interval.invariant.read fault c.in_err-sets.ensures.refused)

pub returns-in_err-sets-clause-same : goal.returns-in_err-sets-clause-same
returns-in_err-sets-clause-same g c =
    let device = g.D.Disk.device in
    let old = c.args.store.now in
    let new = c.interval_difference.new.store in
    let fault = c.in_err-sets.field-0.0 in
    left_passed_on device old new c.from_residual.result fault c.from_residual.ensures.1
    (left_after device old c.loop-interval.store new c.loop-interval.invariant.read (refusal_of_rows fault) c.in_err-sets.ensures.same)

pub returns-clause-none : goal.returns-clause-none
returns-clause-none g c = λ tells.
    subst (AllByRecursion (HoldsWhereCurrent (filled_of c.args.store.now))) (take_all c.loop-interval.interval-index c.args.intervals.now c.loop-interval-test.false) (c.loop-interval.invariant.held tells)

pub returns-clause-same : goal.returns-clause-same
returns-clause-same g c = c.loop-interval.invariant.read
