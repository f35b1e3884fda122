use Rattle.std.proofs.Common.{◌≡◌, ◌∙◌, List, refl, sym, subst}
use Rattle.std.specs.Prelude.{IsSome}
use Rattle.std.specs.List.{AllByRecursion}
use Rattle.intervals.specs.declared.interval.Interval.{Interval}
use Rattle.history_items.specs.Late.{last_in}
use Rattle.interval_walks.specs.Turns.{CoverRange, IntervalsRise}
use Rattle.archive_store.specs.Plans.{IsRangeInterval, plan_intervals}
use Rattle.archive_store.specs.UnreadRows.{IsReadFault}
use Rattle.archive_store.proofs.Calls.{passed_on}
use Rattle.archive_store.proofs.Planning.{asked_have_rows, few_left, plan_archived, planned_over}
use Rattle.archive_store.proofs.UnreadRows.{left_by_read, left_passed_on, memory_unread}
use Rattle.archive_store.proofs.store.Store.planned.Goals as goal

pub parts_of-requires : goal.parts_of-requires
parts_of-requires g c =
    let store = c.args.self.now in
    let request = c.args.request.now in
    subst (AllByRecursion (λ i. IsSome (last_in store.exponent i store.history))) (sym c.as_slice.ensures.value)
    (asked_have_rows store.exponent store.history request.from request.to c.in_ok-intervals.intervals.items c.in_ok-intervals.ensures.meets)

pub returns-in_err-intervals-clause-refused : goal.returns-in_err-intervals-clause-refused
returns-in_err-intervals-clause-refused g c = memory_unread g.D.Disk.device c.args.self.now c.args.self.now c.from_residual.result c.from_residual.ensures.1

pub returns-in_err-intervals-clause-same : goal.returns-in_err-intervals-clause-same
returns-in_err-intervals-clause-same g c =
    let s = c.args.self.now in
    let r = c.from_residual.result in
    left_by_read g.D.Disk.device s s r (memory_unread g.D.Disk.device s s r c.from_residual.ensures.1) refl

pub returns-in_err-parts-clause-refused : goal.returns-in_err-parts-clause-refused
returns-in_err-parts-clause-refused g c =
    passed_on c.from_residual-in_err-parts.result c.in_err-parts.field-0.0 (IsReadFault g.D.Disk.device c.args.self.now c.parts_of.new.self) c.from_residual-in_err-parts.ensures.1 c.in_err-parts.ensures.refused

pub returns-in_err-parts-clause-same : goal.returns-in_err-parts-clause-same
returns-in_err-parts-clause-same g c =
    let device = g.D.Disk.device in
    let old = c.args.self.now in
    let new = c.parts_of.new.self in
    left_passed_on device old new c.from_residual-in_err-parts.result c.in_err-parts.field-0.0 c.from_residual-in_err-parts.ensures.1 c.in_err-parts.ensures.same

pub returns-clause-planned : goal.returns-clause-planned
returns-clause-planned g c =
    let device = g.D.Disk.device in
    let store = c.args.self.now in
    let request = c.args.request.now in
    let parts = c.in_ok-parts.parts in
    let asked = c.in_ok-intervals.ensures in
    let same : plan_intervals parts ≡ c.in_ok-intervals.intervals.items = c.in_ok-parts.ensures.intervals ∙ c.as_slice.ensures.value in
    record {
      front = c.front-front.ensures;
      mdb = c.requires;
      exponent = c.exponent-exponent.ensures;
      each = c.in_ok-parts.ensures.each;
      rising = subst IntervalsRise (sym same) asked.rising;
      meets = subst (AllByRecursion (IsRangeInterval store.exponent store.history request.from request.to)) (sym same) asked.meets;
      cover = λ less. subst (λ (l : List Interval). CoverRange store.exponent l request.from request.to store.history) (sym same) (asked.cover less);
      archived = plan_archived device store parts c.in_ok-parts.ensures.each;
    }

pub returns-clause-steps : goal.returns-clause-steps
returns-clause-steps g c told =
    let request = c.args.request.now in
    few_left g.D.Disk.device c.args.self.now request.from request.to told _ (returns-clause-planned g c)

pub returns-clause-over : goal.returns-clause-over
returns-clause-over g c transparent image =
    let request = c.args.request.now in
    planned_over g.D.Disk.device c.args.self.now request.from request.to _ (λ paged. transparent) c.is_kept.ensures.bases (c.is_kept.ensures.sound transparent image) (returns-clause-planned g c)

pub returns-clause-same : goal.returns-clause-same
returns-clause-same g c = c.in_ok-parts.ensures.same
