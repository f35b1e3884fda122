use Rattle.std.proofs.Common.{rules, ◌≡◌, ◌<ℤ◌, ℕ, List, true, sym, subst, arith, w64, FitsSigned}
use Rattle.std.specs.Prelude.{IfOk}
use Rattle.std.specs.Global.{Vec}
use Rattle.std.specs.List.{AllByRecursion}
use Rattle.std.proofs.lemmas.Int.{ints, to_z-of_z}
use Rattle.archive_history.proofs.Steps.{if_ok, if_ok_both}
use Rattle.intervals.specs.declared.interval.Interval.{Interval}
use Rattle.fill_tracker.specs.FillTracker.{AreMarksOf}
use Rattle.history_items.specs.declared.items.Item.{Item}
use Rattle.interval_walks.specs.Turns.{CoverRange, IntervalsRise, MeetsRange}
use Rattle.late_marks.specs.Marks.{has_rows}
use Rattle.archive_store.specs.Plans.{IsRangeInterval}
use Rattle.archive_store.specs.StoreView.{StoreView}
use Rattle.archive_store.proofs.Planning.{all_asked}
use Rattle.archive_store.proofs.store.Store.range_intervals.Goals as goal

pub intervals_meeting-requires : goal.intervals_meeting-requires
intervals_meeting-requires g c =
    let request = c.args.request.now in
    let low : FitsSigned w64 request.from = search rules in
    let high : FitsSigned w64 request.to = search rules in
    rw (to_z-of_z w64 request.from low, to_z-of_z w64 request.to high) (omega (arith, ints, c.if-request.false))

pub returns-clause-meets : goal.returns-clause-meets
returns-clause-meets g c =
    let s = c.self.inside in
    let request = c.args.request.now in
    let from = request.from in
    let to = request.to in
    let low : FitsSigned w64 from = search rules in
    let high : FitsSigned w64 to = search rules in
    let format = c.exponent.ensures in
    let told = rw (to_z-of_z w64 from low, to_z-of_z w64 to high) at c.intervals_meeting.ensures.meets in
    let meets = subst (λ (e : ℕ). IfOk c.intervals_meeting.result (λ v. AllByRecursion (MeetsRange e from to) v.items)) format told in
    subst (λ (x : StoreView g.row.D.Denot). IfOk c.intervals_meeting.result (λ intervals. AllByRecursion (IsRangeInterval x.exponent x.history from to) intervals.items)) c.self.view_is
    (if_ok_both c.intervals_meeting.result (λ (v : Vec Interval). AllByRecursion (MeetsRange s.history.exponent from to) v.items) (λ (v : Vec Interval). AllByRecursion (λ i. has_rows s.tracker.marks i ≡ true) v.items)
    (λ (v : Vec Interval). AllByRecursion (IsRangeInterval s.history.exponent s.history.items from to) v.items)
    (λ v meet marked. all_asked s.history.exponent s.tracker.marks s.tracker.fills s.history.items from to v.items c.self.invariant.3 meet marked) meets c.intervals_meeting.ensures.rows)

pub returns-clause-cover : goal.returns-clause-cover
returns-clause-cover g c =
    let s = c.self.inside in
    let request = c.args.request.now in
    let from = request.from in
    let to = request.to in
    let low : FitsSigned w64 from = search rules in
    let high : FitsSigned w64 to = search rules in
    let format = c.exponent.ensures in
    let told = rw (to_z-of_z w64 from low, to_z-of_z w64 to high) at c.intervals_meeting.ensures.cover in
    let cover = subst (λ (e : ℕ). IfOk c.intervals_meeting.result (λ v. (history : List Item) → AreMarksOf e history s.tracker.fills s.tracker.marks → CoverRange e v.items from to history)) format told in
    subst (λ (x : StoreView g.row.D.Denot). IfOk c.intervals_meeting.result (λ intervals. from <ℤ to → CoverRange x.exponent intervals.items from to x.history)) c.self.view_is
    (if_ok c.intervals_meeting.result (λ (v : Vec Interval). (history : List Item) → AreMarksOf s.history.exponent history s.tracker.fills s.tracker.marks → CoverRange s.history.exponent v.items from to history)
    (λ (v : Vec Interval). from <ℤ to → CoverRange s.history.exponent v.items from to s.history.items) (λ v covers less. covers s.history.items c.self.invariant.3) cover)

-- ---- a range without a moment

pub returns-then-request-clause-rising : goal.returns-then-request-clause-rising
returns-then-request-clause-rising g c = subst IntervalsRise (sym c.new.ensures.items) tt

pub returns-then-request-clause-meets : goal.returns-then-request-clause-meets
returns-then-request-clause-meets g c =
    let request = c.args.request.now in
    subst (AllByRecursion (IsRangeInterval c.args.self.now.exponent c.args.self.now.history request.from request.to)) (sym c.new.ensures.items) tt

pub returns-then-request-clause-cover : goal.returns-then-request-clause-cover
returns-then-request-clause-cover g c less = absurd (omega (arith, ints, less, c.if-request.true))
