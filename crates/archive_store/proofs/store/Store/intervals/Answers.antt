use Rattle.std.proofs.Common.{◌≡◌, ℕ, List, pos, true, subst}
use Rattle.std.specs.Global.{Vec}
use Rattle.std.specs.Prelude.{IfOk, IsSome}
use Rattle.std.specs.List.{list_any, AllByRecursion}
use Rattle.archive_history.proofs.Steps.{if_ok}
use Rattle.intervals.specs.declared.interval.Interval.{Interval}
use Rattle.history_items.specs.Fills.{is_same}
use Rattle.history_items.specs.declared.items.Item.{Item}
use Rattle.history_items.specs.Late.{StandsIn, last_in}
use Rattle.fill_tracker.specs.FillTracker.{AreMarksOf}
use Rattle.interval_walks.specs.Turns.{CoverRange}
use Rattle.late_marks.specs.Marks.{has_rows}
use Rattle.store_fills.specs.LastFills.{fillings_in}
use Rattle.archive_store.specs.StoreView.{StoreView}
use Rattle.archive_store.proofs.IntervalRows.{all_marked, filled_stands, meets_all}
use Rattle.archive_store.proofs.store.Store.intervals.Goals as goal

pub returns-clause-rows : goal.returns-clause-rows
returns-clause-rows g c =
    let s = c.self.inside in
    let r = c.intervals_meeting.result in
    subst (λ (x : StoreView g.row.D.Denot). IfOk r (λ intervals. AllByRecursion (λ i. IsSome (last_in x.exponent i x.history)) intervals.items)) c.self.view_is
    (if_ok r (λ (is : Vec Interval). AllByRecursion (λ i. has_rows s.tracker.marks i ≡ true) is.items) (λ (is : Vec Interval). AllByRecursion (λ i. IsSome (last_in s.history.exponent i s.history.items)) is.items)
    (λ is. all_marked s.history.exponent s.history.items s.tracker.fills s.tracker.marks is.items c.self.invariant.3) c.intervals_meeting.ensures.rows)

pub returns-clause-cover : goal.returns-clause-cover
returns-clause-cover g c =
    let s = c.self.inside in
    let r = c.intervals_meeting.result in
    let format = c.exponent.ensures in
    let cover = subst (λ (e : ℕ). IfOk r (λ is. (history : List Item) → AreMarksOf e history s.tracker.fills s.tracker.marks → CoverRange e is.items (pos 0) (pos 9223372036854775807) history)) format c.intervals_meeting.ensures.cover in
    subst (λ (x : StoreView g.row.D.Denot). IfOk r (λ intervals. (i : Interval) (p : ℕ) → StandsIn x.exponent i p x.history → list_any (is_same i) intervals.items ≡ true)) c.self.view_is
    (if_ok r (λ (is : Vec Interval). (history : List Item) → AreMarksOf s.history.exponent history s.tracker.fills s.tracker.marks → CoverRange s.history.exponent is.items (pos 0) (pos 9223372036854775807) history)
    (λ (is : Vec Interval). (i : Interval) (p : ℕ) → StandsIn s.history.exponent i p s.history.items → list_any (is_same i) is.items ≡ true)
    (λ is covers i p stands. covers s.history.items c.self.invariant.3 i p stands (meets_all s.head s.history.exponent s.history.items i p c.self.invariant.0.rows stands)) cover)

pub returns-clause-filled : goal.returns-clause-filled
returns-clause-filled g c =
    let s = c.self.inside in
    let r = c.intervals_meeting.result in
    let format = c.exponent.ensures in
    let cover = subst (λ (e : ℕ). IfOk r (λ is. (history : List Item) → AreMarksOf e history s.tracker.fills s.tracker.marks → CoverRange e is.items (pos 0) (pos 9223372036854775807) history)) format c.intervals_meeting.ensures.cover in
    subst (λ (x : StoreView g.row.D.Denot). IfOk r (λ intervals. (i : Interval) → IsSome (fillings_in x.filled i) → list_any (is_same i) intervals.items ≡ true)) c.self.view_is
    (if_ok r (λ (is : Vec Interval). (history : List Item) → AreMarksOf s.history.exponent history s.tracker.fills s.tracker.marks → CoverRange s.history.exponent is.items (pos 0) (pos 9223372036854775807) history)
    (λ (is : Vec Interval). (i : Interval) → IsSome (fillings_in s.sets.filled i) → list_any (is_same i) is.items ≡ true)
    (λ is covers i some.
    let row = filled_stands s.head s.history.exponent s.history.items s.tracker.fills s.tracker.marks s.sets.filled i c.self.invariant.3 c.self.invariant.4 some in
    covers s.history.items c.self.invariant.3 i row.position row.stands (meets_all s.head s.history.exponent s.history.items i row.position c.self.invariant.0.rows row.stands)) cover)
