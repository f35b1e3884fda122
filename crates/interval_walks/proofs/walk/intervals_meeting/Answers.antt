use Rattle.std.proofs.Common.{◌≡◌, ℤ, pos, ◌≤ℤ◌, ◌<ℤ◌, List, true, sym, ap, subst, ◌∙◌, arith}
use Rattle.std.specs.Prelude.{◌+ℤ◌, ◌-ℤ◌}
use Rattle.std.specs.List.{AllByRecursion}
use Rattle.std.specs.Int.{w64}
use Rattle.std.proofs.lemmas.Int.{ints, to_z-of_z}
use Rattle.intervals.specs.declared.interval.Interval.{Interval}
use Rattle.intervals.specs.Interval.{interval_of}
use Rattle.late_marks.specs.Marks.{has_rows}
use Rattle.interval_walks.specs.Turns.{IntervalsRise}
use Rattle.interval_walks.proofs.Covering.{gap_less, rising_push, below_push, between_push, rows_push, covers_push, covers_all, all_meet, AllBelow, AllBetween, CoversTo}
use Rattle.interval_walks.proofs.walk.intervals_meeting.Goals as goal

pub loop-interval-smaller : goal.loop-interval-smaller
loop-interval-smaller c =
    let x : Interval = c.in-Some.interval in
    let e = c.in-Some.ensures.some in
    let last : Interval = c.last_of-last.result in
    gap_less c.loop-interval.at.0 c.after-at.result.0 (last.0 +ℤ pos 1) (omega (arith, ints, e.0, c.after-at.ensures)) (omega (arith, ints, e.1, c.after-at.ensures))

pub loop-interval-preserved : goal.loop-interval-preserved
loop-interval-preserved c =
    let x : Interval = c.in-Some.interval in
    let e = c.in-Some.ensures.some in
    let inv = c.loop-interval.invariant in
    let is : List Interval = c.loop-interval.intervals.items in
    let at : ℤ = c.loop-interval.at.0 in
    let items = c.in_ok-push.ensures.items in
    let below = below_push is x at (x.0 +ℤ pos 1) inv.below e.0 (omega (arith, ints)) in
    let covers = covers_push c.args.tracker.now.marks c.first_of-first.result.0 at is x inv.covers e.3 in record {
      rising = subst IntervalsRise (sym items) (rising_push is x at inv.rising inv.below e.0);
      below = subst (AllBelow c.push.new.self.items) (sym c.after-at.ensures) (subst (λ (l : List Interval). AllBelow l (x.0 +ℤ pos 1)) (sym items) below);
      rows = subst (λ (l : List Interval). AllByRecursion (λ i. has_rows c.args.tracker.now.marks i ≡ true) l) (sym items) (rows_push c.args.tracker.now.marks is x inv.rows e.2);
      later = omega (arith, ints, inv.later, e.0, c.after-at.ensures);
      between = subst (AllBetween c.first_of-first.result.0 c.last_of-last.result.0) (sym items) (between_push c.first_of-first.result.0 c.last_of-last.result.0 is x inv.between (omega (arith, ints, inv.later, e.0)) e.1);
      covers = subst (λ (n : ℤ). CoversTo c.args.tracker.now.marks c.first_of-first.result.0 n c.push.new.self.items) (sym c.after-at.ensures)
          (subst (λ (l : List Interval). CoversTo c.args.tracker.now.marks c.first_of-first.result.0 (x.0 +ℤ pos 1) l) (sym items) covers);
    }

pub returns-clause-cover : goal.returns-clause-cover
returns-clause-cover c = λ history are.
    let is : List Interval = c.loop-interval.intervals.items in
    let at : ℤ = c.loop-interval.at.0 in
    let first = subst (λ (n : ℤ). CoversTo c.args.tracker.now.marks n at is) (c.first_of-first.ensures ∙ ap (interval_of c.args.exponent) (to_z-of_z w64 c.args.from c.ranges.from)) c.loop-interval.invariant.covers in
    let none = subst (λ (n : ℤ). (j : Interval) → has_rows c.args.tracker.now.marks j ≡ true → at ≤ℤ j.0 → n <ℤ j.0) (c.last_of-last.ensures.number ∙ ap (λ (t : ℤ). interval_of c.args.exponent (t -ℤ pos 1)) (to_z-of_z w64 c.args.to c.ranges.to)) c.in_default.ensures.none in
    covers_all c.args.exponent c.args.tracker.now.marks c.args.from c.args.to at is first none c.args.tracker.now.fills history are

pub returns-clause-meets : goal.returns-clause-meets
returns-clause-meets c =
    let is : List Interval = c.loop-interval.intervals.items in
    let first = c.first_of-first.ensures ∙ ap (interval_of c.args.exponent) (to_z-of_z w64 c.args.from c.ranges.from) in
    let last = c.last_of-last.ensures.number ∙ ap (λ (t : ℤ). interval_of c.args.exponent (t -ℤ pos 1)) (to_z-of_z w64 c.args.to c.ranges.to) in
    let between = subst (λ (n : ℤ). AllBetween n c.last_of-last.result.0 is) first c.loop-interval.invariant.between in
    all_meet c.args.exponent c.args.from c.args.to is (subst (λ (n : ℤ). AllBetween (interval_of c.args.exponent c.args.from) n is) last between)
