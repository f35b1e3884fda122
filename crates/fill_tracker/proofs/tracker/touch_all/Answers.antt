use Rattle.std.proofs.Common.{◌≡◌, true, sym, subst, arith}
use Rattle.std.specs.List.{AllAdjacentBelow}
use Rattle.fill_tracker.specs.FillTracker.{are_of_one_interval}
use Rattle.fill_tracker.proofs.Runs.{front_run, touched_all, touched_all_placed, touched_more}
use Rattle.fill_tracker.proofs.tracker.touch_all.Goals as goal

pub touch_run-requires-clause-run : goal.touch_run-requires-clause-run
touch_run-requires-clause-run c =
    let rest = c.loop-rest.rest.now in
    front_run c.args.exponent rest c.split_at.result.0.now c.split_at.result.1.now c.split_at.ensures.by_index.0
    (subst (AllAdjacentBelow (λ row next. are_of_one_interval c.args.exponent row next ≡ true) rest) (sym c.split_at.ensures.front_len) c.run_len.ensures.run)

pub loop-rest-smaller : goal.loop-rest-smaller
loop-rest-smaller c = omega (arith, c.split_at.ensures.back_len, c.run_len.ensures.some.0)

pub loop-rest-preserved : goal.loop-rest-preserved
loop-rest-preserved c =
    touched_more c.split_at.result.0.now c.loop-rest.invariant c.split_at.ensures.by_index.0 (omega (arith, c.split_at.ensures.front_len, c.run_len.ensures.some.0)) c.touch_run.ensures.room c.touch_run.ensures.marks c.touch_run.ensures.placed

pub returns-clause-placed : goal.returns-clause-placed
returns-clause-placed c = touched_all_placed c.loop-rest.invariant (omega (arith, c.loop-rest-test.false))

pub returns-clause-marks : goal.returns-clause-marks
returns-clause-marks c = touched_all c.loop-rest.invariant (omega (arith, c.loop-rest-test.false))
