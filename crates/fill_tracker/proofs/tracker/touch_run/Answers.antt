use Rattle.std.proofs.Common.{◌++◌, length, List, sym, ap, subst, arith, rules}
use Rattle.arch_types.specs.declared.row.Row.{Row}
use Rattle.history_items.specs.Items.{items_of}
use Rattle.fill_tracker.specs.FillTracker.{AreMarksOf, AreOfOneInterval}
use Rattle.fill_tracker.specs.Placed.{AreMarksOfPlaced, placed_from}
use Rattle.fill_tracker.proofs.Marked.{touches, untouched}
use Rattle.fill_tracker.proofs.PlacedRuns.{run_elsewhere, run_placed}
use Rattle.fill_tracker.proofs.Runs.{begins_with}
use Rattle.fill_tracker.proofs.tracker.touch_run.Goals as goal

pub returns-then-row-eq-TM-clause-marks : goal.returns-then-row-eq-TM-clause-marks
returns-then-row-eq-TM-clause-marks c = λ fills history len are.
    let first = c.in-Some.row.now in
    let run = begins_with c.args.run.now first (search rules) in
    let i = c.interval_of_row.result in
    subst (λ (rows : List Row). AreMarksOf c.args.exponent (history ++ items_of rows) fills c.touch.new.self) (sym run.1)
    (touches c.args.exponent history fills c.args.marks.now c.touch.new.self first run.0 i _ (omega (arith, ap length run.1, len)) (subst (AreOfOneInterval c.args.exponent) run.1 c.requires.run)
    (omega (arith, c.if-row-eq-TM.true)) c.interval_of_row.ensures are c.touch.ensures.marked)

pub returns-else-row-eq-TM-clause-marks : goal.returns-else-row-eq-TM-clause-marks
returns-else-row-eq-TM-clause-marks c = λ fills history len are.
    let first = c.in-Some.row.now in
    let run = begins_with c.args.run.now first (search rules) in
    subst (λ (rows : List Row). AreMarksOf c.args.exponent (history ++ items_of rows) fills c.args.marks.now) (sym run.1)
    (untouched c.args.exponent history fills c.args.marks.now first run.0 (subst (AreOfOneInterval c.args.exponent) run.1 c.requires.run) (λ e. absurd (omega (arith, e, c.if-row-eq-TM.false))) are)

pub returns-then-row-eq-TM-clause-placed : goal.returns-then-row-eq-TM-clause-placed
returns-then-row-eq-TM-clause-placed c = λ fills placed are.
    let first = c.in-Some.row.now in
    let run = begins_with c.args.run.now first (search rules) in
    let i = c.interval_of_row.result in
    subst (λ (rows : List Row). AreMarksOfPlaced c.args.exponent (placed ++ placed_from c.args.first rows) fills c.touch.new.self) (sym run.1)
    (run_placed c.args.exponent placed fills c.args.first first run.0 (subst (AreOfOneInterval c.args.exponent) run.1 c.requires.run) c.args.marks.now c.touch.new.self i _ (omega (arith, ap length run.1))
    (omega (arith, c.if-row-eq-TM.true)) c.interval_of_row.ensures are c.touch.ensures.marked)

pub returns-else-row-eq-TM-clause-placed : goal.returns-else-row-eq-TM-clause-placed
returns-else-row-eq-TM-clause-placed c = λ fills placed are.
    let first = c.in-Some.row.now in
    let run = begins_with c.args.run.now first (search rules) in
    subst (λ (rows : List Row). AreMarksOfPlaced c.args.exponent (placed ++ placed_from c.args.first rows) fills c.args.marks.now) (sym run.1)
    (run_elsewhere c.args.exponent placed fills c.args.first first run.0 (subst (AreOfOneInterval c.args.exponent) run.1 c.requires.run) c.args.marks.now (λ e. absurd (omega (arith, e, c.if-row-eq-TM.false))) are)
