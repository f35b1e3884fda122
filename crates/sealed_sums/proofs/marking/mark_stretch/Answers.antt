use Rattle.std.proofs.Common.{◌≡◌, false, arith}
use Rattle.std.specs.Prelude.{◌==◌}
use Rattle.std.specs.List.{zip}
use Rattle.std.proofs.lemmas.Bool.Decides.{nat_tests}
use Rattle.sealed_sums.proofs.Positions.{marks_stay, placed_in, roomier}
use Rattle.sealed_sums.proofs.marking.mark_stretch.Goals as goal

pub returns-in_ok-reserve_rows-clause-marks : goal.returns-in_ok-reserve_rows-clause-marks
returns-in_ok-reserve_rows-clause-marks c = λ e rows placed is are.
    let s = c.args.stretch.now in
    let old = c.args.tracker.now in
    let mid = c.reserve_rows.new.self in
    let run = placed_in e s c.args.positions.now rows c.greatest.result is c.requires.beside c.if-stretch-eq-TM.true c.greatest.ensures in
    c.touch_placed.ensures.marks e placed (zip c.args.positions.now rows) run
    (roomier e placed old.fills mid.fills old.marks mid.marks c.in_ok-reserve_rows.ensures.fills c.in_ok-reserve_rows.ensures.same.2 are)

pub returns-else-stretch-eq-TM-clause-marks : goal.returns-else-stretch-eq-TM-clause-marks
returns-else-stretch-eq-TM-clause-marks c = λ e rows placed is are.
    let other : (c.args.stretch.now.table == 0) ≡ false = grind (arith, nat_tests, c.if-stretch-eq-TM.false) in
    marks_stay e c.args.stretch.now placed c.args.positions.now rows c.args.tracker.now.fills c.args.tracker.now.marks is other are
