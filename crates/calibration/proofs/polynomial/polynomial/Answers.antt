-- The sum so far is that of the definition over the rows so far, and fits since the rows carry the raw number no further than 2^63.
use Rattle.std.proofs.Common.{◌∙◌, ap, sym, subst, List, w64}
use Rattle.std.specs.Prelude.{ℤ, pos}
use Rattle.std.specs.Int.{w128}
use Rattle.std.proofs.lemmas.Int.{to_z-of_z}
use Rattle.std.proofs.lemmas.List.{take_all}
use Rattle.mdb_items.specs.declared.calibration.PolyRow.{PolyRow}
use Rattle.calibration.specs.Calibrated.{polynomial}
use Rattle.calibration.specs.Carried.{AreCarried}
use Rattle.calibration.proofs.Line.{plain}
use Rattle.calibration.proofs.Sums.{carried_at, narrow_fits, sum_fits, sum_more}
use Rattle.calibration.proofs.polynomial.polynomial.Goals as goal

pub term-sum-requires : goal.term-sum-requires
term-sum-requires c =
    let d : PolyRow = record { exponent = 0; millionths = pos 0 } in
    let same = to_z-of_z w128 c.args.raw c.ranges.raw in
    let all = subst (λ (z : ℤ). AreCarried z c.args.rows.now) (sym same) c.requires in
    carried_at (plain c.args.raw) c.args.rows.now c.loop-row.row-index d all c.loop-row-test.true

pub overflow_add-sum : goal.overflow_add-sum
overflow_add-sum c =
    let d : PolyRow = record { exponent = 0; millionths = pos 0 } in
    let same = to_z-of_z w128 c.args.raw c.ranges.raw in
    let all = subst (λ (z : ℤ). AreCarried z c.args.rows.now) (sym same) c.requires in
    sum_fits (plain c.args.raw) _ c.term-sum.result c.args.rows.now c.loop-row.row-index d all c.loop-row-test.true c.loop-row.invariant c.term-sum.ensures

pub loop-row-preserved : goal.loop-row-preserved
loop-row-preserved c =
    let d : PolyRow = record { exponent = 0; millionths = pos 0 } in
    let same = to_z-of_z w128 c.args.raw c.ranges.raw in
    let all = subst (λ (z : ℤ). AreCarried z c.args.rows.now) (sym same) c.requires in
    sum_more (plain c.args.raw) _ c.term-sum.result c.args.rows.now c.loop-row.row-index d all c.loop-row-test.true c.loop-row.invariant c.term-sum.ensures

pub overflow_cast-result : goal.overflow_cast-result
overflow_cast-result c =
    let same = to_z-of_z w128 c.args.raw c.ranges.raw in
    let all = subst (λ (z : ℤ). AreCarried z c.args.rows.now) (sym same) c.requires in
    narrow_fits (plain c.args.raw) _ c.args.rows.now c.loop-row.row-index all c.loop-row.invariant

pub returns : goal.returns
returns c =
    let same = to_z-of_z w128 c.args.raw c.ranges.raw in
    let whole = take_all c.loop-row.row-index c.args.rows.now c.loop-row-test.false in
    to_z-of_z w64 _ (overflow_cast-result c) ∙ c.loop-row.invariant ∙ ap (λ (rows : List PolyRow). polynomial rows (plain c.args.raw)) whole ∙ ap (polynomial c.args.rows.now) same
