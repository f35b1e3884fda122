use Rattle.std.proofs.Common.{◌≡◌, ◌+◌, List, Some, length, refl, sym, subst, arith}
use Rattle.std.specs.Prelude.{slice_get}
use Rattle.std.proofs.lemmas.Option.{slice_get_read}
use Rattle.arch_types.specs.declared.row.Row.{Row}
use Rattle.archive_core.proofs.Least.{IsLeastSoFar, least_more, least_is}
use Rattle.archive_core.proofs.lateness.next_to_fill.Goals as goal

pub loop-i-preserved : goal.loop-i-preserved
loop-i-preserved c =
    let rows : List Row = c.args.rows.now in
    let fills = c.args.fills.now in
    let i = c.loop-i.i in
    let row : Row = c.index-rows-i.result in
    let at : slice_get rows i ≡ Some row = slice_get_read rows (length rows) i row refl (omega (arith, c.loop-i-test.true)) c.index-rows-i.is in
    subst (IsLeastSoFar c.args.exponent rows fills (i + 1)) (sym c.least_after-least.ensures) (least_more c.args.exponent rows fills i row at c.loop-i.least c.loop-i.invariant)

pub returns : goal.returns
returns c = least_is c.args.exponent c.args.rows.now c.args.fills.now c.loop-i.i c.loop-i.least (omega (arith, c.loop-i-test.false)) c.loop-i.invariant
