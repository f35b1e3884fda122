use Rattle.std.proofs.Common.{◌≡◌, ℕ, List, Option, Some, length, Bool, refl, ◌∙◌, ap, arith}
use Rattle.std.specs.Prelude.{slice_get, if◌then◌else◌}
use Rattle.std.proofs.lemmas.Option.{slice_get_read}
use Rattle.arch_types.specs.declared.row.Row.{Row}
use Rattle.history_items.specs.Items.{is_of_interval}
use Rattle.archive_core.proofs.Lasts.{last_more, last_all}
use Rattle.archive_core.proofs.lateness.last_in.Goals as goal

pub loop-i-preserved : goal.loop-i-preserved
loop-i-preserved c =
    let rows : List Row = c.args.rows.now in
    let interval = c.args.interval in
    let i = c.loop-i.i in
    let row : Row = c.index-rows-i.result in
    let at : slice_get rows i ≡ Some row = slice_get_read rows (length rows) i row refl (omega (arith, c.loop-i-test.true)) c.index-rows-i.is in
    c.last_after-last.ensures
    ∙ ap (λ (b : Bool). if b then Some i else c.loop-i.last) c.is_row_of_interval.ensures
    ∙ ap (λ (o : Option ℕ). if is_of_interval c.args.exponent interval row then Some i else o) c.loop-i.invariant
    ∙ last_more c.args.exponent interval rows i row at

pub returns : goal.returns
returns c = c.loop-i.invariant ∙ last_all c.args.exponent c.args.interval c.args.rows.now c.loop-i.i (omega (arith, c.loop-i-test.false))
