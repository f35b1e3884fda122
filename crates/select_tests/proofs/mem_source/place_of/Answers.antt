use Rattle.std.proofs.Common.{sym, ◌∙◌, ap}
use Rattle.std.specs.Prelude.{◌&&◌}
use Rattle.std.specs.List.{list_any}
use Rattle.std.proofs.lemmas.Bool.{or_from, or_right}
use Rattle.std.proofs.lemmas.List.{take_all}
use Rattle.std.proofs.lemmas.List.Folds.{list_any_more}
use Rattle.arch_types.specs.History.{has_key, is_in_table}
use Rattle.arch_types.specs.declared.row.Row.{Row}
use Rattle.select_tests.proofs.Found.{none_first}
use Rattle.select_tests.proofs.mem_source.place_of.Goals as goal

pub returns-then-is_at : goal.returns-then-is_at
returns-then-is_at c =
    let passes = λ (row : Row). is_in_table c.args.table row && has_key c.args.key row in
    let row = c.index-rows-i.result in
    let here = ap passes (sym c.index-rows-i.is) ∙ sym c.is_at.ensures ∙ c.if-is_at.true in
    (c.loop-i.invariant, list_any_more passes c.args.rows.now c.loop-i.i row c.loop-i-test.true ∙ or_right _ _ here)

pub loop-i-preserved : goal.loop-i-preserved
loop-i-preserved c =
    let passes = λ (row : Row). is_in_table c.args.table row && has_key c.args.key row in
    let row = c.index-rows-i.result in
    let here = ap passes (sym c.index-rows-i.is) ∙ sym c.is_at.ensures ∙ c.if-is_at.false in
    list_any_more passes c.args.rows.now c.loop-i.i row c.loop-i-test.true ∙ or_from _ _ c.loop-i.invariant here

pub returns : goal.returns
returns c front =
    let passes = λ (row : Row). is_in_table c.args.table row && has_key c.args.key row in
    none_first passes front c.args.rows.now (sym (ap (list_any passes) (take_all c.loop-i.i c.args.rows.now c.loop-i-test.false)) ∙ c.loop-i.invariant)
