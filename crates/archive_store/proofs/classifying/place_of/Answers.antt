use Rattle.std.proofs.Common.{length, refl, sym, ◌∙◌, ap}
use Rattle.std.specs.List.{list_any}
use Rattle.std.proofs.lemmas.Bool.{or_from}
use Rattle.std.proofs.lemmas.List.{take_all}
use Rattle.std.proofs.lemmas.List.Folds.{list_any_more}
use Rattle.std.proofs.lemmas.Option.{slice_get_read}
use Rattle.arch_types.specs.declared.row.Row.{Row}
use Rattle.history_items.specs.Items.{row_item}
use Rattle.history_items.proofs.ItemLists.{any_row_of}
use Rattle.archive_history.specs.History.{is_at_key}
use Rattle.archive_store.proofs.Outcomes.{key_test}
use Rattle.archive_store.proofs.classifying.place_of.Goals as goal

pub returns-then-eq : goal.returns-then-eq
returns-then-eq c =
    let fresh = c.args.fresh.now in
    let row = c.index-fresh-i.result in
    (row, slice_get_read fresh (length fresh) c.loop-i.i row refl c.loop-i-test.true c.index-fresh-i.is, key_test c.args.at c.of.result row c.eq.result c.of.ensures c.eq.ensures ∙ c.if-eq.true)

pub loop-i-preserved : goal.loop-i-preserved
loop-i-preserved c =
    let row = c.index-fresh-i.result in
    let passes = λ (r : Row). is_at_key c.args.at.table c.args.at.key (row_item r) in
    list_any_more passes c.args.fresh.now c.loop-i.i row c.loop-i-test.true
    ∙ or_from _ _ c.loop-i.invariant (ap passes (sym c.index-fresh-i.is) ∙ key_test c.args.at c.of.result row c.eq.result c.of.ensures c.eq.ensures ∙ c.if-eq.false)

pub returns : goal.returns
returns c =
    let passes = λ (r : Row). is_at_key c.args.at.table c.args.at.key (row_item r) in
    any_row_of passes c.args.fresh.now ∙ sym (ap (list_any passes) (take_all c.loop-i.i c.args.fresh.now c.loop-i-test.false)) ∙ c.loop-i.invariant
