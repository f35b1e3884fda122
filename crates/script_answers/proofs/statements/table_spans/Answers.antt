use Rattle.std.proofs.Common.{◌++◌, ◌∙◌, List, map, ap}
use Rattle.arch_types.specs.declared.spans.Span.{Span}
use Rattle.archive_history.specs.History.{rows_in_table}
use Rattle.ssql_select.specs.declared.show.ShowLine.TheVariants.{Histogram}
use Rattle.script_answers.proofs.HeldParts.{records_more}
use Rattle.script_answers.proofs.statements.table_spans.Goals as goal

pub loop-place-preserved : goal.loop-place-preserved
loop-place-preserved g c =
    let rows = rows_in_table c.args.table c.args.store.now.history in
    let place = c.loop-place.place in
    let lines = c.loop-place.lines.items in
    records_more rows place lines c.add_spans.new.lines.items c.loop-place.invariant
    (c.in_ok-add_spans.ensures ∙ ap (λ (spans : List Span). lines ++ map (Histogram place) spans) (c.as_slice.ensures ∙ c.in_ok-spans.ensures.spans))
