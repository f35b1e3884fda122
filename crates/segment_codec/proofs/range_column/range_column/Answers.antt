use Rattle.std.proofs.Common.{◌∙◌, None, Some, sym, ap}
use Rattle.std.specs.Prelude.{◌==◌, Option, option_map}
use Rattle.std.specs.List.{position}
use Rattle.octet_fields.proofs.Exact.{some_is}
use Rattle.segment_codec.specs.RangeColumn.{asked_rows}
use Rattle.segment_codec.specs.declared.one_column.ParameterColumn.{ParameterColumn}
use Rattle.segment_codec.proofs.RangeColumns.{found_rows}
use Rattle.segment_codec.proofs.Skipped.{placed}
use Rattle.segment_codec.proofs.range_column.range_column.Goals as goal

pub returns-in-None : goal.returns-in-None
returns-in-None c = λ column e.
    let there = placed c.args.parameter c.args.octets.now c.in_ok-parameters.rest.now c.in_ok-rows.rest.now c.in_ok-parameters.parameters c.in_ok-rows.rows None
    c.in_ok-parameters.ensures c.in_ok-rows.ensures.gives (sym c.in-None.is ∙ c.place_of.ensures ∙ ap (position (λ p. p == c.args.parameter)) c.as_slice.ensures) in
    ap (option_map (asked_rows c.args.range.from c.args.range.to c.args.range.direction c.args.range.limit)) (some_is {A = Option ParameterColumn} None column (sym there ∙ e))

pub returns : goal.returns
returns c = λ column e.
    let there = placed c.args.parameter c.args.octets.now c.in_ok-parameters.rest.now c.in_ok-rows.rest.now c.in_ok-parameters.parameters c.in_ok-rows.rows (Some c.in-Some.place)
    c.in_ok-parameters.ensures c.in_ok-rows.ensures.gives (sym c.in-Some.is ∙ c.place_of.ensures ∙ ap (position (λ p. p == c.args.parameter)) c.as_slice.ensures) in
    found_rows (asked_rows c.args.range.from c.args.range.to c.args.range.direction c.args.range.limit) c.in_ok-rows.rows c.in-Some.place c.in_ok-rows.rest.now column c.in_ok-column-in-Some.column (sym there ∙ e) (λ found is. c.in_ok-column-in-Some.ensures found is)
