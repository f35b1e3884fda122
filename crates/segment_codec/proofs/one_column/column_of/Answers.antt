use Rattle.std.proofs.Common.{ap, sym, subst, ◌∙◌}
use Rattle.std.specs.Prelude.{◌==◌, Option}
use Rattle.std.specs.List.{position}
use Rattle.octet_fields.specs.Answers.{Gives}
use Rattle.segment_codec.specs.declared.one_column.ParameterColumn.{ParameterColumn}
use Rattle.segment_codec.proofs.Skipped.{placed}
use Rattle.segment_codec.proofs.one_column.column_of.Goals as goal

pub returns : goal.returns
returns c =
    let there = placed c.args.parameter c.args.octets.now c.in_ok-parameters.rest.now c.in_ok-rows.rest.now c.in_ok-parameters.parameters c.in_ok-rows.rows c.place_of.result
    c.in_ok-parameters.ensures c.in_ok-rows.ensures.gives (c.place_of.ensures ∙ ap (position (λ p. p == c.args.parameter)) c.as_slice.ensures) in
    subst (λ (read : Option (Option ParameterColumn)). Gives (λ x. x) c.column_at_place.result read) (sym there) c.column_at_place.ensures
