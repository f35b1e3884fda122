use Rattle.std.proofs.Common.{rules, ap, ◌∙◌}
use Rattle.std.specs.Prelude.{filter}
use Rattle.std.proofs.lemmas.Fn.{filter_same}
use Rattle.ssql_conditions.specs.ConditionBounds.{has_pname}
use Rattle.ssql_conditions.proofs.bounds.common_names.Goals as goal

pub returns : goal.returns
returns c =
    c.from_vec.ensures ∙ filter_same _ (has_pname c.args.others.now) _ (λ x b f' k. search rules) _ _ c.retain.ensures.filtered
    ∙ ap (filter (has_pname c.args.others.now)) c.into_vec-names.ensures
