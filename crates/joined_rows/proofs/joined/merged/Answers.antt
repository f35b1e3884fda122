use Rattle.std.proofs.Common.{List, ◌++◌, ap, ◌∙◌, subst}
use Rattle.std.specs.Prelude.{IfOk}
use Rattle.std.specs.List.{Contains}
use Rattle.arch_types.specs.declared.row.Row.{Row}
use Rattle.joined_rows.proofs.joined.merged.Goals as goal

pub returns-clause-no_others : goal.returns-clause-no_others
returns-clause-no_others c =
    let all = c.in_ok-append.ensures.items ∙ ap (λ (l : List Row). l ++ c.into_vec-more.result.items) c.into_vec-rows.ensures ∙ ap (λ (l : List Row). c.args.first ++ l) c.into_vec-more.ensures in
    subst (λ (l : List Row). IfOk c.rising_by_key.result (λ rows. (row : Row) → Contains rows row → Contains l row)) all c.rising_by_key.ensures.no_others
