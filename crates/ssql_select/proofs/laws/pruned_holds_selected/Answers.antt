use Rattle.ssql_select.proofs.Selected.{tables_held}
use Rattle.ssql_select.proofs.laws.pruned_holds_selected.Goals as goal

pub returns : goal.returns
returns c = λ statement parts history clocks pruned.
    tables_held statement.condition parts statement.sources history clocks pruned
