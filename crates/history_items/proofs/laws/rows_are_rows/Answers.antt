use Rattle.history_items.proofs.ItemLists.{no_databases, rows_of_rows}
use Rattle.history_items.proofs.laws.rows_are_rows.Goals as goal

pub returns : goal.returns
returns c = λ rows. (rows_of_rows rows, no_databases rows)
