use Rattle.history_items.proofs.ItemLists.{rows_after_rows}
use Rattle.history_items.proofs.laws.rows_come_to_rows.Goals as goal

pub returns : goal.returns
returns c = rows_after_rows
