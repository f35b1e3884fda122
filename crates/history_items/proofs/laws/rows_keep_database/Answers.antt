use Rattle.history_items.proofs.Databases.{rows_keep_database, rows_keep_names}
use Rattle.history_items.proofs.laws.rows_keep_database.Goals as goal

pub returns : goal.returns
returns c = λ first history rows. (rows_keep_database first history rows, rows_keep_names first history rows)
