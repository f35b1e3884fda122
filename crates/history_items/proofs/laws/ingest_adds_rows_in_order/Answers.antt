use Rattle.history_items.proofs.Outcomes.{fresh_added, fresh_sublist}
use Rattle.history_items.specs.Outcomes.{fresh_of}
use Rattle.history_items.proofs.laws.ingest_adds_rows_in_order.Goals as goal

pub returns : goal.returns
returns c = λ history rows. (fresh_of history rows, fresh_added history rows, fresh_sublist history rows)
