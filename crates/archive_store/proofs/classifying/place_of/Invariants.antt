use Rattle.std.proofs.Common.{◌≡◌, take, false}
use Rattle.std.specs.List.{list_any}
use Rattle.history_items.specs.Items.{row_item}
use Rattle.archive_history.specs.History.{is_at_key}
use Rattle.archive_store.proofs.classifying.place_of.Given as goal

-- none of the rows before has that table and key
abbrev pub invariant-loop-i : goal.invariant-loop-i
invariant-loop-i l = list_any (λ row. is_at_key l.at.table l.at.key (row_item row)) (take l.i l.fresh) ≡ false
