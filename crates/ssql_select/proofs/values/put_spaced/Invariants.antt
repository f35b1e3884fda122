use Rattle.std.proofs.Common.{◌≡◌, ◌++◌, take}
use Rattle.std.specs.Prelude.{flat_map}
use Rattle.ssql_select.specs.SelectionText.{spaced_value}
use Rattle.ssql_select.proofs.values.put_spaced.Given as goal

abbrev pub invariant-loop-column : goal.invariant-loop-column
invariant-loop-column l = l.line.items ≡ l.initial.line.items ++ flat_map (spaced_value l.names l.row) (take l.column-index l.columns)
