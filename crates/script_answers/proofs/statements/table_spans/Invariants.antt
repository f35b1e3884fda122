use Rattle.std.proofs.Common.{◌≡◌}
use Rattle.std.specs.Prelude.{flat_map}
use Rattle.std.specs.List.{range_with_len}
use Rattle.archive_history.specs.History.{rows_in_table}
use Rattle.script_answers.specs.Statements.{name_spans}
use Rattle.script_answers.proofs.statements.table_spans.Given as goal

abbrev pub invariant-loop-place : goal.invariant-loop-place
invariant-loop-place g l = l.lines.items ≡ flat_map (name_spans (rows_in_table l.table l.store.history)) (range_with_len 0 l.place)
