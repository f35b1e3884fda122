-- What holds of selections.
use Rattle.std.specs.Prelude.{List, filter}
use Rattle.std.specs.List.{AllByRecursion}
use Rattle.text_forms.specs.ClockTime.{IsClockTime}
use Rattle.arch_types.specs.declared.row.Row.{Row}
use Rattle.arch_types.specs.History.{is_in_table}
use Rattle.partitions.specs.declared.partition.Partition.{Partition}
use Rattle.replay_merge.specs.Laws.{HoldsPruned}
use Rattle.ssql_conditions.specs.ConditionBounds.{bounds_of}
use Rattle.ssql_types.specs.declared.query.TypedSelect.{TypedSelect}
use Rattle.ssql_select.specs.Selection.{HoldsSelected}

-- Where the rows of a history have generation times in the clock's range: partitions that hold, of each source, those that the bounds of the
-- condition leave hold all that is selected.
abbrev pub PrunedHoldsSelected : Type 0
PrunedHoldsSelected = (statement : TypedSelect) (parts : List Partition) (history : List Row) →
    AllByRecursion (λ row. IsClockTime row.key.time) history →
    AllByRecursion (λ table. HoldsPruned (bounds_of statement.condition) (filter (is_in_table table) history) parts) statement.sources →
    HoldsSelected statement parts history
