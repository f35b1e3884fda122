-- What a query of tables selects.
use Rattle.std.specs.Prelude.{◌≡◌, ℕ, ℤ, List, filter, flat_map, length, not, nat_lt, Bool, true, false, Option, Some, None}
use Rattle.std.specs.List.{AllByRecursion}
use Rattle.text_forms.specs.ClockTime.{IsClockTime}
use Rattle.arch_types.specs.declared.row.Row.{Row}
use Rattle.arch_types.specs.Table.{sorted, table_of, range_of}
use Rattle.partitions.specs.declared.partition.Partition.{Partition}
use Rattle.partitions.specs.Rows.{is_of_parts}
use Rattle.arch_types.specs.Directions.{in_direction, truncated}
use Rattle.ssql_conditions.specs.ConditionBounds.{bounds_of}
use Rattle.ssql_conditions.specs.Formulas.{Formula}
use Rattle.ssql_conditions.specs.Truth.{is_true}
use Rattle.ssql_types.specs.declared.query.TypedSelect.{TypedSelect}

-- whether a row meets a condition
abbrev pub is_selected : Formula → Row → Bool
is_selected condition row = is_true row condition

-- the rows of a table that meet a condition, in the order of their keys
abbrev pub selected_of : Formula → List Row → ℕ → List Row
selected_of condition history table = filter (is_selected condition) (table_of table history)

-- those of several tables, one table behind the other; one that is named twice counts twice
abbrev pub selected_rows : Formula → List ℕ → List Row → List Row
selected_rows condition tables history = flat_map (selected_of condition history) tables

-- the rows of each source that meet the condition, merged by key with ties in the order of the sources, turned where that is asked, up to the limit
abbrev pub selection_of : TypedSelect → List Row → List Row
selection_of statement history =
    truncated statement.limit (in_direction statement.direction (sorted (selected_rows statement.condition statement.sources history)))

-- a row stands in one of some partitions, and its generation time is in the clock's range
pub record IsHeld (parts : List Partition) (row : Row) : Type 0 where
  pub in_parts : is_of_parts parts row ≡ true
  pub clock : IsClockTime row.key.time

-- some partitions hold all that is selected
abbrev pub HoldsSelected : TypedSelect → List Partition → List Row → Type 0
HoldsSelected statement parts history = AllByRecursion (IsHeld parts) (selected_rows statement.condition statement.sources history)

-- ---- what is read

-- those of a table with from <= time < to
abbrev pub ranged_in_parts : List Partition → ℤ → ℤ → List Row → ℕ → List Row
ranged_in_parts parts from to history table = filter (is_of_parts parts) (range_of table from to history)

-- those of several tables, one table behind the other
abbrev pub rows_between_of : List ℕ → List Partition → ℤ → ℤ → List Row → List Row
rows_between_of tables parts from to history = flat_map (ranged_in_parts parts from to history) tables

-- those of a query's sources, with the times in the bounds of its condition
abbrev pub rows_looked_at : TypedSelect → List Partition → List Row → List Row
rows_looked_at statement parts history =
    let bounds = bounds_of statement.condition in rows_between_of statement.sources parts bounds.from bounds.to history

-- all rows of several tables with from <= time < to, in the order of their keys
abbrev pub merged_between : List ℕ → ℤ → ℤ → List Row → List Row
merged_between tables from to history = sorted (flat_map (λ table. range_of table from to history) tables)

-- those of them that stand in some partitions and meet the condition, in the order that is asked
abbrev pub selected_between : TypedSelect → List Partition → ℤ → ℤ → List Row → List Row
selected_between statement parts from to history =
    filter (is_selected statement.condition) (in_direction statement.direction (filter (is_of_parts parts) (merged_between statement.sources from to history)))

-- whether there are as many as may be
abbrev pub is_enough : Option ℕ → List Row → Bool
is_enough None rows = false
is_enough (Some limit) rows = not (nat_lt (length rows) limit)
