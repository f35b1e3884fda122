-- The rows that are wanted of runs.
use Rattle.std.specs.Prelude.{◌≡◌, List, filter, Bool, true, ◌&&◌, nat_lt}
use Rattle.arch_types.specs.declared.row.Row.{Row}
use Rattle.arch_types.specs.Table.{is_in_time_range}
use Rattle.replay_merge.specs.RowSource.{IsKeyedRow}
use Rattle.run_pages.specs.Placed.{Placed, rows_of_placed}
use Rattle.sealed_rows.specs.declared.wanted.Times.{Times}
use Rattle.sealed_rows.specs.declared.wanted.Times.TheVariants.{All, Between}
use Rattle.sealed_rows.specs.declared.wanted.Wanted.{Wanted}

-- whether a row's time is one of these
abbrev pub is_in_times : Times → Row → Bool
is_in_times All row = true
is_in_times (Between from to) row = is_in_time_range from to row

-- whether a row has a position below the front and a time that is wanted
abbrev pub is_wanted : Wanted → Placed → Bool
is_wanted wanted at = nat_lt at.position wanted.front && is_in_times wanted.times at.row

-- those rows
abbrev pub rows_wanted : Wanted → List Placed → List Row
rows_wanted wanted placed = rows_of_placed (filter (is_wanted wanted) placed)

-- a keyed row of the table with a time that is wanted
pub record IsRowWanted (wanted : Wanted) (row : Row) : Type 0 where
  pub keyed : IsKeyedRow row
  pub in_table : row.table ≡ wanted.table
  pub in_times : is_in_times wanted.times row ≡ true
