-- The rows that are wanted of several runs.
use Rattle.std.specs.Prelude.{List, [], ◌==◌, filter, if◌then◌else◌}
use Rattle.std.specs.List.{flat_map}
use Rattle.arch_disk.specs.Image.{Image}
use Rattle.arch_types.specs.declared.row.Row.{Row}
use Rattle.arch_types.specs.Table.{table_of}
use Rattle.run_pages.specs.Placed.{Placed}
use Rattle.run_files.specs.Run.{run_file, run_table}
use Rattle.run_files.specs.declared.run.Run.{Run}
use Rattle.sealed_rows.specs.Rows.{rows_below, rows_in}
use Rattle.sealed_rows.specs.Wanted.{is_in_times, rows_wanted}
use Rattle.sealed_rows.specs.declared.wanted.Wanted.{Wanted}

-- those of a run, where it is of the table
abbrev pub wanted_of : Wanted → Image → Run → List Row
wanted_of wanted image run =
    if run_table run == wanted.table then rows_wanted wanted (rows_in (image (run_file run)) run) else []

-- those of runs, run behind run
abbrev pub gathered_of : Wanted → Image → List Run → List Row
gathered_of wanted image runs = flat_map (wanted_of wanted image) runs

-- the rows of the table below the front whose times are wanted, in the order of their keys
abbrev pub history_wanted : Wanted → List Placed → List Row
history_wanted wanted placed =
    filter (is_in_times wanted.times) (table_of wanted.table (rows_below placed wanted.front))
