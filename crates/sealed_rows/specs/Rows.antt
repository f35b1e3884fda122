-- The rows that runs have on a disk.
use Rattle.std.specs.Prelude.{ℕ, List, [], filter, take, drop, nat_lt, Bool, Option, Some, None}
use Rattle.std.specs.List.{flat_map}
use Rattle.std.specs.Ordering.{is_lt, nat_cmp}
use Rattle.arch_disk.specs.Image.{Image}
use Rattle.arch_types.specs.declared.row.Row.{Row}
use Rattle.arch_types.specs.Order.{order_by}
use Rattle.octet_fields.specs.Reading.{whole}
use Rattle.run_pages.specs.Placed.{Placed, rows_of_placed}
use Rattle.run_pages.specs.Pages.{page_at}
use Rattle.run_pages.specs.declared.index.PageEntry.{PageEntry}
use Rattle.run_files.specs.Run.{run_entries, run_file}
use Rattle.run_files.specs.declared.run.Run.{Run}

-- the rows, where there are any
abbrev pub rows_if : Option (List Placed) → List Placed
rows_if None = []
rows_if (Some rows) = rows

-- the rows of the page that stands where an entry of a run's index says
abbrev pub page_in : List ℕ → PageEntry → List Placed
page_in content entry = rows_if (whole page_at (take entry.len (drop entry.at content)))

-- the rows that a run has in its file, page behind page
abbrev pub rows_in : List ℕ → Run → List Placed
rows_in content run = flat_map (page_in content) (run_entries run)

-- the rows of all runs
abbrev pub rows_of_runs : Image → List Run → List Placed
rows_of_runs image runs = flat_map (λ run. rows_in (image (run_file run)) run) runs

-- whether one row's position is below another's
abbrev pub is_earlier : Placed → Placed → Bool
is_earlier a b = is_lt (nat_cmp a.position b.position)

-- the rows in the order of their positions
abbrev pub in_order : List Placed → List Row
in_order placed = rows_of_placed (order_by is_earlier placed)

-- those with a position below a front, in that order
abbrev pub rows_below : List Placed → ℕ → List Row
rows_below placed front = in_order (filter (λ at. nat_lt at.position front) placed)
