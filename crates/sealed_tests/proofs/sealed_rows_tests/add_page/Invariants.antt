use Rattle.std.proofs.Common.{◌≡◌, length}
use Rattle.std.specs.List.{AllByRecursion}
use Rattle.run_pages.specs.Placed.{placed_rows}
use Rattle.run_pages.specs.Pages.{FitsPage}
use Rattle.sealed_tests.proofs.sealed_rows_tests.add_page.Given as goal

abbrev pub invariant-loop-place : goal.invariant-loop-place
invariant-loop-place l = record {
  beside : length l.positions.items ≡ length l.rows.items;
  each : AllByRecursion FitsPage (placed_rows l.positions.items l.rows.items);
}
