use Rattle.std.proofs.Common.{◌≡◌, length}
use Rattle.std.specs.List.{AllByRecursion}
use Rattle.run_pages.specs.Placed.{placed_rows}
use Rattle.run_pages.specs.Pages.{FitsPage}
use Rattle.sealed_tests.proofs.sealed_rows_tests.made.Given as goal

abbrev pub invariant-loop-number : goal.invariant-loop-number
invariant-loop-number l = record {
  beside : length l.positions.items ≡ length l.rows.items;
  each : AllByRecursion FitsPage (placed_rows l.positions.items l.rows.items);
}
