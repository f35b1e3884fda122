use Rattle.std.proofs.Common.{◌≡◌, ℕ, ◌<◌, true, List, length, get_or, None, sym, ap, ◌∙◌, subst}
use Rattle.std.specs.List.{AllByRecursion}
use Rattle.arch_types.specs.declared.key.Key.{Key}
use Rattle.arch_types.specs.declared.row.Row.{Row}
use Rattle.run_pages.specs.Placed.{placed_rows, rows_of_placed}
use Rattle.run_pages.specs.Order.{are_ordered}
use Rattle.run_pages.specs.Pages.{FitsPage}
use Rattle.run_pages.specs.Runs.{AreRunRows}
use Rattle.run_pages.proofs.Beside.{rows_back}
use Rattle.run_files.proofs.Written.{first_placed}
use Rattle.sealed_tests.proofs.sealed_rows_tests.written.Goals as goal

-- rows in order are those of a run
run_rows : (positions : List ℕ) (rows : List Row) (row : Row) → length positions ≡ length rows → 0 < length rows → row ≡ get_or rows 0 row → AllByRecursion FitsPage (placed_rows positions rows)
    → are_ordered row.table row.key None None rows ≡ true → AreRunRows row.table (placed_rows positions rows)
run_rows positions rows row beside some is each ordered =
    let back : are_ordered row.table row.key None None (rows_of_placed (placed_rows positions rows)) ≡ true = subst (λ (l : List Row). are_ordered row.table row.key None None l ≡ true) (sym (rows_back positions rows beside)) ordered in
    record {
      each = each;
      ordered = subst (λ (k : Key). are_ordered row.table k None None (rows_of_placed (placed_rows positions rows)) ≡ true) (first_placed positions rows row beside some is) back;
    }

pub write_run-requires-clause-rows : goal.write_run-requires-clause-rows
write_run-requires-clause-rows g c =
    let page = c.args.rows.now in
    let row = c.in-Some.first.now in
    let rows = c.as_slice-rows.result.now in
    let positions = c.as_slice-positions.result.now in
    let rows_are : rows ≡ page.rows = c.as_slice-rows.ensures in
    let positions_are : positions ≡ page.positions = c.as_slice-positions.ensures in
    let beside : length positions ≡ length rows = ap (λ (l : List ℕ). length l) positions_are ∙ page.beside ∙ sym (ap (λ (l : List Row). length l) rows_are) in
    let first = c.in-Some.ensures.item in
    let each : AllByRecursion FitsPage (placed_rows positions rows) =
    subst (λ (l : List ℕ). AllByRecursion FitsPage (placed_rows l rows)) (sym positions_are)
    (subst (λ (l : List Row). AllByRecursion FitsPage (placed_rows page.positions l)) (sym rows_are) c.requires) in
    (row.table, run_rows positions rows row beside first.3.0 first.1 each (sym c.if-not-are_ordered.ensures))
