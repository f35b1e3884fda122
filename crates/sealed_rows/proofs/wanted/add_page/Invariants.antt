use Rattle.std.proofs.Common.{◌≡◌, ◌++◌, take}
use Rattle.run_pages.specs.Pages.{rows_of_page}
use Rattle.sealed_rows.specs.Wanted.{rows_wanted}
use Rattle.sealed_rows.proofs.wanted.add_page.Given as goal

abbrev pub invariant-loop-i : goal.invariant-loop-i
invariant-loop-i l = l.rows.items ≡ l.fn.rows.items ++ rows_wanted l.wanted (take l.i (rows_of_page l.page))
