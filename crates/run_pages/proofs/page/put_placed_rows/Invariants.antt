use Rattle.std.proofs.Common.{◌≡◌, ◌++◌, take}
use Rattle.std.specs.List.{flat_map}
use Rattle.run_pages.specs.Placed.{placed_rows}
use Rattle.run_pages.specs.Pages.{placed_octets}
use Rattle.run_pages.proofs.page.put_placed_rows.Given as goal

abbrev pub invariant-loop-i : goal.invariant-loop-i
invariant-loop-i l = l.out.items ≡ l.initial.out.items ++ flat_map placed_octets (take l.i (placed_rows l.positions l.rows))
