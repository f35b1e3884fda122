use Rattle.std.proofs.Common.{◌≡◌, ◌+◌, ◌*◌, ◌≤◌, length, take}
use Rattle.std.specs.List.{flat_map}
use Rattle.run_pages.proofs.Lengths.{at_zero}
use Rattle.run_pages.proofs.page.page_len.Given as goal

abbrev pub invariant-loop-row : goal.invariant-loop-row
invariant-loop-row l = record {
  size : l.len ≡ 2 + length (flat_map at_zero (take l.row-index l.rows));
  most : l.len ≤ 2 + 65562 * l.row-index;
}
