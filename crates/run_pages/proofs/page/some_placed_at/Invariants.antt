use Rattle.std.proofs.Common.{◌≡◌, ◌-◌, length}
use Rattle.octet_fields.specs.Reading.{times_at}
use Rattle.octet_fields.proofs.Times.{Remaining}
use Rattle.row_codec.specs.Block.{IsEndOf}
use Rattle.run_pages.specs.Placed.{placed_rows}
use Rattle.run_pages.specs.Pages.{placed_at}
use Rattle.run_pages.proofs.page.some_placed_at.Given as goal

abbrev pub invariant-loop : goal.invariant-loop
invariant-loop l = record {
  read : Remaining placed_at (placed_rows l.positions l.rows) (l.count - l.counter) l.rest (times_at placed_at l.count l.octets);
  end : IsEndOf l.rest l.block;
  beside : length l.positions ≡ length l.rows;
}
