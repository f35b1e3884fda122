use Rattle.std.specs.Int.{w64}
use Rattle.row_codec.proofs.Ends.{behind_number}
use Rattle.run_pages.proofs.page.placed_at.Goals as goal

pub read_row-requires : goal.read_row-requires
read_row-requires c = behind_number w64 c.args.block.now c.args.octets.now (c.in_ok-position.position, c.in_ok-position.rest.now) c.requires c.in_ok-position.ensures
