use Rattle.std.specs.Int.{w16}
use Rattle.row_codec.proofs.Ends.{behind_number}
use Rattle.run_pages.proofs.page.whole_page.Goals as goal

pub some_placed_at-requires : goal.some_placed_at-requires
some_placed_at-requires c = behind_number w16 c.args.block.now c.args.octets.now (c.in_ok-count.count, c.in_ok-count.rest.now) c.requires c.in_ok-count.ensures
