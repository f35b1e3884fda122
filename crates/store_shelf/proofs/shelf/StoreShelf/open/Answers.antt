use Rattle.std.proofs.Common.{false, sym, subst}
use Rattle.glance_board.specs.Listings.{IsListing}
use Rattle.glance_log.specs.Sightings.{Sighting}
use Rattle.store_shelf.specs.declared.kept.Kept.{Kept}
use Rattle.store_shelf.specs.Publications.{staying_by}
use Rattle.store_shelf.proofs.shelf.StoreShelf.open.Goals as goal

pub new-requires-clause-listing : goal.new-requires-clause-listing
new-requires-clause-listing g c =
    subst (λ (s : Sighting (Kept g.row.D.Denot)). IsListing (staying_by g.D.Disk.device) s c.in_ok-contents.contents) (sym c.open-publisher.ensures)
    (c.in_ok-contents.ensures c.open-publisher.result.book false)
