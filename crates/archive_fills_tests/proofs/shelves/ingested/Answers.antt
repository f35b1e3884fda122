use Rattle.store_shelf.proofs.Beginning.{begins_on}
use Rattle.archive_fills_tests.proofs.shelves.ingested.Goals as goal

pub beside-requires : goal.beside-requires
beside-requires g c = begins_on c.into_parts-store.result.1.made c.into_parts-store.result.0 c.take_in.new.store c.into_parts-store.ensures.begins c.take_in.ensures
