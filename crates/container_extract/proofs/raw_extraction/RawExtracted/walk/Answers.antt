use Rattle.container_extract.proofs.Taking.{entries_known}
use Rattle.container_extract.proofs.raw_extraction.RawExtracted.walk.Goals as goal

pub take_entries-requires-clause-known : goal.take_entries-requires-clause-known
take_entries-requires-clause-known c = entries_known c.args.mdb.now c.in-Some.last c.container.result.now c.as_slice-entries.result.now c.is_sound.ensures c.container.ensures c.as_slice-entries.ensures
