use Rattle.std.proofs.Common.{subst}
use Rattle.archive_store.specs.Head.{Head}
use Rattle.archive_store.specs.Batches.{IsBatch}
use Rattle.archive_fills_tests.proofs.calls.ingested.Goals as goal

pub ingest-requires : goal.ingest-requires
ingest-requires g c = subst (λ (h : Head). IsBatch h c.args.store.now.history c.in-Some.batch) c.head.ensures.head (c.in-Some.ensures c.args.store.now.history)
