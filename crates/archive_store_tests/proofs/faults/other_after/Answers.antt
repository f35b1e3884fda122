use Rattle.std.proofs.Common.{subst}
use Rattle.archive_store.specs.Head.{Head}
use Rattle.archive_store.specs.Batches.{IsBatch}
use Rattle.archive_store_tests.proofs.faults.other_after.Goals as goal

pub ingest_and_reopen-requires-clause-batch : goal.ingest_and_reopen-requires-clause-batch
ingest_and_reopen-requires-clause-batch g c = subst (λ (h : Head). IsBatch h c.args.store.now.history c.in-Some.batch) c.head.ensures.head (c.in-Some.ensures c.args.store.now.history)
