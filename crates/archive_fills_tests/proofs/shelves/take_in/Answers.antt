use Rattle.std.proofs.Common.{refl, subst}
use Rattle.archive_store.specs.Head.{Head}
use Rattle.archive_store.specs.Batches.{IsBatch}
use Rattle.archive_store.proofs.Going.{goes_same}
use Rattle.archive_fills_tests.proofs.shelves.take_in.Goals as goal

pub ingest-requires : goal.ingest-requires
ingest-requires g c = subst (λ (h : Head). IsBatch h c.args.store.now.history c.in-Some.batch) c.head.ensures.head (c.in-Some.ensures c.args.store.now.history)

pub returns-in_default : goal.returns-in_default
returns-in_default g c = let s = c.args.store.now in goes_same s s refl refl refl refl refl refl
