use Rattle.live_tests.proofs.Shares.{same_share}
use Rattle.live_tests.proofs.calls.ingested.Goals as goal

pub ingest-requires-clause-batch : goal.ingest-requires-clause-batch
ingest-requires-clause-batch g c = c.in_ok-batch.ensures c.args.live.now.cell.first.store.head c.args.pass.now.history.seen c.requires.names

pub returns-in-Ok-clause-share : goal.returns-in-Ok-clause-share
returns-in-Ok-clause-share g c = same_share c.in-Ok.ensures.turn
