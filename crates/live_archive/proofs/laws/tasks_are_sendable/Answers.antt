use denote.Param.Send.{sendable}
use Rattle.std.proofs.Crossing.{crosses}
use Rattle.archive_store.proofs.Sending.{mdb_send, mdb_sync}
use Rattle.live_archive.proofs.laws.tasks_are_sendable.Goals as goal

pub is_sendable-requires-send-T : goal.is_sendable-requires-send-T
is_sendable-requires-send-T c κs = search (crosses, mdb_send, mdb_sync, sendable) depth 60
